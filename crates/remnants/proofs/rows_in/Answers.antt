use Rattle.std.proofs.Common.{◌≡◌, Err, None, rules, ap, ◌∙◌}
use Rattle.remnants.proofs.Seeks.{a-kind, none_left, one_left, from_start}
use Rattle.remnants.proofs.Stores.{rows_none, rows_short, rows-some}
use Rattle.remnants.proofs.rows_in.Goals as goal

pub returns-then-is_none : goal.returns-then-is_none
returns-then-is_none c =
    let e : c.first-c.result.kind ≡ None = search rules in
    let w = rows_none c.args.rows.now (none_left c.first-c.ensures e) in
    record { value = w.0; rows_after = w.1 }

pub returns-then-rows-lt4 : goal.returns-then-rows-lt4
returns-then-rows-lt4 c =
    let n : (c.first-c.result.kind ≡ None → ⊥) = λ e. search rules in
    let w = rows_short c.args.rows.now c.if-rows-lt4.true (one_left c.first-c.ensures (a-kind _ n).1) in
    record { value = ap Err c.from.ensures ∙ w.0; rows_after = w.1 }

pub returns : goal.returns
returns c =
    let v = c.first-c.ensures in
    let n : (c.first-c.result.kind ≡ None → ⊥) = λ e. search rules in
    let w = rows-some c.args.rows.now c.if-rows-lt4.false (one_left v (a-kind _ n).1) (from_start v) c.fill.ensures.value c.fill.ensures.rows_after in
    record { value = w.0; rows_after = w.1 }
