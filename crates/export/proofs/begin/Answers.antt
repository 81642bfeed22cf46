use mathlib.Core.Path.{sym, ap, ◌∙◌}
use mathlib.Core.List.{[], ◌∷◌}
use native.Mathlib.Omega.{arith}
use lib.Seq.{sets}
use Rattle.fields.specs.declared.Offset.{Offset}
use Rattle.export.proofs.Calls.{begin-short, begin-on}
use Rattle.export.proofs.Refusals.{begin-unread}
use Rattle.export.proofs.begin.Goals as goal

pub returns-in_err-check-clause-levels_after : goal.returns-in_err-check-clause-levels_after
returns-in_err-check-clause-levels_after c =
    sym (begin-unread c.args.hive.now c.args.map.now (sym c.check.ensures.value ∙ c.in_err-check.was) c.args.levels.now).1

pub returns-then-levels-lt-WORDS-clause-levels_after : goal.returns-then-levels-lt-WORDS-clause-levels_after
returns-then-levels-lt-WORDS-clause-levels_after c =
    let e = sym c.check.ensures.value ∙ c.in_ok-check.was in
    sym (begin-short c.args.hive.now c.args.map.now c.args.levels.now e (omega arith)).1

pub returns-clause-levels_after : goal.returns-clause-levels_after
returns-clause-levels_after c =
    let e = sym c.check.ensures.value ∙ c.in_ok-check.was in
    let q = begin-on c.args.hive.now c.args.map.now c.args.levels.now e (omega arith) in
    c.put_key.ensures ∙ ap (λ (o : Offset). sets c.args.levels.now 0 (o.0 ∷ 0 ∷ 0 ∷ [])) c.root_of.ensures ∙ sym q.1
