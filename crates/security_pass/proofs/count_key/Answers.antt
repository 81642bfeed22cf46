use Rattle.std.proofs.Common.{sym, ◌∙◌}
use Rattle.security_pass.proofs.Laws.{key_below, key-stop}
use Rattle.security_pass.proofs.Rooms.{some_level}
use Rattle.security_pass.proofs.count_key.Goals as goal

pub returns-then-visit : goal.returns-then-visit
returns-then-visit c =
    let v = c.visit.ensures in
    let s = key-stop _ _ _ _ c.args.levels _ _ _ (some_level c.requires.legible) v.counts_after (sym v.value ∙ c.if-visit.true) in
    record { value = s.sought; counts_after = s.counts }

pub returns : goal.returns
returns c =
    let v = c.visit.ensures in
    let l = c.count_list.ensures in
    let s = key_below _ _ _ _ c.args.levels _ _ _ (some_level c.requires.legible) v.counts_after (sym v.value ∙ c.if-visit.false) l.value l.counts_after in
    record { value = s.sought; counts_after = s.counts }
