use Rattle.std.proofs.Common.{arith, ℕ, false, not, sym, ap, ◌∙◌, List}
use Rattle.std.proofs.lemmas.Grind.{common_steps}
use Rattle.names.specs.Codes.{codes, has_code, backslash}
use Rattle.build_frames.specs.Terms.{name_in}
use Rattle.build_frames.proofs.Names.{key-empty, key_long, key-by-backslash}
use Rattle.build_frames.proofs.is_key_name.Goals as goal

pub returns-then-contains : goal.returns-then-contains
unfolding name_in
returns-then-contains c =
    let h = rw (c.new.ensures.start, c.new.ensures.end, c.if-contains.true) at c.contains.ensures.cases in
    λ n. ap not (c.has_in_turn.ensures ∙ ap (λ (x : List ℕ). has_code backslash (codes false x)) c.part_of.ensures)
    ∙ sym (key-by-backslash _ _ c.requires n (grind (arith, common_steps)) (grind (arith, common_steps)))

pub returns-else-contains : goal.returns-else-contains
returns-else-contains c =
    let h = rw (c.new.ensures.start, c.new.ensures.end, c.if-contains.false) at c.contains.ensures.cases in
    λ n. grind (arith, common_steps, key-empty, key_long)
