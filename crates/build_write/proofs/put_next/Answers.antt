use mathlib.Core.Path.{refl, ◌∙◌}
use Rattle.build_write.proofs.Values.{max-larger, one_more}
use Rattle.build_write.proofs.put_next.Goals as goal

pub returns : goal.returns
returns c =
    λ v e. one_more _ _ _ _ _ _ c.held_at-v.ensures c.put_held-end.ensures.out_after c.put_held-end.ensures.value c.frame_end.ensures refl
    (c.max.ensures ∙ max-larger _ _) (c.max-2.ensures ∙ max-larger _ _) v e
