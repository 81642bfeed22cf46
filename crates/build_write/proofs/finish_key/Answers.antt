use mathlib.Core.Path.{◌∙◌}
use Rattle.build_write.proofs.Values.{max-larger}
use Rattle.build_write.proofs.Trees.{leaf-ready, finished}
use Rattle.build_write.proofs.finish_key.Goals as goal

pub put_leaf-requires : goal.put_leaf-requires
put_leaf-requires c = leaf-ready _ _ _ _ _ _ _ _ _ _ _ c.requires.0.6

pub returns : goal.returns
returns c =
    λ n sh x vs b t u. finished _ _ _ _ _ _ _ _ _ _ _ u _ _ _ _ _ _ _ c.put_leaf.ensures
    c.put_own.ensures c.frame_end.ensures c.leaf_size.ensures (c.max.ensures ∙ max-larger _ _)
