use native.Mathlib.Omega.{arith}
use Rattle.build_measure.proofs.Sums.{leaf-few, close-laid}
use Rattle.build_measure.proofs.end_key.Goals as goal

pub frame_end-requires : goal.frame_end-requires
frame_end-requires c =
    close-laid c.requires.0

pub overflow_add-w : goal.overflow_add-w
overflow_add-w c =
    let x = c.requires in
    omega (arith, x.1, x.2, c.leaf_size.ensures, leaf-few c.args.w.subkeys)
