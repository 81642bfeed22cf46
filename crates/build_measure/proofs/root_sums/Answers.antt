use native.Mathlib.Omega.{arith}
use Rattle.build_measure.proofs.Sums.{key-few}
use Rattle.build_measure.proofs.root_sums.Goals as goal

pub overflow_add-own : goal.overflow_add-own
overflow_add-own c =
    let x = c.requires in let k = key-few _ _ x.lies x.short in omega (arith, x.below-fits, c.key_size-own.ensures, k)
