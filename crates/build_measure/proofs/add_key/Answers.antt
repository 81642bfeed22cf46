use native.Mathlib.Omega.{arith}
use Rattle.build_measure.proofs.Sums.{key-few}
use Rattle.build_measure.proofs.add_key.Goals as goal

pub overflow_add-own : goal.overflow_add-own
overflow_add-own c =
    let x = c.requires in
    let a = c.args in
    let k = key-few _ _ x.lies x.short in omega (arith, x.below-fits, x.size_fits, c.key_size-own.ensures, k)

pub overflow_add-w : goal.overflow_add-w
overflow_add-w c =
    let x = c.requires in
    let a = c.args in
    let k = key-few _ _ x.lies x.short in omega (arith, x.below-fits, x.size_fits, c.key_size-own.ensures, k)
