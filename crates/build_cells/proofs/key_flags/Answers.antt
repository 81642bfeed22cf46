use Rattle.build_cells.proofs.Laws.{flag_small}
use Rattle.layout.specs.Layout.{nothing}
use lib.Dec.{eqb}
use native.Mathlib.Omega.{arith}
use Rattle.build_cells.proofs.key_flags.Goals as goal

pub overflow_add-result : goal.overflow_add-result
overflow_add-result c =
    omega (
      arith,
      c.flag.ensures,
      c.flag-2.ensures,
      flag_small c.args.narrow 32,
      flag_small (eqb c.args.parent nothing) 12,
    )
