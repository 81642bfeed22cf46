use Rattle.build_cells.proofs.Frame.{base-put}
use Rattle.base.specs.Block.{stored_checksum}
use mathlib.Core.Path.{ap, ◌∙◌}
use native.Mathlib.Omega.{arith}
use Rattle.build_cells.proofs.put_base.Goals as goal

pub returns : goal.returns
returns c =
    rw (
      c.put_zeros.ensures,
      c.put_u32.ensures,
      c.put_front.ensures,
    )
    (base-put c.args.out.now
    c.args.stamp
    c.args.size _
    (omega (arith, c.requires))
    (c.stored_checksum-sum.ensures
    ∙ ap stored_checksum c.put_front.ensures))
