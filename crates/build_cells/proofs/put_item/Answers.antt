use Rattle.build_cells.proofs.Frame.{item-put}
use Rattle.layout.proofs.Sizes.{cell_room}
use Prim.Native.Nat.{◌+◌}
use lib.ListN.{length}
use native.Mathlib.Omega.{arith}
use Rattle.build_cells.proofs.put_item.Goals as goal

pub put_size-requires : goal.put_size-requires
put_size-requires c = (
  omega (arith, c.requires.descriptor_bound.0),
  omega (arith, cell_room (20 + length c.args.descriptor.now), c.requires.descriptor_in_bounds),
)

pub put_u32-requires : goal.put_u32-requires
put_u32-requires c =
    omega (
      arith,
      cell_room (20 + length c.args.descriptor.now),
      c.requires.descriptor_in_bounds,
    )

pub put_four-requires : goal.put_four-requires
put_four-requires c =
    omega (
      arith,
      cell_room (20 + length c.args.descriptor.now),
      c.requires.descriptor_in_bounds,
    )

pub put_copy-requires : goal.put_copy-requires
put_copy-requires c =
    omega (
      arith,
      cell_room
          (20 + length
          c.args.descriptor.now),
      c.requires.descriptor_in_bounds,
    )

pub returns : goal.returns
returns c =
    rw (
      c.put_pad.ensures,
      c.put_copy.ensures,
      c.put_four.ensures,
      c.put_u32.ensures,
      c.put_size.ensures,
    )
    (item-put c.args.offset c.args.keys c.args.descriptor.now c.args.out.now c.args.at)
