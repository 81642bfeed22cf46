use Rattle.build_cells.proofs.Segments.{db-put}
use Rattle.build_frames.proofs.Sizes.{cell-eight}
use native.Mathlib.Omega.{arith}
use Rattle.build_cells.proofs.put_db.Goals as goal

pub put_pad-requires : goal.put_pad-requires
put_pad-requires c =
    let e = cell-eight in (
      omega arith,
      omega (
        arith,
        c.requires.at_in_bounds,
      ),
    )

pub returns : goal.returns
returns c =
    rw (
      c.put_pad.ensures,
      c.put_u32.ensures,
      c.put_u16-2.ensures,
      c.put_u16.ensures,
      c.put_size.ensures,
    )
    (db-put c.args.out.now c.args.at c.args.count c.args.list)
