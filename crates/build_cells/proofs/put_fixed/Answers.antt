use Rattle.build_cells.proofs.Laws.{fixed-put}
use native.Mathlib.Omega.{arith}
use Rattle.build_cells.proofs.put_fixed.Goals as goal

pub returns : goal.returns
returns c =
    rw (
      c.put_four-4.ensures,
      c.put_four-3.ensures,
      c.put_four-2.ensures,
      c.put_four.ensures,
      c.put_u64.ensures,
      c.put_u16-2.ensures,
      c.put_u16.ensures,
    )
    (fixed-put
    c.args.k.flags
    c.args.k.stamp
    c.args.k.parent
    c.args.k.subkeys
    c.args.k.leaf
    c.args.k.values
    c.args.k.list
    c.args.k.item
    c.args.k.longest_key
    c.args.k.longest_name
    c.args.k.longest_data
    c.args.len
    c.args.out.now
    c.args.at
    (omega (
      arith,
      c.ranges,
    )))
