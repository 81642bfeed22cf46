use Rattle.build_cells.proofs.Frame.{front-put}
use Rattle.build_cells.proofs.put_front.Goals as goal

pub returns : goal.returns
returns c =
    rw (
      c.put_zeros.ensures,
      c.put_u32-2.ensures,
      c.put_two-2.ensures,
      c.put_four.ensures,
      c.put_u64.ensures,
      c.put_two.ensures,
      c.put_u32.ensures,
    )
    (front-put c.args.out.now c.args.stamp c.args.size)
