use Rattle.build_cells.proofs.Frame.{header-put}
use Rattle.build_cells.proofs.put_header.Goals as goal

pub returns : goal.returns
returns c =
    rw (c.put_u32-2.ensures, c.put_u64.ensures, c.put_u32.ensures, c.put_four.ensures)
    (header-put c.args.out.now c.args.stamp c.args.size)
