use Rattle.build_cells.proofs.Laws.{two-put}
use Rattle.build_cells.proofs.put_two.Goals as goal

pub returns : goal.returns
returns c =
    rw (c.put_u32-2.ensures, c.put_u32.ensures)
    (two-put c.args.out.now c.args.at c.args.a c.args.b)
