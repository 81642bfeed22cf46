use Rattle.build_cells.proofs.Laws.{four-put}
use Rattle.build_cells.proofs.put_four.Goals as goal

pub returns : goal.returns
returns c =
    rw (c.put_two-2.ensures, c.put_two.ensures)
    (four-put c.args.out.now c.args.at c.args.a c.args.b c.args.c c.args.d)
