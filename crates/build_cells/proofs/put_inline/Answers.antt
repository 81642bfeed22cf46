use Rattle.build_cells.proofs.Laws.{inline-put}
use Rattle.build_cells.proofs.put_inline.Goals as goal

pub returns : goal.returns
returns c =
    rw (c.put_zeros.ensures, c.put_copy.ensures, c.put_u32.ensures)
    (inline-put c.args.body.now 0 c.args.out.now c.args.at c.requires.0)
