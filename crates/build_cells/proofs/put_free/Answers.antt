use Rattle.build_cells.proofs.Frame.{free-none, free-put}
use Rattle.build_cells.proofs.put_free.Goals as goal

pub returns-then-n-eq0 : goal.returns-then-n-eq0
returns-then-n-eq0 c = free-none c.args.out.now c.args.at c.args.n c.if-n-eq0.true

pub returns : goal.returns
returns c =
    rw (c.put_zeros.ensures, c.put_u32.ensures)
    (free-put c.args.out.now c.args.at c.args.n c.if-n-eq0.false)
