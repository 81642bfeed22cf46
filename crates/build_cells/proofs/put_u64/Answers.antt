use Rattle.build_cells.proofs.Laws.{eight-put}
use mathlib.Core.Path.{◌∙◌}
use Rattle.build_cells.proofs.put_u64.Goals as goal

pub returns : goal.returns
returns c =
    c.put_two.ensures
    ∙ eight-put c.args.out.now c.args.at
    c.args.v
