use Rattle.build_cells.proofs.Laws.{field-alone, far-put}
use lib.Seq.{sets}
use mathlib.Core.Path.{ap, ◌∙◌}
use Rattle.build_cells.proofs.put_field.Goals as goal

pub returns-then-n-le4 : goal.returns-then-n-le4
returns-then-n-le4 c =
    c.put_inline.ensures
    ∙ ap (sets c.args.out.now c.args.at) (field-alone c.args.body.now c.args.next c.if-n-le4.true)

pub returns-else-n-le4 : goal.returns-else-n-le4
returns-else-n-le4 c =
    c.put_two.ensures
    ∙ far-put c.args.body.now c.args.next c.args.out.now c.args.at c.if-n-le4.false
