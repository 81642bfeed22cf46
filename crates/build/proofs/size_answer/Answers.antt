use mathlib.Core.Path.{◌∙◌}
use Rattle.build.proofs.Sizes.{keys-past, descriptor-past, bins-past, bins-within}
use Rattle.build.proofs.size_answer.Goals as goal
use Rattle.build.proofs.size_answer.Goals.{then-size-gt2147479552-via-then-size-gt2147479552, then-size-gt2147479552-via-else-size-gt2147479552+then-n-gt2147479552}

pub returns-then-size-gt2147479552 : goal.returns-then-size-gt2147479552
returns-then-size-gt2147479552 c = λ t e. elim c.then-size-gt2147479552.branch [
  | then-size-gt2147479552-via-then-size-gt2147479552 w ↦ c.refuse_size.ensures ∙ keys-past t c.args.n _ e w.if-size-gt2147479552.true
  | then-size-gt2147479552-via-else-size-gt2147479552+then-n-gt2147479552 w ↦
      c.refuse_size.ensures ∙ descriptor-past t _ _ e w.if-n-gt2147479552.true
]

pub returns-then-bins-gt2147479552 : goal.returns-then-bins-gt2147479552
returns-then-bins-gt2147479552 c = λ t e.
    c.refuse_size-then-bins-gt2147479552.ensures
    ∙ bins-past t _ _ e c.if-size-gt2147479552.false c.bins_size-bins.ensures c.if-bins-gt2147479552.true

pub returns : goal.returns
returns c = λ t e. bins-within t _ _ e c.if-size-gt2147479552.false c.bins_size-bins.ensures c.if-bins-gt2147479552.false
