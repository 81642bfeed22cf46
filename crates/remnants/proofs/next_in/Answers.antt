use Rattle.std.proofs.Common.{Ok, Some, sym, ap, ◌∙◌}
use Rattle.remnants.specs.declared.Remain.{Remain}
use Rattle.remnants.specs.Remnants.{first_of}
use Rattle.remnants.proofs.Seeks.{none_left, one_left}
use Rattle.remnants.proofs.next_in.Goals as goal

pub returns-in_default : goal.returns-in_default
returns-in_default c = sym (ap first_of (none_left c.first-c.ensures c.in_default.is))

pub returns : goal.returns
returns c =
    ap (λ (x : Remain). Ok (Some x)) c.remain_at.ensures.value ∙ sym (ap first_of (one_left c.first-c.ensures c.in-Some.is))
