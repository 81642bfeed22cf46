use Rattle.build_frames.proofs.Names.{value-named}
use Rattle.build_frames.proofs.is_value_name.Goals as goal

pub returns : goal.returns
returns c =
    λ s l. value-named s _ l
