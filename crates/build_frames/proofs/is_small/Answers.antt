use Rattle.build_frames.proofs.Names.{value-small}
use Rattle.build_frames.proofs.is_small.Goals as goal

pub returns : goal.returns
returns c =
    λ s l. value-small s _ l
