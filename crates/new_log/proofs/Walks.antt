-- What the loops over a log's versions need.
use Rattle.log_versions.proofs.Walked.{fewer, named_here, named-beside, place_here, place-beside}
use Rattle.new_log.proofs.Stamps.{stamped-on, stamped-not}
use Rattle.new_log.proofs.Windows.{begins, goes, ends}

pub ruleset naming = (fewer, named_here, named-beside)

pub ruleset placing = (fewer, place_here, place-beside)

pub ruleset stamping = (fewer, stamped-on, stamped-not)

pub ruleset windows = (fewer, begins, goes, ends)
