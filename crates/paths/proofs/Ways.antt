-- The lemmas that the calls for a key are proved by: for a key's record, a path, a step, and a way along a path.
use Rattle.records.proofs.LawsAnswer.{keyed-whole, keyed-flawed}
use Rattle.records.proofs.LawsKey.{key-room}
use Rattle.paths.proofs.Descents.{descended-end, descended-missing}
use Rattle.paths.proofs.Opens.{ask-facts, open_is, open-facts}
use Rattle.paths.proofs.StepTests.{step-empty, step-long, step-plain, step-parts, step-path}

pub ruleset key_ways = (keyed-whole, keyed-flawed)

pub ruleset path_ways = (open_is, open-facts)

pub ruleset step_ways = (ask-facts, step-path, step-parts)

pub ruleset step_tests = (step-empty, step-long, step-plain)

pub ruleset descents = (key-room, descended-end, descended-missing)
