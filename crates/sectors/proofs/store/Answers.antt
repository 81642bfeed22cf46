use Rattle.std.proofs.Common.{arith}
use Rattle.std.proofs.Math.Nat.{add-sub_cancel_left}
use Rattle.std.proofs.lemmas.Grind.{common_steps}
use Rattle.sectors.proofs.store.Goals as goal

pub returns : goal.returns
returns c = grind (arith, common_steps, add-sub_cancel_left c.args.to.0 512, add-sub_cancel_left c.args.from.0 512)
