use Rattle.tree.proofs.Secures.{asked}
use Rattle.tree.proofs.check_items.Goals as goal

pub security_charge-requires : goal.security_charge-requires
security_charge-requires c = asked c.args.hive.now _ c.bins_of.ensures c.root_of-root.ensures _ c.requires
