use Rattle.listing.proofs.Pieces.{given-on, given-room}
use mathlib.Core.Path.{sym, ◌∙◌}
use Rattle.listing.proofs.key_security.Goals as goal

pub bins_of-requires : goal.bins_of-requires
bins_of-requires c = given-on _ _ (sym c.given_flaw.ensures ∙ c.in_ok-given_flaw.was)

pub security_below-requires : goal.security_below-requires
security_below-requires c = rw c.bins_of.ensures (given-room _ _ (sym c.given_flaw.ensures ∙ c.in_ok-given_flaw.was))
