use Rattle.listing.proofs.Members.{info-told}
use mathlib.Core.Path.{sym, ◌∙◌}
use Rattle.listing.proofs.copy_at.Goals as goal

pub copy_info-requires-clause-lies : goal.copy_info-requires-clause-lies
copy_info-requires-clause-lies c = (info-told _ _ (sym c.info_at.ensures ∙ c.in_ok-i.was)).1
