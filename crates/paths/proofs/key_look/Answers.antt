use Rattle.std.proofs.Common.{sym, ◌∙◌}
use Rattle.paths.proofs.Opens.{ask-facts}
use Rattle.paths.proofs.key_look.Goals as goal

pub lookup_key-requires : goal.lookup_key-requires
lookup_key-requires c = sym c.is_path.ensures ∙ (ask-facts _ _ (sym c.ask_flaw.ensures ∙ c.in_ok-ask_flaw.was)).1
