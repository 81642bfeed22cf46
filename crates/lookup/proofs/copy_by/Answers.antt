use Rattle.lookup.proofs.Value_answers.{info-found}
use Rattle.lookup.proofs.Answered.{info-answered}
use mathlib.Core.Path.{sym, ap, ◌∙◌}
use Rattle.lookup.proofs.copy_by.Goals as goal
use Rattle.std.specs.Prelude.{Ok}

-- what is told of the value that is found is what `info_by` answers
pub copy_info-requires : goal.copy_info-requires
copy_info-requires c =
    let found = sym c.value_look.ensures ∙ c.in_ok-key.was ∙ ap Ok c.in-Found.is in
    let told = rw (← c.bins_of.ensures, ← c.minor_of.ensures) at (info-found _ _ _ _ found) in
    let a = info-answered _ _ _ _ (told ∙ sym c.whole_info.ensures ∙ c.in_ok-i-in-Found.was) in
    record { hive_value = a.base; lies = a.lies; len_value = a.long }
