use native.Mathlib.Omega.{arith}
use mathlib.Core.List.{List}
use mathlib.Core.Path.{◌≡◌, sym, ap, ◌∙◌}
use Rattle.std.proofs.Common.{ℕ}
use Rattle.log_entries.specs.declared.Chain.{Chain}
use Rattle.new_log.specs.Tests as new_tests
use Rattle.old_log.specs.Tests as tests
use Rattle.sectors.specs.Sector.{stored}
use Rattle.logs.specs.declared.LogFormat.TheVariants.{Old, New}
use Rattle.logs.specs.Logs.{read_of, closing_of}
use Rattle.logs.proofs.store_closing.Goals as goal

old_closes : (l : List ℕ) → Old ≡ read_of l → closing_of l ≡ tests.closing_of l
unfolding read_of closing_of
old_closes l e = grind arith

new_closes : (l : List ℕ) (k : Chain) → New k ≡ read_of l → closing_of l ≡ new_tests.closing_of l
unfolding read_of closing_of
new_closes l k e = grind arith

pub returns-in-Old : goal.returns-in-Old
returns-in-Old c =
    c.store_closing.ensures ∙ sym (ap (stored c.args.hive.now 0) (old_closes _ (sym c.in-Old.is ∙ c.requires.read_value)))

pub returns-in-New : goal.returns-in-New
returns-in-New c =
    c.store_closing-in-New.ensures ∙ sym (ap (stored c.args.hive.now 0) (new_closes _ _ (sym c.in-New.is ∙ c.requires.read_value)))
