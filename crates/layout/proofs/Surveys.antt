-- The tests 1 to 10 accept a built hive, whatever the work map holds, if it has room; and after them the map is that of its cells.
use Prim.Native.Nat.{ℕ, ◌-◌, ◌/◌, ◌≤◌}
use mathlib.Core.Path.{◌≡◌, sym}
use mathlib.Core.List.{List}
use lib.ListN.{length}
use Rattle.base.specs.Block.{bins_limit}
use Rattle.cells.specs.declared.Tally.{Tally}
use Rattle.cells.specs.Survey.{front_fault, survey_answer}
use Rattle.cells.proofs.Fronts.{front-good, survey-on}
use Rattle.cells.proofs.Mapped.{After, surveyed}
use Rattle.forest.specs.Forest.{Forest}
use Rattle.layout.specs.Layout.{used_of, bins_for, bins_of, built_hive}
use Rattle.layout.proofs.Base.{built-bins, built-data, built-base}
use Rattle.layout.proofs.Built.{bins-survey}
use Rattle.std.specs.Prelude.{Ok}

-- one bin, its cells in use and the free one
abbrev pub tally_of : Forest → ℕ → Tally
tally_of f n = record { bins = 1; used = used_of f n - 32; free = bins_for f n - used_of f n }

module _ (f : Forest) (sd m : List ℕ) (fits : bins_for f (length sd) ≤ bins_limit) (room : bins_for f (length sd) / 64 ≤ length m) where
  pub built-front : front_fault (built_hive f sd) (length m) ≡ Ok tt
  built-front = front-good (built_hive f sd) (length m) (built-base f sd fits) (rw (built-bins f sd fits) room)

  pub built-survey : survey_answer (built_hive f sd) (length m) ≡ Ok (tally_of f (length sd))
  built-survey =
      (survey-on (built_hive f sd) m (bins_of f sd) (Ok (tally_of f (length sd))) built-front (sym (built-data f sd fits)) (sym (bins-survey f sd fits))).0

  pub built-after : After (built_hive f sd) m (tally_of f (length sd))
  built-after = (surveyed (built_hive f sd) m (tally_of f (length sd)) built-survey).1
