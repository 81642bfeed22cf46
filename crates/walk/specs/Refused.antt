-- What a refusal of a walk says: the table's rows 1 to 7, 11, 12, 15 and 20, each with its reason, and the key under examination. h is the hive, ws the words
-- of the cursor, n how many keys are open.
use Rattle.std.specs.Prelude.{ℕ, ◌+◌, ◌*◌, ◌≤◌, ◌<◌, length}
use mathlib.Core.List.{List, Memᴰ}
use Rattle.fields.specs.declared.Fault.TheVariants.{Level, OutputShort}
use Rattle.fields.specs.declared.Flaw.{Flaw}
use Rattle.fields.specs.declared.Offset.{Offset}
use Rattle.fields.specs.Faults.{flaw, nowhere, no_key}
use Rattle.base.specs.Block.{bins_data}
use Rattle.base.specs.Refused.{OfBase}
use Rattle.cells.specs.Rule.{Header}
use Rattle.records.specs.declared.Child.{Child}
use Rattle.records.specs.Lists.{children}
use Rattle.values.specs.Refused.{a_key, Fit, Unfit, Among, Lists}
use Rattle.tree.specs.Tree.{levels, hive_of}
use Rattle.walk.specs.Answers.{key_at}

-- begin: no key is named
pub data OfBegin (h ws : List ℕ) : Flaw → Type 0 where
  begin-base : {f : Flaw} → OfBase h f → OfBegin h ws f
  -- 11 and 12: the root
  of-root : {f : Flaw} → Unfit Header (bins_data h) a_key (hive_of h).root f → OfBegin h ws f
  -- 20: "fewer than 3 words"
  no_start : length ws < 3 → OfBegin h ws (flaw OutputShort nowhere)

-- step: the key under examination, and the flaw
pub data OfStep (h ws : List ℕ) (n : ℕ) : Offset → Flaw → Type 0 where
  of-base : {f : Flaw} → OfBase h f → OfStep h ws n no_key f
  -- 20: "fewer than 3 x depth words"
  no_words : length ws < 3 * n → OfStep h ws n no_key (flaw OutputShort nowhere)
  -- 11 and 12: the open key, and what it names
  of-key : {f : Flaw} → Unfit Header (bins_data h) a_key (key_at ws n) f → OfStep h ws n no_key f
  of-named : {f : Flaw} → Fit Header (bins_data h) a_key (key_at ws n) → Among Header (bins_data h) (Lists Header (bins_data h) (key_at ws n)) f
      → OfStep h ws n (key_at ws n) f
  -- 15: "depth 513 or more: 15 at c (key c)"
  too-deep : {c : Child} → Memᴰ c (children (bins_data h) (key_at ws n)) → levels ≤ n → OfStep h ws n c.at (flaw Level c.at)
  -- 20: "fewer than 3 x (depth + 1) words"
  no_room : length ws < 3 * (n + 1) → OfStep h ws n (key_at ws n) (flaw OutputShort nowhere)
