-- A dirty hive that is to be read as it is, in private memory: where its sequence numbers differ and nothing else of 1 to 7 is wrong, they are made equal.
-- h is the hive.
use Rattle.std.specs.Prelude.{ℕ, ◌≤◌, ◌<◌, ◌≡◌, Bool, true, false, cond, List, ◌↔◌, ◌⊎◌, eqb, length, get_or, Err, Ok, Result}
use Rattle.fields.specs.declared.Flaw.{Flaw}
use Rattle.fields.specs.Faults.{number_of, no_key, refusal_of, Verdict}
use Rattle.base.specs.Block.{sector, clean, base_fault}
use Rattle.base.specs.Refused.{OfBase}
use Rattle.sectors.specs.Sector.{stored}
use Rattle.sectors.specs.Settling.{settled_sector}
use Rattle.recovery.specs.declared.Stepped.TheVariants.{Clean, Done}
use Rattle.recovery.specs.Calls.{changed}
use Rattle.fields.specs.declared.Refusal.{Refusal}
use Rattle.recovery.specs.declared.Stepped.{Stepped}

-- 7 is the last of the reader's tests 1 to 7: where it answers, the others have passed
abbrev pub settled_by : Verdict → Result Stepped Refusal
settled_by (Ok tt) = Ok Clean
settled_by (Err f) = cond (eqb (number_of f.fault) 7) (Ok Done) (Err (refusal_of no_key f))

unfoldable pub settle_answer : List ℕ → Result Stepped Refusal
settle_answer h = settled_by (base_fault h)

unfoldable pub settle_hive : List ℕ → List ℕ
settle_hive h = changed (settle_answer h) (stored h 0 (settled_sector (sector h))) h

-- why it is refused: one of 1 to 6
pub data OfSettle (h : List ℕ) : Flaw → Type 0 where
  of-base : {f : Flaw} → OfBase h f → number_of f.fault ≤ 6 → OfSettle h f

abbrev pub is_refused : Result Stepped Refusal → Bool
is_refused (Ok Clean) = false
is_refused (Ok Done) = false
is_refused (Err r) = true

-- what it is worth, where h is bytes
pub record Settles (h : List ℕ) : Type 0 where
  -- the reader's tests 1 to 7 find nothing afterwards, exactly where it is not refused; so there the first sector is clean
  pub reads : (base_fault (settle_hive h) ≡ Ok tt) ↔ (is_refused (settle_answer h) ≡ false)
  pub is-clean : is_refused (settle_answer h) ≡ false → clean (sector (settle_hive h)) ≡ true
  -- bytes 8 to 11 and 508 to 511 may change, and no other
  pub as_long : length (settle_hive h) ≡ length h
  pub apart : (i : ℕ) → (i < 8) ⊎ (12 ≤ i) → (i < 508) ⊎ (512 ≤ i) → get_or (settle_hive h) i 0 ≡ get_or h i 0
