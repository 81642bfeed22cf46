-- The tests of a new-format log and of a hive with it, and its closing sector.
use Rattle.std.specs.Prelude.{ℕ, Bool, true, false, cond, not, ◌&&◌, List, [], ◌∷◌, eqb, leb, length, Err, Ok, Result}
use Rattle.std.proofs.lemmas.List.Edits.{sets}
use Rattle.fields.specs.declared.Fault.TheVariants.{LogBase, LogShort}
use Rattle.fields.specs.Number.{u32_at, u64_at, le32}
use Rattle.fields.specs.Faults.{flaw, nowhere, unless, ◌next◌, Verdict}
use Rattle.base.specs.Block.{sector, usable, is_settled}
use Rattle.sectors.specs.Sector.{page}
use Rattle.sectors.specs.Closing.{closing_sector}
use Rattle.log_entries.specs.Entries.{Entry, counted, chain_of}
use Rattle.log_versions.specs.Versions.{versions_of}
use Rattle.log_entries.specs.declared.Chain.{Chain}
use Rattle.fields.specs.declared.Flaw.{Flaw}

abbrev pub is_empty : List Entry → Bool
is_empty [] = true
is_empty (e ∷ es) = false

-- of a log's first sector: a base block that is not usable (type 6), or whose sequence numbers differ, is 21
unfoldable pub is_log_base : List ℕ → Bool
is_log_base s = usable s 6 && is_settled s

-- 21; "A log without a valid entry gets 22."
unfoldable pub log_fault : List ℕ → Verdict
log_fault l =
    unless (leb 512 (length l)) (flaw LogBase nowhere)
    next unless (is_log_base (sector l)) (flaw LogBase nowhere)
    next unless (not (is_empty (counted l))) (flaw LogShort nowhere)

-- the log's tests give its flaw, or what one pass over its entries finds
abbrev pub headed : Verdict → Chain → Result Chain Flaw
headed (Ok tt) c = Ok c
headed (Err f) c = Err f

-- every version bears the stamp s at 20
unfoldable pub all_stamped : ℕ → List (List ℕ) → Bool
all_stamped s [] = true
all_stamped s (x ∷ xs) = eqb (u64_at x 20) s && all_stamped s xs

-- 25, "the new format's own test": a usable hive's second sequence number is the log's; "where it looks at the first bin every logged version of page 0
-- must pass it"
unfoldable pub applies : List ℕ → List ℕ → Bool
applies h l =
    cond (usable (sector h) 0) (eqb (u32_at (sector h) 8) (u32_at (sector l) 4))
    (eqb (u64_at (page h 0) 20) (u64_at (sector l) 12) && all_stamped (u64_at (sector l) 12) (versions_of l 0))

-- a base block s with n for both sequence numbers, and the bins size b
abbrev pub renewed : List ℕ → ℕ → ℕ → List ℕ
renewed s n b = sets (sets (sets s 4 (le32 n)) 8 (le32 n)) 40 (le32 b)

-- "the closing sector takes the last counted entry's bins size, and its number in both sequence fields"
unfoldable pub closing_of : List ℕ → List ℕ
closing_of l = closing_sector (renewed (sector l) (chain_of l).last (chain_of l).bins)
