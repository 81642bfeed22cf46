-- What is reported, said without a walk or a test; and how a caller goes through it. d is the bins data and h the hive.
use Rattle.std.specs.Prelude.{ℕ, ◌+◌, ◌*◌, ◌%◌, ◌≤◌, ◌<◌, ◌≡◌, List, [], ◌∷◌, ◌++◌, length, drop, None, Ok, Some}
use Rattle.fields.specs.Number.{size_at}
use Rattle.cells.specs.Free.{FreeBin}
use Rattle.records.specs.Facts.{KeyRecord}
use Rattle.values.specs.Facts.{OldValueRecord}
use Rattle.remnants.specs.declared.Kind.TheVariants as kind
use Rattle.remnants.specs.declared.Remain.{Remain}
use Rattle.remnants.specs.Remnants.{rest_of, remain_of, remnant_answer, rows_answer, rows_of, rows_out}

-- "every offset that is a multiple of 8 inside a free cell (its start counts)": o in the free cell at an offset
pub record Inside (d : List ℕ) (start o : ℕ) : Type 0 where
  pub free : FreeBin d start 0
  pub after : start ≤ o
  pub before : o < start + (size_at d start).bytes
  pub eights : o % 8 ≡ 0

-- the bytes from 4 past o to the end of the free cell at an offset
abbrev pub rest_in : List ℕ → ℕ → ℕ → List ℕ
rest_in d start o = rest_of d o (start + (size_at d start).bytes)

-- "and has "nk" or "vk" 4 bytes further on, where the record starting there ends inside that free cell and has an admissible name. Each is reported
-- with its kind and name length"
pub data Left (d : List ℕ) (x : Remain) : Type 0 where
  a_key : {start : ℕ} → Inside d start x.at.0 → KeyRecord (rest_in d start x.at.0)
      → x ≡ remain_of kind.Key (rest_in d start x.at.0) x.at.0 → Left d x
  a-value : {start : ℕ} → Inside d start x.at.0 → OldValueRecord (rest_in d start x.at.0)
      → x ≡ remain_of kind.Value (rest_in d start x.at.0) x.at.0 → Left d x

-- "in rising order": the offsets, from one on, ascend strictly
pub data Rises : ℕ → List Remain → Type 0 where
  rises-end : {from : ℕ} → Rises from []
  rises-on : {from : ℕ} {x : Remain} {xs : List Remain} → from ≤ x.at.0 → Rises (x.at.0 + 1) xs → Rises from (x ∷ xs)

-- "by steps that resume at an offset": the answers of steps from an offset on, each from the one found before + 1, until "done"
pub data Steps (h : List ℕ) : ℕ → List Remain → Type 0 where
  step-done : {from : ℕ} → remnant_answer h from ≡ Ok None → Steps h from []
  step-on : {from : ℕ} {x : Remain} {xs : List Remain} → remnant_answer h from ≡ Ok (Some x) → Steps h (x.at.0 + 1) xs → Steps h from (x ∷ xs)

-- the same in bulk, with a buffer for each call: its rows, then those of the calls from the last one + 1 on
pub data Runs (h : List ℕ) (lent : ℕ → List ℕ) : ℕ → ℕ → List Remain → Type 0 where
  run-done : {call from : ℕ} → rows_answer h from (length (lent call)) ≡ Ok None → rows_out h from (lent call) ≡ lent call → Runs h lent call from []
  run_on : {call from : ℕ} (xs : List Remain) (x : Remain) {ys : List Remain}
      → rows_answer h from (length (lent call)) ≡ Ok (Some (length (xs ++ (x ∷ []))))
      → rows_out h from (lent call) ≡ rows_of (xs ++ (x ∷ [])) ++ drop (4 * length (xs ++ (x ∷ []))) (lent call)
      → Runs h lent (call + 1) (x.at.0 + 1) ys → Runs h lent call from (xs ++ (x ∷ ys))
