-- Pages that are logged, in a hive h: `is p` says that page p is, and `bytes p` are its bytes in the log.
use Rattle.std.specs.Prelude.{ℕ, zero, suc, Bool, true, not, cond, ◌&&◌, ◌||◌, List}
use Rattle.fields.specs.Bytes.{same_bytes}
use Rattle.sectors.specs.Sector.{stored, page_place, page}

-- page p is in, or it is not logged
abbrev pub is_in : (ℕ → Bool) → (ℕ → List ℕ) → List ℕ → ℕ → Bool
is_in is bytes h p = not (is p) || same_bytes (page h p) (bytes p)

-- every logged page below a number is in
unfoldable pub in_below : (ℕ → Bool) → (ℕ → List ℕ) → ℕ → List ℕ → Bool
in_below is bytes zero h = true
in_below is bytes (suc p) h = in_below is bytes p h && is_in is bytes h p

-- h with page p put in, where it is logged
abbrev pub put_one : (ℕ → Bool) → (ℕ → List ℕ) → ℕ → List ℕ → List ℕ
put_one is bytes p h = cond (is p) (stored h (page_place p) (bytes p)) h

-- h with every logged page below a number put in, rising
unfoldable pub put_below : (ℕ → Bool) → (ℕ → List ℕ) → ℕ → List ℕ → List ℕ
put_below is bytes zero h = h
put_below is bytes (suc p) h = put_one is bytes p (put_below is bytes p h)
