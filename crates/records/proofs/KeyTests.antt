-- The tests of a key's name and record, a law for each way out.
use Prim.Native.Nat.{ℕ, ◌+◌, ◌<◌, ◌≤◌}
use native.Mathlib.Nat.{zero-add}
use native.Mathlib.Omega.{arith}
use mathlib.Core.Path.{◌≡◌, ap, ◌∙◌}
use mathlib.Core.Bool.{Bool, true, false, not}
use mathlib.Core.List.{List, [], ◌∷◌}
use lib.ListN.{length}
use borrow.Author.Tests.{le-leb, lt-leb}
use Rattle.fields.specs.declared.Offset.{Offset}
use Rattle.fields.specs.Number.{u16_at, u32_at}
use Rattle.fields.specs.Bytes.{stands_at}
use Rattle.cells.specs.Named.{data_at, part_in}
use Rattle.cells.proofs.Parts.{u16-part, u32-part}
use Rattle.names.specs.Codes.{codes, characters_in, has_code, backslash}
use Rattle.records.specs.Keys.{is_whole, is_key_name, key_narrow, key_name, is_key, key_in, key_of}

module _ (s : List ℕ) (narrow : Bool) where
  pub half-name : is_whole (length s) narrow ≡ false → is_key_name s narrow ≡ false
  unfolding is_key_name
  half-name e = rw e

  module _ (whole : is_whole (length s) narrow ≡ true) where
    pub empty_name : characters_in (length s) narrow < 1 → is_key_name s narrow ≡ false
    unfolding is_key_name
    empty_name p = rw (whole, lt-leb 1 (characters_in (length s) narrow) p)

    module _ (some : 1 ≤ characters_in (length s) narrow) where
      pub long-name : 255 < characters_in (length s) narrow → is_key_name s narrow ≡ false
      unfolding is_key_name
      long-name p = rw (whole, le-leb 1 (characters_in (length s) narrow) some, lt-leb (characters_in (length s) narrow) 255 p)

      pub by-backslash : characters_in (length s) narrow ≤ 255 → is_key_name s narrow ≡ not (has_code backslash (codes narrow s))
      unfolding is_key_name
      by-backslash p = rw (whole, le-leb 1 (characters_in (length s) narrow) some, le-leb (characters_in (length s) narrow) 255 p)

module _ (r : List ℕ) where
  pub short-key : length r < 76 → is_key r ≡ false
  unfolding is_key
  short-key p = rw (lt-leb 76 (length r) p)

  module _ (room : 76 ≤ length r) where
    pub no-key : stands_at r 0 (110 ∷ 107 ∷ []) ≡ false → is_key r ≡ false
    unfolding is_key
    no-key e = rw (le-leb 76 (length r) room, e)

    module _ (is : stands_at r 0 (110 ∷ 107 ∷ []) ≡ true) where
      pub cut-key : length r < 76 + u16_at r 72 → is_key r ≡ false
      unfolding is_key
      cut-key p = rw (le-leb 76 (length r) room, is, lt-leb (76 + u16_at r 72) (length r) p)

      pub by_name : 76 + u16_at r 72 ≤ length r → is_key r ≡ is_key_name (key_name r) (key_narrow r)
      unfolding is_key
      by_name p = rw (le-leb 76 (length r) room, is, le-leb (76 + u16_at r 72) (length r) p)

-- the fields stand in the first 76 bytes of the cell's data
module _ (d : List ℕ) (o : Offset) where
  same16 : (i : ℕ) → i + 2 ≤ 76 → u16_at (part_in d o 0 76) i ≡ u16_at (data_at d o) i
  same16 i h = u16-part (data_at d o) 0 76 i h ∙ ap (u16_at (data_at d o)) (zero-add i)

  same32 : (i : ℕ) → i + 4 ≤ 76 → u32_at (part_in d o 0 76) i ≡ u32_at (data_at d o) i
  same32 i h = u32-part (data_at d o) 0 76 i h ∙ ap (u32_at (data_at d o)) (zero-add i)

  pub key-front : key_in (part_in d o 0 76) o ≡ key_of d o
  unfolding key_of key_in
  key-front =
      rw (
        same32 16 (omega arith),
        same32 20 (omega arith),
        same32 28 (omega arith),
        same32 36 (omega arith),
        same32 40 (omega arith),
        same16 72 (omega arith),
        same16 2 (omega arith),
      )
