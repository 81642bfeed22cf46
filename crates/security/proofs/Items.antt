-- The tests of an item, a law for each way out, and what an item that passes says.
use Prim.Native.Nat.{ℕ, ◌+◌, ◌<◌, ◌≤◌}
use native.Mathlib.Nat.{zero-add}
use native.Mathlib.Omega.{arith}
use mathlib.Core.Path.{◌≡◌, sym, ap, ◌∙◌}
use mathlib.Core.Bool.{true, false}
use mathlib.Core.Logic.{◌↔◌}
use mathlib.Core.List.{List, [], ◌∷◌}
use lib.Dec.{eqb, leb}
use lib.ListN.{length}
use borrow.Author.Tests.{le-leb, leb-true, eqb-true, eq-eqb}
use Rattle.fields.specs.declared.Flaw.{Flaw}
use Rattle.fields.specs.declared.Offset.{Offset}
use Rattle.fields.specs.Number.{u32_at}
use Rattle.fields.specs.Bytes.{stands_at}
use Rattle.fields.specs.Faults.{is_sound}
use Rattle.fields.proofs.Bools.{and-inv, and_both}
use Rattle.fields.proofs.Firsts.{is-sound}
use Rattle.cells.specs.declared.Cell.{Cell}
use Rattle.cells.specs.Rule.{Map}
use Rattle.cells.specs.Named.{cell_of, cell_fault, data_of, data_at, part_in}
use Rattle.cells.specs.Tiled.{BinsTile, Mapped}
use Rattle.cells.proofs.Naming.{cell-sound, cell-flawed, cell-data-at, data-length, sound-names}
pub use Rattle.cells.proofs.Naming.{inside}
use Rattle.cells.proofs.Mapped.{sound-in-use, in-use-sound}
use Rattle.cells.proofs.Parts.{u32-part}
use Rattle.records.proofs.Facts.{signed-exactly}
use Rattle.records.proofs.Listed.{same-offset}
use Rattle.security.specs.Items.{is_sk, is_item, item_in, item_of, has_room, is_linked, is_joined}
use Rattle.security.specs.Stands.{IsItem, Roomy}
use Rattle.std.specs.Prelude.{Err, Ok}

-- the fields stand in the first 20 bytes of the cell's data
module _ (d : List ℕ) (o : Offset) where
  same : (i : ℕ) → i + 4 ≤ 20 → u32_at (part_in d o 0 20) i ≡ u32_at (data_at d o) i
  same i h = u32-part (data_at d o) 0 20 i h ∙ ap (u32_at (data_at d o)) (zero-add i)

  pub item-front : item_in (part_in d o 0 20) ≡ item_of d o
  unfolding item_of item_in
  item-front = rw (same 4 (omega arith), same 8 (omega arith), same 12 (omega arith), same 16 (omega arith))

-- the data r of an item's cell have its 20 bytes
pub sk-long : (r : List ℕ) → is_sk r ≡ true → 20 ≤ length r
sk-long r e = leb-true 20 _ (and-inv (leb 20 (length r)) _ e).0

-- an item that passes
pub record Passes (d m : List ℕ) (o : Offset) : Type 0 where
  pub cell : cell_fault Map d m o ≡ Ok tt
  pub fits : 20 ≤ length (data_at d o)
  pub signature : stands_at (data_at d o) 0 (115 ∷ 107 ∷ []) ≡ true

module _ (d m : List ℕ) (o : Offset) where
  pub item-missing : {f : Flaw} → cell_of Map d m o ≡ Err f → is_item d m o ≡ false
  unfolding is_item
  item-missing e = rw (cell-flawed Map d m o e)

  module _ {c : Cell} (e : cell_of Map d m o ≡ Ok c) where
    pub item_by : is_item d m o ≡ is_sk (data_of d c)
    unfolding is_item
    item_by = rw (cell-sound Map d m o e, cell-data-at Map d m o e)

    pub found-length : length (data_at d o) ≡ c.len
    found-length = sym (ap length (cell-data-at Map d m o e)) ∙ data-length d c (inside d o Map m e)

  pub item-facts : is_item d m o ≡ true → Passes d m o
  unfolding is_item
  item-facts e =
      let a = and-inv (is_sound (cell_fault Map d m o)) _ e in
      let b = and-inv (leb 20 (length (data_at d o))) _ a.1 in
      record { cell = is-sound _ a.0; fits = leb-true 20 _ b.0; signature = b.1 }

  -- it lies in the bins data
  pub item-below : is_item d m o ≡ true → o.0 < length d
  item-below e = omega (arith, (sound-names Map d m o (item-facts e).cell).room)

  module _ (b : BinsTile d 0) (mapped : Mapped d m) where
    to : is_item d m o ≡ true → IsItem d o
    to e =
        let i = item-facts e in
        record { in_use = sound-in-use d b m mapped o i.cell; sk = (signed-exactly (data_at d o) 115 107).0 i.signature; fields_fit = i.fits }

    of : IsItem d o → is_item d m o ≡ true
    unfolding is_item
    of i =
        and_both (ap is_sound (in-use-sound d b m mapped o i.in_use))
        (and_both (le-leb 20 _ i.fields_fit) ((signed-exactly (data_at d o) 115 107).1 i.sk))

    pub item-exactly : (is_item d m o ≡ true) ↔ IsItem d o
    item-exactly = (to, of)

-- room
module _ (d : List ℕ) (o : Offset) where
  pub room-facts : has_room d o ≡ true → Roomy d o
  unfolding has_room item_of
  room-facts e = leb-true _ _ e

  pub facts-room : Roomy d o → has_room d o ≡ true
  unfolding has_room item_of
  facts-room h = le-leb _ _ h

module _ (d m : List ℕ) (o : Offset) where
  pub not-linked : is_item d m (item_of d o).forward ≡ false → is_linked d m o ≡ false
  unfolding is_linked
  not-linked e = rw e

  pub linked-by : is_item d m (item_of d o).forward ≡ true → is_linked d m o ≡ eqb (item_of d (item_of d o).forward).backward.0 o.0
  unfolding is_linked
  linked-by e = rw e

  -- a link that passes
  pub link-facts : is_linked d m o ≡ true → (is_item d m (item_of d o).forward ≡ true) × ((item_of d (item_of d o).forward).backward ≡ o)
  unfolding is_linked
  link-facts e =
      let a = and-inv (is_item d m (item_of d o).forward) _ e in
      (a.0, same-offset _ _ (eqb-true _ _ a.1))

  pub facts-link : is_item d m (item_of d o).forward ≡ true → (item_of d (item_of d o).forward).backward ≡ o → is_linked d m o ≡ true
  unfolding is_linked
  facts-link i e = and_both i (eq-eqb _ _ (ap (λ (p : Offset). p.0) e))

  pub no_room : has_room d o ≡ false → is_joined d m o ≡ false
  unfolding is_joined
  no_room e = rw e

  pub by-link : has_room d o ≡ true → is_joined d m o ≡ is_linked d m o
  unfolding is_joined
  by-link e = rw e

  pub joined-facts : is_joined d m o ≡ true → (has_room d o ≡ true) × (is_linked d m o ≡ true)
  unfolding is_joined
  joined-facts e = and-inv _ _ e

  pub facts-joined : has_room d o ≡ true → is_linked d m o ≡ true → is_joined d m o ≡ true
  unfolding is_joined
  facts-joined p q = and_both p q

  -- the next item, and its way back
  pub next-item : is_joined d m o ≡ true → is_item d m (item_of d o).forward ≡ true
  next-item e = (link-facts (joined-facts e).1).0

  pub next-back : is_joined d m o ≡ true → (item_of d (item_of d o).forward).backward ≡ o
  next-back e = (link-facts (joined-facts e).1).1

pub item_room : (d m : List ℕ) (o : Offset) → is_item d m o ≡ true → 20 ≤ length (data_at d o)
item_room d m o e = (item-facts d m o e).fits

-- a cell that is found, and its data
pub ruleset found = (item-missing, item_by, inside, found-length)

-- what `is_described` needs
pub ruleset longs = (sk-long)
