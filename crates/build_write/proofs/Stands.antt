-- What stands in the buffer already, and what its records tell.
use Prim.Native.Nat.{ℕ, zero, suc, ◌+◌, ◌-◌, ◌≤◌}
use native.Mathlib.Omega.{arith}
use mathlib.Core.Path.{◌≡◌, refl, sym, ap, ap₂, subst, ◌∙◌}
use mathlib.Core.Bool.{Bool}
use mathlib.Core.List.{List, [], ◌∷◌, ◌++◌, append_assoc}
use lib.ListN.{length, take, drop, set, take-append-drop, length-append}
use lib.Seq.{sets, length-sets, take-set-le, drop-set-add, length-take-le, take-take, take-add, drop-drop, take_at, drop_at, sets-eq}
use Rattle.fields.specs.Number.{u16_at, u32_at, le32}
use Rattle.fields.proofs.Little.{length-le32}
use Rattle.cells.proofs.Parts.{u16-part, u32-part}
use Rattle.names.specs.Codes.{codes}
use Rattle.names.specs.Hashing.{hash_of}
use Rattle.records.specs.declared.Key.{Key}
use Rattle.records.specs.Keys.{is_flagged, key_in}
use Rattle.forest.specs.Forest.{Item, Forest, none, more, count_of}
use Rattle.forest.specs.Allowed.{KeyAllowed, Allowed, allowed-more}
use Rattle.layout.specs.Layout.{cell_size, zeros, pad_of, cell_bytes, row_bytes, stored, values_size, list_size, leaf_size, size_of, list_at, leaf_at, beside_at, if_any, key_record, cells_of}
use Rattle.layout.proofs.Sizes.{cell_room, cell-length, row-length, bytes-append, key-length, cells-size}
use Rattle.build_laws.proofs.Keys.{key_at, key-len, key-name, key-codes, key-read}
use Rattle.build_write.specs.Terms.{KeyStands, KeysStand}
use Rattle.build_write.proofs.Keys.{cells-first}

-- ---- parts of a buffer

take-set : (n i j : ℕ) (l : List ℕ) (a : ℕ) → i + n ≤ j → take n (drop i (set l j a)) ≡ take n (drop i l)
take-set n i j l a p =
    let e : j ≡ i + (j - i) = omega arith in
    ap (λ (k : ℕ). take n (drop i (set l k a))) e ∙ ap (take n) (drop-set-add i l (j - i) a) ∙ take-set-le n (drop i l) (j - i) a (omega arith)

-- what is written behind a part leaves it as it is
pub part_apart : (ys l : List ℕ) (n i j : ℕ) → i + n ≤ j → take n (drop i (sets l j ys)) ≡ take n (drop i l)
part_apart [] l n i j p = refl
part_apart (y ∷ ys) l n i j p = part_apart ys (set l j y) n i (suc j) (omega arith) ∙ take-set n i j l y p

-- what is written stands there
pub part-put : (xs l : List ℕ) (n i : ℕ) → length xs ≡ n → i + n ≤ length l → take n (drop i (sets l i xs)) ≡ xs
part-put xs l n i e p =
    let t : length (take i l) ≡ i = length-take-le i l (omega arith) in
    ap (λ (m : List ℕ). take n (drop i m)) (sets-eq xs l i (omega arith) ∙ append_assoc (take i l) xs (drop (i + length xs) l))
    ∙ ap (take n) (drop_at (take i l) (xs ++ drop (i + length xs) l) i t)
    ∙ take_at xs (drop (i + length xs) l) n e

-- a part in two
module _ (l : List ℕ) (i m n : ℕ) (a b : List ℕ) (p : length a ≡ m) (e : take (m + n) (drop i l) ≡ a ++ b) where
  pub part_left : take m (drop i l) ≡ a
  part_left = sym (take-take m (m + n) (drop i l) (omega arith)) ∙ ap (take m) e ∙ take_at a b m p

  pub part_right : take n (drop (i + m) l) ≡ b
  part_right =
      ap (take n) (sym (drop-drop m i l))
      ∙ sym (drop_at (take m (drop i l)) (take n (drop m (drop i l))) m (ap length part_left ∙ p))
      ∙ ap (drop m) (sym (take-add m n (drop i l)) ∙ e)
      ∙ drop_at a b m p

-- ---- sizes of what is not there

pub any_some : (n at : ℕ) → (n ≡ 0 → ⊥) → if_any n at ≡ at
unfolding if_any
any_some zero at p = absurd (p refl)
any_some (suc n) at p = refl

pub any_none : (n at : ℕ) → n ≡ 0 → if_any n at ≡ 4294967295
unfolding if_any
any_none zero at p = refl
any_none (suc n) at p = absurd (omega (arith, p))

none_below : (b : Forest) → count_of b ≡ 0 → size_of b + leaf_size (count_of b) ≡ 0
unfolding count_of size_of leaf_size
none_below none e = refl
none_below (more s x vs b r) e = absurd (omega (arith, e))

no-values : (vs : List Item) → length vs ≡ 0 → values_size vs + list_size (length vs) ≡ 0
unfolding values_size list_size
no-values [] e = refl
no-values (v ∷ vs) e = absurd (omega (arith, e))

-- ---- the record of a key that stands there

module _ (out : List ℕ) (offset : ℕ) (x : List ℕ) (vs : List Item) (b : Forest) (k : KeyStands out offset x vs b) where
  abbrev Record : List ℕ
  Record = key_record k.stamp x vs b offset k.parent k.item

  abbrev Fill : ℕ
  Fill = cell_size (length Record) - (4 + length Record)

  abbrev Size : ℕ
  Size = cell_size (76 + length (stored x))

  some : 80 + length (stored x) ≤ Size
  some = let r = cell_room (76 + length (stored x)) in omega arith

  cell-here : take (Size - 4) (drop (4100 + offset) out) ≡ Record ++ zeros Fill
  unfolding cell_bytes
  cell-here =
      let s = some in
      let e : 4 + (Size - 4) ≡ Size = omega arith in
      let f : 4096 + offset + 4 ≡ 4100 + offset = omega arith in
      ap (λ (i : ℕ). take (Size - 4) (drop i out)) (sym f)
      ∙ part_right out (4096 + offset) 4 (Size - 4) (le32 (4294967296 - cell_size (length Record))) (Record ++ pad_of Record) (length-le32 _)
      (ap (λ (n : ℕ). take n (drop (4096 + offset) out)) e ∙ k.stands)

  pub key-inside : 4100 + offset + 76 + length (stored x) ≤ length out
  key-inside = let s = some in let i = k.inside in omega arith

  word-here : (i : ℕ) → i + 4 ≤ 76 → u32_at out (4100 + offset + i) ≡ u32_at (Record ++ zeros Fill) i
  word-here i p =
      let s = some in
      sym (u32-part out (4100 + offset) (Size - 4) i (omega arith)) ∙ ap (λ (l : List ℕ). u32_at l i) cell-here

  half-here : (i : ℕ) → i + 2 ≤ 76 → u16_at out (4100 + offset + i) ≡ u16_at (Record ++ zeros Fill) i
  half-here i p =
      let s = some in
      sym (u16-part out (4100 + offset) (Size - 4) i (omega arith)) ∙ ap (λ (l : List ℕ). u16_at l i) cell-here

  read : key_in (Record ++ zeros Fill) (record { 0 = 0 }) ≡ key_at x vs b offset k.parent (record { 0 = 0 })
  read = key-read k.stamp x vs b offset k.parent k.item Fill k.name k.parent-fits (omega (arith, k.low)) (record { 0 = 0 })

  subkeys-here : u32_at out (4100 + offset + 20) ≡ count_of b
  unfolding key_in
  subkeys-here = word-here 20 (omega arith) ∙ ap (λ (q : Key). q.subkeys) read

  leaf-here : u32_at out (4100 + offset + 28) ≡ if_any (count_of b) (leaf_at x vs b offset)
  unfolding key_in
  leaf-here = word-here 28 (omega arith) ∙ ap (λ (q : Key). q.list.0) read

  values-here : u32_at out (4100 + offset + 36) ≡ length vs
  unfolding key_in
  values-here = word-here 36 (omega arith) ∙ ap (λ (q : Key). q.values) read

  list-here : u32_at out (4100 + offset + 40) ≡ if_any (length vs) (list_at x vs offset)
  unfolding key_in
  list-here = word-here 40 (omega arith) ∙ ap (λ (q : Key). q.value_list.0) read

  pub len-here : u16_at out (4100 + offset + 72) ≡ length (stored x)
  len-here = half-here 72 (omega arith) ∙ key-len k.stamp x vs b offset k.parent k.item Fill k.name

  -- where its cells end
  module _ (n : ℕ) (e : n ≡ u32_at out (4100 + offset + 20)) where
    pub end-leaf : (n ≡ 0 → ⊥) → (leaf : ℕ) → leaf ≡ u32_at out (4100 + offset + 28) → (size : ℕ) → size ≡ leaf_size n
        → leaf + size ≡ beside_at x vs b offset
    end-leaf some leaf f size g =
        let c = e ∙ subkeys-here in
        ap (λ (i : ℕ). leaf + i) g ∙ ap₂ (λ (i j : ℕ). i + leaf_size j) (f ∙ leaf-here ∙ any_some (count_of b) _ (λ z. some (c ∙ z))) c

    module _ (z : n ≡ 0) (m : ℕ) (f : m ≡ u32_at out (4100 + offset + 36)) where
      pub end_list : (m ≡ 0 → ⊥) → (list : ℕ) → list ≡ u32_at out (4100 + offset + 40) → (size : ℕ) → size ≡ list_size m
          → list + size ≡ beside_at x vs b offset
      end_list some list g size d =
          let c = f ∙ values-here in
          let h = none_below b (sym (e ∙ subkeys-here) ∙ z) in
          ap (λ (i : ℕ). list + i) d ∙ ap₂ (λ (i j : ℕ). i + list_size j) (g ∙ list-here ∙ any_some (length vs) _ (λ y. some (c ∙ y))) c ∙ omega arith

      pub end-alone : m ≡ 0 → (len : ℕ) → len ≡ u16_at out (4100 + offset + 72) → (size : ℕ) → size ≡ cell_size (76 + len)
          → offset + size ≡ beside_at x vs b offset
      end-alone y len g size d =
          let h = none_below b (sym (e ∙ subkeys-here) ∙ z) in
          let i = no-values vs (sym (f ∙ values-here) ∙ y) in
          ap (λ (j : ℕ). offset + j) d ∙ ap (λ (j : ℕ). offset + cell_size (76 + j)) (g ∙ len-here) ∙ omega arith

  -- its name
  name-here : take (length (stored x)) (drop (4100 + offset + 76) out) ≡ stored x
  name-here =
      let s = some in
      let cell = Record ++ zeros Fill in
      let e : 76 + (Size - 4 - 76) ≡ Size - 4 = omega arith in
      let l : length (take 76 cell) ≡ 76 = length-take-le 76 cell cell-long in
      sym (take-take (length (stored x)) (Size - 4 - 76) (drop (4100 + offset + 76) out) (omega arith))
      ∙ ap (take (length (stored x)))
      (part_right out (4100 + offset) 76 (Size - 4 - 76) (take 76 cell) (drop 76 cell) l
      (ap (λ (n : ℕ). take n (drop (4100 + offset) out)) e ∙ cell-here ∙ sym (take-append-drop 76 cell)))
      ∙ ap (λ (n : ℕ). take n (drop 76 cell)) (sym (key-len k.stamp x vs b offset k.parent k.item Fill k.name))
      ∙ key-name k.stamp x vs b offset k.parent k.item Fill k.name
    where
      cell-long : 76 ≤ length (Record ++ zeros Fill)
      cell-long =
          let a = length-append Record (zeros Fill) in
          let r = key-length k.stamp x vs b offset k.parent k.item in
          omega arith

  pub hash-here : (narrow : Bool) (flags len : ℕ) → flags ≡ u16_at out (4100 + offset + 2) → narrow ≡ is_flagged flags 32
      → len ≡ u16_at out (4100 + offset + 72)
      → hash_of (codes narrow (take (4100 + offset + 76 + len - (4100 + offset + 76)) (drop (4100 + offset + 76) out))) ≡ hash_of x
  hash-here narrow flags len p q r =
      let w = q ∙ ap (λ (n : ℕ). is_flagged n 32) (p ∙ half-here 2 (omega arith)) in
      let e : 4100 + offset + 76 + len - (4100 + offset + 76) ≡ len = omega arith in
      let v = ap (λ (n : ℕ). take n (drop (4100 + offset + 76) out)) (e ∙ r ∙ len-here) ∙ name-here in
      let name = key-name k.stamp x vs b offset k.parent k.item Fill k.name in
      ap hash_of (ap₂ codes w (v ∙ sym name) ∙ key-codes k.stamp x vs b offset k.parent k.item Fill k.name)

-- ---- keys side by side that stand there

pub first-size : (s : ℕ) (x : List ℕ) (vs : List Item) (b r : Forest) (at : ℕ) → at + size_of (more s x vs b r) ≡ beside_at x vs b at + size_of r
unfolding size_of
first-size s x vs b r at = omega arith

pub first-sizes : (s : ℕ) (x : List ℕ) (vs : List Item) (b r : Forest) → size_of (more s x vs b none) + size_of r ≡ size_of (more s x vs b r)
unfolding size_of
first-sizes s x vs b r = omega arith

first-end : (s : ℕ) (x : List ℕ) (vs : List Item) (b : Forest) (at : ℕ) → 4096 + at + size_of (more s x vs b none) ≡ 4096 + beside_at x vs b at
unfolding size_of
first-end s x vs b at = omega arith

pub own_key : {n s : ℕ} {x : List ℕ} {vs : List Item} {b r : Forest} → Allowed n (more s x vs b r) → KeyAllowed s x vs b
own_key (allowed-more a _ _) = a

pub own-rest : {n s : ℕ} {x : List ℕ} {vs : List Item} {b r : Forest} → Allowed n (more s x vs b r) → Allowed n r
own-rest (allowed-more _ _ a) = a

module _ (out : List ℕ) (offset s : ℕ) (x : List ℕ) (vs : List Item) (b r : Forest) (k : KeysStand out offset (more s x vs b r)) where
  abbrev Own : List ℕ
  Own = key_record s x vs b offset k.parent k.item

  abbrev Others : List ℕ
  Others = row_bytes (cells_of r (beside_at x vs b offset) k.parent k.item)

  abbrev Part : ℕ
  Part = beside_at x vs b offset - offset

  first_part : take (size_of (more s x vs b r)) (drop (4096 + offset) out) ≡ row_bytes (cells_of (more s x vs b none) offset k.parent k.item) ++ Others
  first_part = k.stands ∙ ap row_bytes (cells-first s x vs b r offset k.parent k.item) ∙ bytes-append (cells_of (more s x vs b none) offset k.parent k.item) _

  own-cell : take (cell_size (76 + length (stored x))) (drop (4096 + offset) out) ≡ cell_bytes Own
  unfolding cells_of row_bytes size_of
  own-cell =
      part_left out (4096 + offset) (cell_size (76 + length (stored x))) _ (cell_bytes Own) _ (cell-length Own ∙ ap cell_size (key-length s x vs b offset k.parent k.item))
      k.stands

  pub first-stands : KeyStands out offset x vs b
  first-stands =
      let f = first-size s x vs b r offset in
      let i = k.inside in
      let l = k.low in
      record {
        stamp = s;
        parent = k.parent;
        item = k.item;
        stands = own-cell;
        inside = omega arith;
        name = (own_key k.allowed).name;
        parent-fits = k.parent-fits;
        low = omega arith;
      }

  pub rest-stands : (stop : ℕ) → stop ≡ beside_at x vs b offset → KeysStand out stop r
  rest-stands stop e =
      let f = first-size s x vs b r offset in
      let i = k.inside in
      let l = k.low in
      let own = cells_of (more s x vs b none) offset k.parent k.item in
      let z : length (row_bytes own) ≡ size_of (more s x vs b none) = row-length own ∙ cells-size (more s x vs b none) offset k.parent k.item in
      let m : size_of (more s x vs b none) + size_of r ≡ size_of (more s x vs b r) = first-sizes s x vs b r in
      let h : 4096 + offset + size_of (more s x vs b none) ≡ 4096 + beside_at x vs b offset = first-end s x vs b offset in
      subst (λ (n : ℕ). KeysStand out n r) (sym e)
      record {
        levels = k.levels;
        parent = k.parent;
        item = k.item;
        stands =
            ap (λ (n : ℕ). take (size_of r) (drop n out)) (sym h)
            ∙ part_right out (4096 + offset) (size_of (more s x vs b none)) (size_of r) (row_bytes own) Others z
            (ap (λ (n : ℕ). take n (drop (4096 + offset) out)) m ∙ first_part);
        inside = omega arith;
        allowed = own-rest k.allowed;
        parent-fits = k.parent-fits;
        low = omega arith;
      }

-- what is written behind them leaves them as they are
pub stand-apart : (out : List ℕ) (offset : ℕ) (f : Forest) (j : ℕ) (ys : List ℕ) → 4096 + offset + size_of f ≤ j → KeysStand out offset f → KeysStand (sets out j ys) offset f
stand-apart out offset f j ys p k =
    let l = length-sets out j ys in
    let i = k.inside in
    record {
      levels = k.levels;
      parent = k.parent;
      item = k.item;
      stands = part_apart ys out (size_of f) (4096 + offset) j p ∙ k.stands;
      inside = omega arith;
      allowed = k.allowed;
      parent-fits = k.parent-fits;
      low = k.low;
    }

-- for the tactics
pub ruleset any_ways = (any_none, any_some)
