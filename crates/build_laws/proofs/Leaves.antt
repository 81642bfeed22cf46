-- A key's leaf, read back.
use Prim.Native.Nat.{ℕ, suc, ◌+◌, ◌*◌, ◌≤◌}
use native.Mathlib.Omega.{arith}
use mathlib.Core.Path.{◌≡◌, refl, sym, ap, ap₂, ◌∙◌}
use mathlib.Core.Bool.{true, false}
use mathlib.Core.List.{List, [], ◌∷◌, ◌++◌, append_assoc}
use lib.ListN.{length, length-append}
use Rattle.fields.specs.Number.{u16_at, u32_at, le16, le32}
use Rattle.fields.specs.Bytes.{same_bytes, stands_at}
use Rattle.fields.proofs.Little.{length-le32}
use Rattle.names.specs.Hashing.{hash_of}
use Rattle.names.proofs.LawsHash.{hash-fits}
use Rattle.records.specs.declared.Child.{Child}
use Rattle.records.specs.Facts.{Signed}
use Rattle.records.specs.Lists as lists
use Rattle.tree.specs.Facts.{LeafRecord, lh}
use Rattle.forest.specs.Forest.{Item, Forest, none, more, count_of}
use Rattle.layout.specs.Layout.{zeros, stored, size_of, beside_at, elements, leaf_cells}
use Rattle.layout.proofs.Sizes.{cell_room, zeros-length, leaf-length}
use Rattle.build_laws.specs.Written.{leaf_record, children_at}
use Rattle.build_laws.proofs.Bytes.{half, word-there}

-- the elements, one taken off at a time
module _ (r : List ℕ) (no-li : lists.is_li r ≡ false) (no-lf : lists.is_lf r ≡ false) (is-lh : lists.is_lh r ≡ true) where
  child-is : (i a h : ℕ) → u32_at r (4 + i * 8) ≡ a → u32_at r (8 + i * 8) ≡ h
      → lists.child_at r i ≡ record { at = record { 0 = a }; hashed = true; hinted = false; beside = h }
  unfolding lists.child_at lists.width_of
  child-is i a h p q = rw (no-li, no-lf, is-lh, p, q)

  children-behind : (f : Forest) (at i : ℕ) (p t : List ℕ) → r ≡ p ++ (elements f at ++ t) → length p ≡ 4 + i * 8 → at + size_of f ≤ 4294967296
      → lists.children_from r i (count_of f) ≡ children_at f at
  unfolding lists.children_from elements count_of children_at size_of
  children-behind none at i p t e l h = refl
  children-behind (more s x vs b c) at i p t e l h =
      let least = cell_room (76 + length (stored x)) in
      let next = beside_at x vs b at in
      let tail = elements c next ++ t in
      let q = p ++ (le32 at ++ le32 (hash_of x)) in
      let one : r ≡ p ++ (le32 at ++ (le32 (hash_of x) ++ tail)) =
      e ∙ ap (λ (w : List ℕ). p ++ w)
      (append_assoc (le32 at) (le32 (hash_of x) ++ elements c next) t
      ∙ ap (λ (w : List ℕ). le32 at ++ w) (append_assoc (le32 (hash_of x)) (elements c next) t)) in
      let two : r ≡ (p ++ le32 at) ++ (le32 (hash_of x) ++ tail) = one ∙ sym (append_assoc p (le32 at) (le32 (hash_of x) ++ tail)) in
      let three : r ≡ q ++ tail =
      one
      ∙ ap (λ (w : List ℕ). p ++ w) (sym (append_assoc (le32 at) (le32 (hash_of x)) tail))
      ∙ sym (append_assoc p (le32 at ++ le32 (hash_of x)) tail) in
      let a = length-append p (le32 at) in
      let b' = length-append p (le32 at ++ le32 (hash_of x)) in
      let c' = length-append (le32 at) (le32 (hash_of x)) in
      let d = length-le32 at in
      let d' = length-le32 (hash_of x) in
      ap₂ (λ (z : Child) (zs : List Child). z ∷ zs)
      (child-is i at (hash_of x)
      (ap (λ (w : List ℕ). u32_at w (4 + i * 8)) one ∙ word-there p at (le32 (hash_of x) ++ tail) (4 + i * 8) l (omega arith))
      (ap (λ (w : List ℕ). u32_at w (8 + i * 8)) two ∙ word-there (p ++ le32 at) (hash_of x) tail (8 + i * 8) (omega arith) (hash-fits x)))
      (children-behind c next (suc i) q t three (omega arith) (omega arith))

-- the one cell of a leaf, where there are subkeys
pub leaf-cell : (s : ℕ) (x : List ℕ) (vs : List Item) (b r : Forest) (at : ℕ) → leaf_cells (more s x vs b r) at ≡ leaf_record (more s x vs b r) at ∷ []
unfolding leaf_cells
leaf-cell s x vs b r at = refl

module _ (f : Forest) (at k : ℕ) where
  abbrev Cell : List ℕ
  Cell = leaf_record f at ++ zeros k

  pub leaf-signed : Signed Cell 108 104
  leaf-signed = refl

  no-li : lists.is_li Cell ≡ false
  unfolding stands_at same_bytes
  no-li = refl

  no-lf : lists.is_lf Cell ≡ false
  unfolding stands_at same_bytes
  no-lf = refl

  is-lh : lists.is_lh Cell ≡ true
  unfolding stands_at same_bytes
  is-lh = refl

  pub leaf-no-ri : lists.is_ri Cell ≡ false
  unfolding stands_at same_bytes
  leaf-no-ri = refl

  cell-length : length Cell ≡ 4 + 8 * count_of f + k
  cell-length =
      let e = leaf-length f at in
      let a = length-append (leaf_record f at) (zeros k) in
      let z = zeros-length k in
      omega arith

  module _ (few : count_of f ≤ 65535) where
    pub leaf-count : lists.count_of Cell ≡ count_of f
    unfolding u16_at le16
    leaf-count = half (count_of f) (omega arith)

    pub leaf-record : 1 ≤ count_of f → LeafRecord Cell
    leaf-record some =
        let c = leaf-count in
        let l = cell-length in
        lh leaf-signed (record { some = omega arith; room = omega arith })

    pub leaf-read : at + size_of f ≤ 4294967296 → lists.leaf_children Cell ≡ children_at f at
    unfolding lists.leaf_children le16
    leaf-read h =
        ap (lists.children_from Cell 0) leaf-count
        ∙ children-behind Cell no-li no-lf is-lh f at 0 (108 ∷ 104 ∷ le16 (count_of f)) (zeros k) front refl h
      where
        front : Cell ≡ (108 ∷ 104 ∷ le16 (count_of f)) ++ (elements f at ++ zeros k)
        front = ap (λ (w : List ℕ). 108 ∷ 104 ∷ w) (append_assoc (le16 (count_of f)) (elements f at) (zeros k))
