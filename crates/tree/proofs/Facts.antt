-- The checker's test of each record holds exactly when the record is what the plain facts say.
use Rattle.std.proofs.Common.{◌≡◌, ℕ, ◌-◌, ◌<◌, ◌≤◌, Bool, true, false, cond, ◌||◌, leb, ◌↔◌, List, [], ◌∷◌, length, refl, arith, eq-eqb, eqb-true, le-leb, leb-false, leb-true}
use Rattle.fields.specs.Number.{u16_at, u32_at}
use Rattle.fields.specs.Bytes.{stands_at}
use Rattle.fields.proofs.Bools.{and-inv, and_both, never}
use Rattle.records.specs.Lists.{is_li, is_lf, is_lh, is_ri, has_elements, width_of, has_leaf_signature, is_leaf, is_list}
use Rattle.records.proofs.Facts.{signed-exactly, stands}
use Rattle.records.proofs.ListFacts.{elements}
use Rattle.values.specs.Records.{top_bit, data_limit, is_data_size, is_value}
use Rattle.values.specs.Segments.{segments_for, is_db}
use Rattle.values.proofs.Tests.{kept}
use Rattle.values.proofs.Facts.{old-exactly}
use Rattle.values.proofs.LawsValues.{inline-size, other-size}
use Rattle.tree.specs.Facts.{ElementsFit, LeafRecord, li, lf, lh, ListRecord, leaf, ri, ValueRecord, DbRecord}

module _ (r : List ℕ) where
  -- the elements of a list
  fits : {width : ℕ} → has_elements r width ≡ true → ElementsFit r width
  fits {width} e = let f = elements r width e in record { some = f.some; room = f.room }

  of-fits : {width : ℕ} → ElementsFit r width → has_elements r width ≡ true
  unfolding has_elements
  of-fits {width} f =
      and_both (le-leb 4 (length r) (omega (arith, f.room))) (and_both (le-leb _ _ f.some) (le-leb _ _ f.room))

  leaf-of : is_leaf r ≡ true → LeafRecord r
  unfolding is_leaf has_leaf_signature width_of
  leaf-of e =
      let p = and-inv (has_leaf_signature r) _ e in
      by (is_li r) refl (is_lf r) refl (is_lh r) refl p.0 p.1
    where
      by : (a : Bool) → is_li r ≡ a → (b : Bool) → is_lf r ≡ b → (c : Bool) → is_lh r ≡ c
          → a || (b || c) ≡ true → has_elements r (cond a 4 8) ≡ true → LeafRecord r
      by true p b q c s e f = li ((signed-exactly r 108 105).0 p) (fits f)
      by false p true q c s e f = lf ((signed-exactly r 108 102).0 q) (fits f)
      by false p false q true s e f = lh ((signed-exactly r 108 104).0 s) (fits f)
      by false p false q false s e f = absurd (never false e refl)

  leaf-is : LeafRecord r → is_leaf r ≡ true
  unfolding is_leaf has_leaf_signature width_of
  leaf-is (li s f) = rw (stands r s 108 105) (of-fits f)
  leaf-is (lf s f) = rw (stands r s 108 105, stands r s 108 102) (of-fits f)
  leaf-is (lh s f) = rw (stands r s 108 105, stands r s 108 102, stands r s 108 104) (of-fits f)

  pub leaf-exactly : (is_leaf r ≡ true) ↔ LeafRecord r
  leaf-exactly = (leaf-of, leaf-is)

  -- a leaf is no `ri`
  leaf-single : LeafRecord r → is_ri r ≡ false
  leaf-single (li s f) = stands r s 114 105
  leaf-single (lf s f) = stands r s 114 105
  leaf-single (lh s f) = stands r s 114 105

  pub list-exactly : (is_list r ≡ true) ↔ ListRecord r
  unfolding is_list
  list-exactly = (λ e. by (is_ri r) refl e, from)
    where
      by : (t : Bool) → is_ri r ≡ t → cond t (has_elements r 4) (is_leaf r) ≡ true → ListRecord r
      by true p e = ri ((signed-exactly r 114 105).0 p) (fits e)
      by false p e = leaf (leaf-of e)

      from : ListRecord r → is_list r ≡ true
      from (leaf l) = rw (leaf-single l) (leaf-is l)
      from (ri s f) = rw (stands r s 114 105) (of-fits f)

  -- the size of a value's data
  of_size : (size : ℕ) → (top_bit ≤ size → size - top_bit ≤ 4) → (size < top_bit → size ≤ data_limit) → is_data_size size ≡ true
  unfolding is_data_size
  of_size size p q = by (leb top_bit size) refl
    where
      by : (t : Bool) → leb top_bit size ≡ t → cond (leb top_bit size) (leb (size - top_bit) 4) (leb size data_limit) ≡ true
      by true e = rw e (le-leb _ _ (p (leb-true top_bit size e)))
      by false e = rw e (le-leb _ _ (q (leb-false top_bit size e)))

  value_of : is_value r ≡ true → ValueRecord r
  value_of e =
      let k = kept r e in
      record { old = (old-exactly r).0 k.old_value; inline = inline-size (u32_at r 4) k.size; limit = other-size (u32_at r 4) k.size }

  value-is : ValueRecord r → is_value r ≡ true
  unfolding is_value
  value-is k = and_both ((old-exactly r).1 k.old) (of_size (u32_at r 4) k.inline k.limit)

  pub value-exactly : (is_value r ≡ true) ↔ ValueRecord r
  value-exactly = (value_of, value-is)

  pub db-exactly : (size : ℕ) → (is_db r size ≡ true) ↔ DbRecord r (segments_for size)
  unfolding is_db
  db-exactly size = (to, from)
    where
      to : is_db r size ≡ true → DbRecord r (segments_for size)
      to e =
          let a = and-inv (leb 8 (length r)) _ e in
          let b = and-inv (stands_at r 0 (100 ∷ 98 ∷ [])) _ a.1 in
          record { db = (signed-exactly r 100 98).0 b.0; room = leb-true 8 (length r) a.0; count = eqb-true (u16_at r 2) (segments_for size) b.1 }

      from : DbRecord r (segments_for size) → is_db r size ≡ true
      from k = and_both (le-leb 8 (length r) k.room) (and_both ((signed-exactly r 100 98).1 k.db) (eq-eqb _ _ k.count))
