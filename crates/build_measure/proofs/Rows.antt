-- Values that stand in a row, and the sizes of their cells.
use Prim.Native.Nat.{ℕ, zero, suc, ◌+◌, ◌≤◌, ◌<◌}
use native.Mathlib.Nat.{add_assoc}
use native.Mathlib.Omega.{arith}
use mathlib.Core.Path.{◌≡◌, refl, sym, ap, subst, ◌∙◌}
use mathlib.Core.Bool.{Bool, true, false}
use mathlib.Core.List.{List}
use lib.Dec.{ltb}
use lib.ListN.{length, drop}
use borrow.Author.Tests.{ltb-true, ltb-false}
use Rattle.layout.specs.Layout.{is_narrow, stored, value_size, values_size}
use Rattle.forest.specs.Forest.{Item}
use Rattle.forest.specs.Faults.{Shape as Said, holds, frame_len, shape_of, is_laid, is_named, is_small}
use Rattle.build_frames.specs.declared.Held.{Held}
use Rattle.build_frames.specs.Terms.{name_in, text_in, item_in, HeldFits, Ends}
use Rattle.build_frames.proofs.Names.{text-length, stored-narrow, stored-wide}
use Rattle.layout.proofs.Bounds.{value-least}
use Rattle.build_frames.proofs.Sizes.{cell-few, data-few}
use Rattle.build_namesakes.specs.Rows.{start_of}
use Rattle.build_measure.specs.Terms.{cap, item_of, Good, Sized, items_from, Passed}
use Rattle.build_measure.proofs.Sizes.{cap-small, cap-few, cap-add}

-- ---- one value

module _ (s : List ℕ) (v : Held) (h : HeldFits s v) where
  stored-few : length (stored (name_in s v.name)) ≤ 32767
  stored-few = by (is_narrow (name_in s v.name)) refl
    where
      by : (t : Bool) → is_narrow (name_in s v.name) ≡ t → length (stored (name_in s v.name)) ≤ 32767
      by true e = let q = h.short in rw (stored-narrow s v.name h.lies.name e) (omega arith)
      by false e = rw (stored-wide s v.name h.lies.name e) h.short

  pub value-few : value_size (item_in s v) ≤ 2000000
  unfolding value_size
  value-few =
      let a = stored-few in
      let b = cell-few (20 + length (stored (name_in s v.name))) in
      let e = text-length s v.«data» h.lies.bytes in
      let d = data-few (length (text_in s v.«data»)) (subst (λ (n : ℕ). n ≤ 1048576) (sym e) h.small) in
      omega arith

-- the size that is told of a value
module _ {v : Item} where
  pub sized-good : (r : ℕ) → is_named (holds v) ≡ true → is_small (holds v) ≡ true → r ≡ value_size v → r ≤ 2000000 → Sized (holds v) r
  unfolding item_of
  sized-good r n m e f =
      let p = value-least v in
      record {
        few = f;
        good = λ q. record { is = refl; named = n; small = m };
        size = λ q. e;
        other = λ z g. omega arith;
      }

module _ {f : Said} where
  pub sized-by : {g : Said} {r : ℕ} → f ≡ g → Sized g r → Sized f r
  sized-by {r = r} e x = subst (λ (q : Said). Sized q r) (sym e) x

  pub good-laid : Good f → is_laid f ≡ true
  unfolding is_laid
  good-laid g = ap is_laid g.is

-- ---- a row

module _ (s : List ℕ) where
  -- a row behind its first frame
  pub start-next : (at j : ℕ) → start_of s (at + frame_len (drop at s)) j ≡ start_of s at (suc j)
  unfolding start_of
  start-next at zero = refl
  start-next at (suc j) = ap (λ (p : ℕ). p + frame_len (drop p s)) (start-next at j)

  -- the last value's size
  pub values-more : (n at : ℕ)
      → values_size (items_from s at (suc n)) ≡ values_size (items_from s at n) + value_size (item_of (shape_of (drop (start_of s at n) s)))
  unfolding values_size items_from start_of
  values-more zero at = omega arith
  values-more (suc n) at =
      let x = value_size (item_of (shape_of (drop at s))) in
      let r = values-more n (at + frame_len (drop at s)) in
      let q = start-next at n in
      ap (λ (m : ℕ). x + m) (r ∙ ap (λ (p : ℕ). values_size (items_from s (at + frame_len (drop at s)) n) + value_size (item_of (shape_of (drop p s)))) q)
      ∙ sym (add_assoc x (values_size (items_from s (at + frame_len (drop at s)) n)) _)

  pub passed_none : (at : ℕ) → at ≤ length s → Passed s at 0 at 0
  unfolding start_of items_from values_size
  passed_none at h = record {
    each = λ j q. absurd (omega arith);
    ends = refl;
    inside = h;
    room = omega arith;
    size_is = sym (cap-small 0 (omega arith));
  }

  module _ {at n p size k e : ℕ} (x : Passed s at n p size) (z : Sized (shape_of (drop p s)) k) (some : 0 < k) (l : Ends s p e) where
    good-each : (j : ℕ) → j < suc n → Good (shape_of (drop (start_of s at j) s))
    good-each j q = by (ltb j n) refl
      where
        by : (t : Bool) → ltb j n ≡ t → Good (shape_of (drop (start_of s at j) s))
        by true u = x.each j (ltb-true j n u)
        by false u =
            let w = ltb-false j n u in
            let same : n ≡ j = omega arith in
            subst (λ (i : ℕ). Good (shape_of (drop i s))) (x.ends ∙ ap (start_of s at) same) (z.good some)

    size-more : cap (size + k) ≡ cap (values_size (items_from s at (suc n)))
    size-more =
        let old = values_size (items_from s at n) in
        ap (λ (m : ℕ). cap (m + k)) x.size_is ∙ cap-add old k
        ∙ ap (λ (m : ℕ). cap (old + m)) (z.size some ∙ ap (λ (i : ℕ). value_size (item_of (shape_of (drop i s)))) x.ends)
        ∙ sym (ap cap (values-more n at))

    pub passed-more : Passed s at (suc n) e (cap (size + k))
    unfolding start_of
    passed-more =
        let r = x.room in
        let f = l.further in
        record {
          each = good-each;
          ends = l.is ∙ ap (λ (i : ℕ). i + frame_len (drop i s)) x.ends;
          inside = l.inside;
          room = omega arith;
          size_is = size-more;
        }

pub passed-few : {s : List ℕ} {at n p size : ℕ} → Passed s at n p size → size ≤ 2147479553
passed-few {s} {at} {n} x = subst (λ (m : ℕ). m ≤ 2147479553) (sym x.size_is) (cap-few (values_size (items_from s at n)))
