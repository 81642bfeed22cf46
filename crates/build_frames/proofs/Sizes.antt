-- The sizes of cells: how large they are at most, and a law for each way out of the code that reckons them.
use Prim.Native.Nat.{ℕ, zero, suc, ◌+◌, ◌-◌, ◌*◌, ◌/◌, ◌≤◌, ◌<◌}
use native.Mathlib.Omega.{arith}
use mathlib.Core.Path.{◌≡◌, refl, sym, ap, ap₂, ◌∙◌}
use mathlib.Core.Bool.{Bool, true, false}
use mathlib.Core.List.{List}
use lib.Dec.{leb}
use borrow.Author.Tests.{le-leb, lt-leb, leb-true, leb-false}
use Rattle.values.specs.Segments.{segments_for}
use Rattle.layout.specs.Layout.{cell_size, data_size, value_size, list_size, leaf_size}
use Rattle.build_frames.specs.declared.Held.{Held}
use Rattle.build_frames.specs.Terms.{item_in, StoredAs, HeldFits, segmented_size}
use Rattle.build_frames.proofs.Names.{text-length}

pub cell-few : (n : ℕ) → cell_size n ≤ n + 11
unfolding cell_size
cell-few n = omega arith

pub cell-eight : cell_size 8 ≡ 16
unfolding cell_size
cell-eight = refl

pub cell_full : cell_size 16344 ≡ 16352
unfolding cell_size
cell_full = refl

pub segments-are : (n : ℕ) → (n + 16343) / 16344 ≡ segments_for n
unfolding segments_for
segments-are n = refl

-- ---- data

pub segmented-is : (n count full a b : ℕ) → count ≡ segments_for n → full ≡ count - 1 → a ≡ cell_size (4 * count) → b ≡ cell_size (n - full * 16344)
    → 16 + a + full * 16352 + b ≡ segmented_size n
segmented-is n count full a b e f p q =
    let x = cell-eight in
    let y = cell_full in
    let z : 16 + a + full * 16352 + b ≡ 16 + (a + (full * 16352 + b)) = omega arith in
    z ∙ cc

pub data-none : (n : ℕ) → n ≤ 4 → data_size n ≡ 0
unfolding data_size
data-none n h = rw (le-leb n 4 h)

pub data-one : (n : ℕ) → 4 < n → n ≤ 16344 → data_size n ≡ cell_size n
unfolding data_size
data-one n h k = rw (lt-leb n 4 h, le-leb n 16344 k)

pub data-more : (n : ℕ) → 16344 < n → data_size n ≡ segmented_size n
unfolding data_size
data-more n h = let k : 4 < n = omega arith in rw (lt-leb n 4 k, lt-leb n 16344 h)

pub segmented-few : (n : ℕ) → 16344 < n → n ≤ 1048576 → segmented_size n ≤ 1100000
segmented-few n h k =
    let e = segments-are n in
    let x = cell-few (4 * segments_for n) in
    let y = cell-few (n - (segments_for n - 1) * 16344) in
    rw (cell-eight, cell_full) (omega arith)

pub data-few : (n : ℕ) → n ≤ 1048576 → data_size n ≤ 1100000
data-few n k = by (leb n 4) (leb n 16344) refl refl
  where
    by : (t u : Bool) → leb n 4 ≡ t → leb n 16344 ≡ u → data_size n ≤ 1100000
    by true u e f = rw (data-none n (leb-true n 4 e)) (omega arith)
    by false true e f =
        let h = leb-true n 16344 f in
        let c = cell-few n in
        rw (data-one n (leb-false n 4 e) h) (omega arith)
    by false false e f = let h = leb-false n 16344 f in rw (data-more n h) (segmented-few n h k)

-- ---- a value

pub value-is : (s : List ℕ) (v : Held) (n a b : ℕ) → HeldFits s v → StoredAs s v.name n → a ≡ cell_size (20 + n) → b ≡ data_size v.«data».len
    → a + b ≡ value_size (item_in s v)
unfolding value_size
value-is s v n a b h x p q =
    ap₂ (λ (c d : ℕ). c + d) (p ∙ ap (λ (k : ℕ). cell_size (20 + k)) x.is) (q ∙ ap data_size (sym (text-length s v.«data» h.lies.bytes)))

-- ---- lists

pub list-some : (n : ℕ) → (n ≡ 0 → ⊥) → list_size n ≡ cell_size (4 * n)
unfolding list_size
list-some zero e = absurd (e refl)
list-some (suc n) e = refl

pub leaf-some : (n : ℕ) → (n ≡ 0 → ⊥) → leaf_size n ≡ cell_size (4 + 8 * n)
unfolding leaf_size
leaf-some zero e = absurd (e refl)
leaf-some (suc n) e = refl
