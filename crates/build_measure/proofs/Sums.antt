-- The sums of a key that is open: none wraps, and they are those of the definitions.
use Prim.Native.Nat.{ℕ, zero, suc, ◌+◌, ◌*◌, ◌≤◌}
use native.Mathlib.Omega.{arith}
use mathlib.Core.Path.{◌≡◌, refl, ap, ap₂, ◌∙◌}
use mathlib.Core.Bool.{Bool, true, false}
use mathlib.Core.List.{List}
use lib.ListN.{length}
use Rattle.layout.specs.Layout.{cell_size, is_narrow, stored, list_size, leaf_size}
use Rattle.forest.specs.Faults.{Shape as Said, closes, is_laid}
use Rattle.build_frames.specs.declared.Text.{Text}
use Rattle.build_frames.specs.Terms.{name_in, NameLies}
use Rattle.build_frames.proofs.Names.{stored-narrow, stored-wide}
use Rattle.build_frames.proofs.Sizes.{cell-few}
use Rattle.build_measure.specs.Terms.{cap}
use Rattle.build_measure.proofs.Sizes.{cap-add}

pub list-few : (n : ℕ) → list_size n ≤ 4 * n + 11
unfolding list_size
list-few zero = omega arith
list-few (suc n) = cell-few (4 * suc n)

pub leaf-few : (n : ℕ) → leaf_size n ≤ 8 * n + 15
unfolding leaf_size
leaf-few zero = omega arith
leaf-few (suc n) = let c = cell-few (4 + 8 * suc n) in omega arith

pub key-few : (s : List ℕ) (t : Text) → NameLies s t → t.len ≤ 510 → cell_size (76 + length (stored (name_in s t))) ≤ 1000
key-few s t l h =
    let a = by (is_narrow (name_in s t)) refl in
    let c = cell-few (76 + length (stored (name_in s t))) in
    omega arith
  where
    by : (b : Bool) → is_narrow (name_in s t) ≡ b → length (stored (name_in s t)) ≤ 510
    by true e = rw (stored-narrow s t l e) (omega arith)
    by false e = rw (stored-wide s t l e) h

-- a sum that goes on
pub cap-on : (v m : ℕ) {size l r : ℕ} → size ≡ cap v → l ≡ m → r ≡ cap (size + l) → r ≡ cap (v + m)
cap-on v m e f g = g ∙ ap₂ (λ (a b : ℕ). cap (a + b)) e f ∙ cap-add v m

-- what stopped stays there on the other side too
pub cap-later : (x y : ℕ) → cap (x + cap y) ≡ cap (x + y)
cap-later x y =
    let a : x + cap y ≡ cap y + x = omega arith in
    let b : y + x ≡ x + y = omega arith in
    ap cap a ∙ cap-add y x ∙ ap cap b

-- the sums of an open key, of one subkey more, and of the key when it closes
pub cap-more : (z a c u : ℕ) {w t r : ℕ} → w ≡ cap (z + a) → t ≡ cap u → r ≡ cap (w + (c + t)) → r ≡ cap (z + (a + (c + u)))
cap-more z a c u e f g =
    let x : z + a + (c + cap u) ≡ z + a + c + cap u = omega arith in
    let y : z + a + c + u ≡ z + (a + (c + u)) = omega arith in
    g ∙ ap₂ (λ (m n : ℕ). cap (m + (c + n))) e f ∙ cap-add (z + a) (c + cap u) ∙ ap cap x ∙ cap-later (z + a + c) u ∙ ap cap y

pub cap-end : (v l a f : ℕ) {z w r : ℕ} → z ≡ cap (v + l) → w ≡ cap (z + a) → r ≡ cap (w + f) → r ≡ cap (v + (l + (a + f)))
cap-end v l a f {z} e g h =
    let x : z + a + f ≡ z + (a + f) = omega arith in
    let y : v + l + (a + f) ≡ v + (l + (a + f)) = omega arith in
    cap-on (z + a) f g refl h ∙ ap cap x ∙ ap (λ (n : ℕ). cap (n + (a + f))) e ∙ cap-add (v + l) (a + f) ∙ ap cap y

pub close-laid : {f : Said} → f ≡ closes → is_laid f ≡ true
unfolding is_laid
close-laid e = ap is_laid e
