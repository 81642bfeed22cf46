-- The cells of keys: a key's own cell is written last, though it stands first.
use Prim.Native.Nat.{ℕ, suc, ◌+◌, ◌<◌, ◌≤◌}
use native.Mathlib.Omega.{arith}
use mathlib.Core.Path.{◌≡◌, refl, sym, ap, ◌∙◌}
use mathlib.Core.Bool.{true, false}
use mathlib.Core.List.{List, [], ◌∷◌, ◌++◌, append_assoc, append-nil}
use lib.ListN.{length, drop, set}
use lib.Seq.{sets, set_comm, drop-drop}
use Rattle.forest.specs.Forest.{Item, Forest, none, more, key_frame, item_frames, forest_frames}
use Rattle.forest.specs.Faults.{shape_of, frame_len, is_laid}
use Rattle.forest.specs.Allowed.{KeyAllowed, Allowed, allowed-none, allowed-more}
use Rattle.forest.proofs.Shapes.{key_fits, key-shape, key_left, close-shape}
use Rattle.forest.proofs.Written.{in_a_row}
use Rattle.stream.specs.Stream.{close_frame}
use Rattle.stream.proofs.Puts.{put_then}
use Rattle.layout.specs.Layout.{cells_of, beside_at}
use Rattle.build_write.specs.Terms.{is_value, ValuesHere}

set_apart : (ys l : List ℕ) (i j a : ℕ) → i < j → set (sets l j ys) i a ≡ sets (set l i a) j ys
set_apart [] l i j a p = refl
set_apart (y ∷ ys) l i j a p =
    set_apart ys (set l j y) i (suc j) a (omega arith)
    ∙ ap (λ (m : List ℕ). sets m (suc j) ys) (set_comm l j i y a (λ e. omega (arith, e)))

pub sets-apart : (xs ys l : List ℕ) (i j : ℕ) → i + length xs ≤ j → sets (sets l j ys) i xs ≡ sets (sets l i xs) j ys
sets-apart [] ys l i j p = refl
sets-apart (x ∷ xs) ys l i j p =
    ap (λ (m : List ℕ). sets m (suc i) xs) (set_apart ys l i j x (omega arith)) ∙ sets-apart xs ys (set l i x) (suc i) j (omega arith)

-- what stands first may be written last
pub put-before : (xs ys l : List ℕ) (i j : ℕ) → j ≡ i + length xs → sets (sets l j ys) i xs ≡ sets l i (xs ++ ys)
put-before xs ys l i j e = sets-apart xs ys l i j (omega arith) ∙ sym (put_then xs ys l i j e)

-- a key, and then the keys beside it
pub cells-first : (s : ℕ) (x : List ℕ) (vs : List Item) (b r : Forest) (at parent S : ℕ)
    → cells_of (more s x vs b r) at parent S ≡ cells_of (more s x vs b none) at parent S ++ cells_of r (beside_at x vs b at) parent S
unfolding cells_of
cells-first s x vs b r at parent S = simp (append_assoc, append-nil)

-- behind a key's values stands a key below it or its closing, which is no value
pub below-no-value : {n : ℕ} {b : Forest} → Allowed n b → (t : List ℕ) → is_value (shape_of (forest_frames b ++ (close_frame ++ t))) ≡ false
unfolding is_value forest_frames
below-no-value allowed-none t = ap is_value (close-shape t)
below-no-value (allowed-more {s = s} {x = x} {vs = vs} {b = b} {r = r} k a c) t =
    ap (λ (y : List ℕ). is_value (shape_of y)) (in_a_row s x vs b r (close_frame ++ t))
    ∙ ap is_value (key-shape s x (key_fits k.stamp-fits k.name) _)

below-laid : {n : ℕ} {b : Forest} → Allowed n b → (t : List ℕ) → is_laid (shape_of (forest_frames b ++ (close_frame ++ t))) ≡ true
unfolding is_laid forest_frames
below-laid allowed-none t = ap is_laid (close-shape t)
below-laid (allowed-more {s = s} {x = x} {vs = vs} {b = b} {r = r} k a c) t =
    ap (λ (y : List ℕ). is_laid (shape_of y)) (in_a_row s x vs b r (close_frame ++ t))
    ∙ ap is_laid (key-shape s x (key_fits k.stamp-fits k.name) _)

-- the values of a key, behind the frame that opens it
pub key-values : (s : List ℕ) (at sh n : ℕ) (x : List ℕ) (vs : List Item) (b : Forest) (t : List ℕ)
    → drop at s ≡ key_frame sh x ++ (item_frames vs ++ (forest_frames b ++ (close_frame ++ t))) → KeyAllowed sh x vs b → Allowed n b
    → (stop : ℕ) → stop ≡ at + frame_len (drop at s) → stop ≤ length s → ValuesHere s stop vs (forest_frames b ++ (close_frame ++ t))
key-values s at sh n x vs b t f k a stop e p = record {
  starts = p;
  frames =
      ap (λ (m : ℕ). drop m s) e ∙ sym (drop-drop (frame_len (drop at s)) at s)
      ∙ ap (λ (y : List ℕ). drop (frame_len y) y) f ∙ key_left sh x (key_fits k.stamp-fits k.name) _;
  each = k.each;
  laid = below-laid a t;
  ends = below-no-value a t;
}
