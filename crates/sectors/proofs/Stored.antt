-- Laws of a file in which one sector is stored, and two files that agree sector by sector.
use mathlib.Core.Path.{◌≡◌, sym, ap, ap₂, ◌∙◌}
use mathlib.Core.List.{List, ◌++◌}
use Prim.Native.Nat.{ℕ, zero, suc, ◌+◌, ◌-◌, ◌*◌, ◌≤◌, ◌<◌}
use native.Mathlib.Omega.{arith}
use lib.ListN.{length, take, drop, length-append, length-take, length-drop, take-append-drop}
use lib.Seq.{length-take-le, take_at, drop_at, take-append-le, take-take, drop-drop, take-add}
use Rattle.sectors.specs.Sector.{sector_at, stored}

-- a sector lies in the part up to its end
pub sector-of-take : (f : List ℕ) (b : ℕ) → b ≤ length f → sector_at f b ≡ drop b (take (b + 512) f)
sector-of-take f b h = sym (ap (drop b) (take-add b 512 f) ∙ drop_at (take b f) (take 512 (drop b f)) b (length-take-le b f h))

pub sector-length : (f : List ℕ) (b : ℕ) → b + 512 ≤ length f → length (sector_at f b) ≡ 512
sector-length f b h = simp (length-take, length-drop) (omega arith)

module _ (f : List ℕ) (at : ℕ) (new : List ℕ) (n : length new ≡ 512) (fits : at + 512 ≤ length f) where
  pub stored-length : length (stored f at new) ≡ length f
  stored-length = simp (length-append, length-take, length-drop) (omega arith)

  stored-drop-at : drop at (stored f at new) ≡ new ++ drop (at + 512) f
  stored-drop-at = drop_at (take at f) (new ++ drop (at + 512) f) at (length-take-le at f (omega arith))

  pub stored_same : sector_at (stored f at new) at ≡ new
  stored_same = ap (take 512) stored-drop-at ∙ take_at new (drop (at + 512) f) 512 n

  pub stored-take : (k : ℕ) → k ≤ at → take k (stored f at new) ≡ take k f
  stored-take k h =
      take-append-le k (take at f) (new ++ drop (at + 512) f) (simp length-take (omega arith)) ∙ take-take k at f h

  pub stored-drop : (k : ℕ) → at + 512 ≤ k → drop k (stored f at new) ≡ drop k f
  stored-drop k h =
      let j = k - (at + 512) in
      let e : k ≡ at + (512 + j) = omega arith in
      let e' : at + 512 + j ≡ k = omega arith in
      ap (λ (i : ℕ). drop i (stored f at new)) e ∙ sym (drop-drop (512 + j) at (stored f at new)) ∙ ap (drop (512 + j)) stored-drop-at
      ∙ sym (drop-drop j 512 (new ++ drop (at + 512) f)) ∙ ap (drop j) (drop_at new (drop (at + 512) f) 512 n)
      ∙ drop-drop j (at + 512) f ∙ ap (λ (i : ℕ). drop i f) e'

  pub stored-before : (b : ℕ) → b + 512 ≤ at → sector_at (stored f at new) b ≡ sector_at f b
  stored-before b h =
      sector-of-take (stored f at new) b (rw stored-length (omega arith)) ∙ ap (drop b) (stored-take (b + 512) h)
      ∙ sym (sector-of-take f b (omega arith))

  pub stored-after : (b : ℕ) → at + 512 ≤ b → sector_at (stored f at new) b ≡ sector_at f b
  stored-after b h = ap (take 512) (stored-drop b h)

-- a sector stored over itself changes nothing
pub stored-again : (f : List ℕ) (at : ℕ) → stored f at (sector_at f at) ≡ f
stored-again f at =
    ap (λ (l : List ℕ). take at f ++ (sector_at f at ++ l)) (sym (drop-drop 512 at f))
    ∙ ap (λ (l : List ℕ). take at f ++ l) (take-append-drop 512 (drop at f)) ∙ take-append-drop at f

-- two files that agree up to `from`, at each of n sectors after it and after those, are one
module _ (a b : List ℕ) (from : ℕ) (front : take from a ≡ take from b) where
  takes_same : (n : ℕ) → ((p : ℕ) → p < n → sector_at a (from + 512 * p) ≡ sector_at b (from + 512 * p)) → take (from + 512 * n) a ≡ take (from + 512 * n) b
  takes_same zero s = let e : from + 512 * 0 ≡ from = omega arith in ap (λ (k : ℕ). take k a) e ∙ front ∙ sym (ap (λ (k : ℕ). take k b) e)
  takes_same (suc n) s =
      let e : from + 512 * suc n ≡ from + 512 * n + 512 = omega arith in
      ap (λ (k : ℕ). take k a) e ∙ take-add (from + 512 * n) 512 a
      ∙ ap₂ ◌++◌ (takes_same n (λ p h. s p (omega arith))) (s n (omega arith))
      ∙ sym (ap (λ (k : ℕ). take k b) e ∙ take-add (from + 512 * n) 512 b)

  pub files-same : (n : ℕ)
      → ((p : ℕ) → p < n → sector_at a (from + 512 * p) ≡ sector_at b (from + 512 * p))
      → drop (from + 512 * n) a ≡ drop (from + 512 * n) b
      → a ≡ b
  files-same n s back = sym (take-append-drop (from + 512 * n) a) ∙ ap₂ ◌++◌ (takes_same n s) back ∙ take-append-drop (from + 512 * n) b
