-- Bytes put into a list at a position, one part after the other, and a frame put by its parts.
use Prim.Native.Nat.{ℕ, ◌+◌, ◌-◌, ◌≤◌}
use native.Mathlib.Omega.{arith}
use native.Mathlib.Nat.{zero-add}
use mathlib.Core.Path.{◌≡◌, refl, sym, ap, ◌∙◌}
use mathlib.Core.List.{List, [], ◌++◌, append_assoc, append-nil}
use lib.ListN.{length, take, drop, length-append}
use lib.Seq.{sets, sets-eq, drop-length}
use borrow.Rule.Slice.PartMut.{put_mid, Post-is}
use Rattle.fields.specs.Number.{le16, le32}
use Rattle.stream.specs.Stream.{frame, close_frame}
use Rattle.fields.proofs.Little.{length-le16, length-le32, sets-append}

pub put_then : (xs ys l : List ℕ) (i j : ℕ) → j ≡ i + length xs → sets l i (xs ++ ys) ≡ sets (sets l i xs) j ys
put_then xs ys l i j e = sets-append xs ys l i ∙ ap (λ (n : ℕ). sets (sets l i xs) n ys) (sym e)

-- a part that was lent and comes back
pub part-put : (l xs : List ℕ) (i e : ℕ) → e ≡ i + length xs → e ≤ length l → take i l ++ (xs ++ drop e l) ≡ sets l i xs
part-put l xs i e p q =
    sym (sets-eq xs l i (omega arith) ∙ append_assoc (take i l) xs (drop (i + length xs) l)
    ∙ ap (λ (n : ℕ). take i l ++ (xs ++ drop n l)) (sym p))

pub part_lent : (l xs : List ℕ) (i e : ℕ) → e ≡ i + length xs → e ≤ length l → put_mid i (e - i) l xs ≡ sets l i xs
part_lent l xs i e p q = ap (λ (zs : List ℕ). take i l ++ (xs ++ zs)) (Post-is i e l (omega arith)) ∙ part-put l xs i e p q

-- all of a list
pub put_all : (l xs : List ℕ) → length xs ≡ length l → sets l 0 xs ≡ xs
put_all l xs e =
    sets-eq xs l 0 (omega arith) ∙ ap (λ (n : ℕ). xs ++ drop n l) (zero-add (length xs) ∙ e) ∙ ap (λ (ys : List ℕ). xs ++ ys) (drop-length l) ∙ append-nil xs

module _ (kind : ℕ) (p : List ℕ) where
  head-length : length (le32 (length p) ++ le16 kind) ≡ 6
  head-length =
      let a = length-append (le32 (length p)) (le16 kind) in
      let b = length-le32 (length p) in
      let c = length-le16 kind in
      omega arith

  pub frame-length : length (frame kind p) ≡ 6 + length p
  unfolding frame
  frame-length = let a = length-append (le32 (length p) ++ le16 kind) p in let b = head-length in omega arith

  pub put-frame : (l : List ℕ) (at n : ℕ) → n ≡ length p → sets (sets (sets l at (le32 n)) (at + 4) (le16 kind)) (at + 6) p ≡ sets l at (frame kind p)
  unfolding frame
  put-frame l at n e =
      let b = length-le32 (length p) in
      let h = head-length in
      ap (λ (x : ℕ). sets (sets (sets l at (le32 x)) (at + 4) (le16 kind)) (at + 6) p) e
      ∙ sym (put_then (le32 (length p) ++ le16 kind) p l at (at + 6) (omega arith)
      ∙ ap (λ (m : List ℕ). sets m (at + 6) p) (put_then (le32 (length p)) (le16 kind) l at (at + 4) (omega arith)))

pub close-length : length close_frame ≡ 6
unfolding close_frame
close-length = frame-length 18 []

pub put-closing : (l : List ℕ) (at : ℕ) → sets (sets l at (le32 0)) (at + 4) (le16 18) ≡ sets l at close_frame
unfolding close_frame
put-closing l at = put-frame 18 [] l at 0 refl
