-- Where the cells of a row stand: a cell of it, and a part of it that is a row again, from an offset on.
use Prim.Native.Nat.{ℕ, ◌+◌, ◌≤◌}
use native.Mathlib.Omega.{arith}
use mathlib.Core.Path.{◌≡◌, refl, sym, ap, ◌∙◌}
use mathlib.Core.List.{List, [], ◌∷◌, ◌++◌, append_assoc, append-nil}
use lib.ListN.{length}
use Rattle.layout.specs.Layout.{cell_size, row_size}
use Rattle.layout.proofs.Sizes.{row-append}

-- of a row that stands at an offset: a cell that stands at another, and what is before it
pub record Split (cs : List (List ℕ)) (at o : ℕ) (x : List ℕ) : Type 0 where
  pub before : List (List ℕ)
  pub after : List (List ℕ)
  pub row : cs ≡ before ++ (x ∷ after)
  pub off : o ≡ at + row_size before

-- and some cells of it in a row
pub record Part (cs : List (List ℕ)) (at : ℕ) (ys : List (List ℕ)) (o : ℕ) : Type 0 where
  pub before : List (List ℕ)
  pub after : List (List ℕ)
  pub row : cs ≡ before ++ (ys ++ after)
  pub off : o ≡ at + row_size before

-- ---- from the inside out

pub split-here : (x : List ℕ) (xs : List (List ℕ)) (at : ℕ) → Split (x ∷ xs) at at x
unfolding row_size
split-here x xs at = record { before = []; after = xs; row = refl; off = omega arith }

pub split-left : (xs ys : List (List ℕ)) {at o : ℕ} {x : List ℕ} → Split xs at o x → Split (xs ++ ys) at o x
split-left xs ys {at} {o} {x} c =
    record {
      before = c.before;
      after = c.after ++ ys;
      row = ap (λ (t : List (List ℕ)). t ++ ys) c.row ∙ append_assoc c.before (x ∷ c.after) ys;
      off = c.off;
    }

pub split-right : (xs ys : List (List ℕ)) {at k o : ℕ} {x : List ℕ} → k ≡ at + row_size xs → Split ys k o x → Split (xs ++ ys) at o x
split-right xs ys {at} {k} {o} {x} e c =
    record {
      before = xs ++ c.before;
      after = c.after;
      row = ap (λ (t : List (List ℕ)). xs ++ t) c.row ∙ sym (append_assoc xs c.before (x ∷ c.after));
      off = let a = c.off in let b = row-append xs c.before in omega arith;
    }

pub split-later : (y : List ℕ) (ys : List (List ℕ)) {at k o : ℕ} {x : List ℕ} → k ≡ at + cell_size (length y) → Split ys k o x → Split (y ∷ ys) at o x
unfolding row_size
split-later y ys {at} {k} e c =
    let q : k ≡ at + (cell_size (length y) + 0) = omega arith in
    split-right (y ∷ []) ys q c

-- ---- from the outside in

pub part-all : (cs : List (List ℕ)) (at : ℕ) → Part cs at cs at
unfolding row_size
part-all cs at = record { before = []; after = []; row = sym (append-nil cs); off = omega arith }

module _ {cs : List (List ℕ)} {at o : ℕ} where
  pub part_left : (xs ys : List (List ℕ)) → Part cs at (xs ++ ys) o → Part cs at xs o
  part_left xs ys c =
      record {
        before = c.before;
        after = ys ++ c.after;
        row = c.row ∙ ap (λ (t : List (List ℕ)). c.before ++ t) (append_assoc xs ys c.after);
        off = c.off;
      }

  pub part_right : (xs ys : List (List ℕ)) {k : ℕ} → k ≡ o + row_size xs → Part cs at (xs ++ ys) o → Part cs at ys k
  part_right xs ys e c =
      record {
        before = c.before ++ xs;
        after = c.after;
        row =
            c.row ∙ ap (λ (t : List (List ℕ)). c.before ++ t) (append_assoc xs ys c.after)
            ∙ sym (append_assoc c.before xs (ys ++ c.after));
        off = let a = c.off in let b = row-append c.before xs in omega arith;
      }

  pub part-first : (x : List ℕ) (xs : List (List ℕ)) → Part cs at (x ∷ xs) o → Split cs at o x
  part-first x xs c = record { before = c.before; after = xs ++ c.after; row = c.row; off = c.off }

  pub part-rest : (x : List ℕ) (xs : List (List ℕ)) {k : ℕ} → k ≡ o + cell_size (length x) → Part cs at (x ∷ xs) o → Part cs at xs k
  unfolding row_size
  part-rest x xs {k} e c =
      let q : k ≡ o + (cell_size (length x) + 0) = omega arith in
      part_right (x ∷ []) xs q c

  -- it ends inside the row
  pub part-ends : (ys : List (List ℕ)) → Part cs at ys o → o + row_size ys ≤ at + row_size cs
  part-ends ys c =
      let a = c.off in
      let r = ap row_size c.row in
      let s = row-append c.before (ys ++ c.after) in
      let t = row-append ys c.after in
      omega arith
