-- A row of cells in use tiles what it stands on; each of its cells starts where those before it end, and holds its data.
use Prim.Native.Nat.{ℕ, zero, suc, ◌+◌, ◌-◌, ◌%◌, ◌≤◌, ◌<◌}
use native.Mathlib.Omega.{arith}
use mathlib.Core.Path.{◌≡◌, sym, ap, ◌∙◌, subst}
use mathlib.Core.List.{List, [], ◌∷◌, ◌++◌, append_assoc}
use lib.ListN.{length, length-append}
use Rattle.fields.specs.Number.{le32, size_at}
use Rattle.cells.specs.Named.{data_at}
use Rattle.cells.specs.Tiled.{Good, InCells}
use Rattle.cells.proofs.Written.{used_size, Counts, counts_end, counts-used, counts-free, in-here, in-later, used-there, data-there, free-there}
use Rattle.layout.specs.Layout.{cell_size, zeros, pad_of, cell_bytes, row_bytes, row_size, free_bytes}
use Rattle.layout.proofs.Sizes.{cell_room, cell-eights, cell-fills, cell-length}

good-cell : (n room : ℕ) → cell_size n ≤ room → Good (cell_size n) room
good-cell n room h = record { some = omega (arith, cell_room n); eights = cell-eights n; inside = h }

-- the cell x behind p, its size field and its data apart
opened : (d p x s : List ℕ) → d ≡ p ++ (cell_bytes x ++ s) → d ≡ p ++ (le32 (4294967296 - cell_size (length x)) ++ ((x ++ pad_of x) ++ s))
unfolding cell_bytes
opened d p x s e = e ∙ ap (λ (t : List ℕ). p ++ t) (append_assoc (le32 (4294967296 - cell_size (length x))) (x ++ pad_of x) s)

module _ (d : List ℕ) where
  size-there : (p x s : List ℕ) → d ≡ p ++ (cell_bytes x ++ s) → cell_size (length x) ≤ 2147483648 → size_at d (length p) ≡ used_size (cell_size (length x))
  size-there p x s e b = used-there d p (x ++ pad_of x) s (cell_size (length x)) (opened d p x s e) (cell-fills x) b

  holds-there : (p x s : List ℕ) → d ≡ p ++ (cell_bytes x ++ s) → cell_size (length x) ≤ 2147483648 → data_at d (record { 0 = length p }) ≡ x ++ pad_of x
  holds-there p x s e b = data-there d p (x ++ pad_of x) s (cell_size (length x)) (opened d p x s e) (cell-fills x) b

  -- one cell taken off a row: what is left stands behind it
  record Off (p x : List ℕ) (cs : List (List ℕ)) (s : List ℕ) : Type 0 where
    here : d ≡ p ++ (cell_bytes x ++ (row_bytes cs ++ s))
    rest : d ≡ (p ++ cell_bytes x) ++ (row_bytes cs ++ s)
    long : length (p ++ cell_bytes x) ≡ length p + cell_size (length x)

  taken-off : (p x : List ℕ) (cs : List (List ℕ)) (s : List ℕ) → d ≡ p ++ (row_bytes (x ∷ cs) ++ s) → Off p x cs s
  unfolding row_bytes
  taken-off p x cs s e =
      let a = e ∙ ap (λ (t : List ℕ). p ++ t) (append_assoc (cell_bytes x) (row_bytes cs) s) in
      record {
        here = a;
        rest = a ∙ sym (append_assoc p (cell_bytes x) (row_bytes cs ++ s));
        long = length-append p (cell_bytes x) ∙ ap (λ (k : ℕ). length p + k) (cell-length x);
      }

  -- the row tiles, and all its bytes are in use
  pub row_counts : (end : ℕ) (cs : List (List ℕ)) (p s : List ℕ) {used free : ℕ} → d ≡ p ++ (row_bytes cs ++ s) → row_size cs ≤ 2147483648
      → length p + row_size cs ≤ end → Counts d end (length p + row_size cs) used free → Counts d end (length p) (row_size cs + used) free
  unfolding row_size
  row_counts end [] p s {used} {free} e b c t =
      let q : length p + 0 ≡ length p = omega arith in
      let r : used ≡ 0 + used = omega arith in
      subst (λ (u : ℕ). Counts d end (length p) u free) r (subst (λ (k : ℕ). Counts d end k used free) q t)
  row_counts end (x ∷ cs) p s {used} {free} e b c t =
      let n = cell_size (length x) in
      let some = cell_room (length x) in
      let on = taken-off p x cs s e in
      let long = on.long in
      let whole : length p + (n + row_size cs) ≡ length (p ++ cell_bytes x) + row_size cs = omega arith in
      let sum : n + (row_size cs + used) ≡ n + row_size cs + used = omega arith in
      let rest =
      row_counts end cs (p ++ cell_bytes x) s on.rest (omega arith) (omega arith) (subst (λ (k : ℕ). Counts d end k used free) whole t) in
      subst (λ (u : ℕ). Counts d end (length p) u free) sum
      (counts-used d (size-there p x (row_bytes cs ++ s) on.here (omega arith)) (omega arith) (good-cell (length x) (end - length p) (omega arith))
      (subst (λ (k : ℕ). Counts d end k (row_size cs + used) free) long rest))

  -- a cell of the row, with some before it
  pub record There (end at o : ℕ) (x : List ℕ) : Type 0 where
    pub starts : InCells d end o at
    pub holds : data_at d (record { 0 = o }) ≡ x ++ pad_of x

  pub row-there : (end : ℕ) (bs : List (List ℕ)) (x : List ℕ) (ys : List (List ℕ)) (p s : List ℕ) → d ≡ p ++ (row_bytes (bs ++ (x ∷ ys)) ++ s)
      → row_size (bs ++ (x ∷ ys)) ≤ 2147483648 → length p + row_size (bs ++ (x ∷ ys)) ≤ end → There end (length p) (length p + row_size bs) x
  unfolding row_size
  row-there end [] x ys p s e b c =
      let on = taken-off p x ys s e in
      let some = cell_room (length x) in
      let q : length p ≡ length p + 0 = omega arith in
      let z = size-there p x (row_bytes ys ++ s) on.here (omega arith) in
      subst (λ (o : ℕ). There end (length p) o x) q
      (record {
        starts = in-here d z (omega arith) (good-cell (length x) (end - length p) (omega arith));
        holds = holds-there p x (row_bytes ys ++ s) on.here (omega arith);
      })
  row-there end (y ∷ bs) x ys p s e b c =
      let on = taken-off p y (bs ++ (x ∷ ys)) s e in
      let long = on.long in
      let n = cell_size (length y) in
      let some = cell_room (length y) in
      let z = size-there p y (row_bytes (bs ++ (x ∷ ys)) ++ s) on.here (omega arith) in
      let o : length (p ++ cell_bytes y) + row_size bs ≡ length p + (n + row_size bs) = omega arith in
      let r = row-there end bs x ys (p ++ cell_bytes y) s on.rest (omega arith) (omega arith) in
      record {
        starts =
            in-later d z (omega arith) (good-cell (length y) (end - length p) (omega arith))
            (subst (λ (k : ℕ). InCells d end (length p + (n + row_size bs)) k) long
            (subst (λ (k : ℕ). InCells d end k (length (p ++ cell_bytes y))) o r.starts));
        holds = subst (λ (k : ℕ). data_at d (record { 0 = k }) ≡ x ++ pad_of x) o r.holds;
      }

  -- the free cell behind, if any
  pub free-counts : (p : List ℕ) (n end : ℕ) → d ≡ p ++ free_bytes n → n % 8 ≡ 0 → n < 2147483648 → length p + n ≡ end → Counts d end (length p) 0 n
  unfolding free_bytes
  free-counts p zero end e eights b c =
      let q : end ≡ length p = omega arith in
      subst (λ (k : ℕ). Counts d end k 0 0) q (counts_end d end)
  free-counts p (suc n) end e eights b c =
      let q : end ≡ length p + suc n = omega arith in
      let r : suc n + 0 ≡ suc n = omega arith in
      subst (λ (k : ℕ). Counts d end (length p) 0 k) r
      (counts-free d (free-there d p (zeros (suc n - 4)) (suc n) e b) (omega arith)
      (record { some = omega arith; eights = eights; inside = omega arith }) (subst (λ (k : ℕ). Counts d end k 0 0) q (counts_end d end)))
