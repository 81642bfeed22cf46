-- The rows: what `store` writes and what a turn of `fill` keeps.
use Prim.Native.Nat.{ℕ, zero, suc, ◌+◌, ◌-◌, ◌*◌, ◌/◌, ◌≤◌, ◌<◌}
use native.Mathlib.Omega.{arith}
use mathlib.Core.Path.{◌≡◌, refl, sym, ap, ap₂, ◌∙◌}
use mathlib.Core.Bool.{Bool, true, false}
use mathlib.Core.List.{List, [], ◌∷◌, ◌++◌, append_assoc}
use lib.Dec.{leb}
use lib.ListN.{length, set, take, drop, length-append, length-take, take-append-drop}
use lib.Seq.{sets, sets-eq, length-sets, take_at, drop_at, drop-drop, take-nil}
use borrow.Author.Tests.{le-leb, lt-leb, leb-true, leb-false}
use Rattle.fields.specs.declared.Fault.TheVariants.{OutputShort}
use Rattle.fields.specs.Faults.{flaw, nowhere, no_key, refusal_of}
use Rattle.remnants.specs.declared.Cursor.{Cursor}
use Rattle.remnants.specs.declared.Remain.{Remain}
use Rattle.remnants.specs.Remnants.{remain_at, words_of, rows_of, fitting, filled_with, poured}
use Rattle.remnants.specs.declared.Kind.{Kind}
use Rattle.remnants.specs.Terms.{cursor, Sought, Sees, sought_left, pour_from, count_from}
use Rattle.remnants.proofs.Seeks.{first-left}
use Rattle.std.specs.Prelude.{Err, None, Ok, Some}

pub stored : (l : List ℕ) (i a b n w : ℕ) → set (set (set (set l i a) (i + 1) b) (i + 2) n) (i + 3) w ≡ sets l i (a ∷ b ∷ n ∷ w ∷ [])
stored l i a b n w =
    let one : i + 1 ≡ suc i = omega arith in
    let two : i + 2 ≡ suc (suc i) = omega arith in
    let three : i + 3 ≡ suc (suc (suc i)) = omega arith in
    rw (one, two, three)

-- one step, by what is left and whether there is room
module _ (n : ℕ) where
  count-nil : (room : ℕ) → count_from [] n room ≡ n
  unfolding count_from
  count-nil room = refl

  pour-nil : (rows : List ℕ) → pour_from [] n rows ≡ rows
  unfolding pour_from
  pour-nil rows = refl

  count-full : (xs : List Remain) (room : ℕ) → room < 4 * n + 4 → count_from xs n room ≡ n
  unfolding count_from
  count-full [] room p = refl
  count-full (x ∷ xs) room p = rw (lt-leb (4 * n + 4) room p)

  pour-full : (xs : List Remain) (rows : List ℕ) → length rows < 4 * n + 4 → pour_from xs n rows ≡ rows
  unfolding pour_from
  pour-full [] rows p = refl
  pour-full (x ∷ xs) rows p = rw (lt-leb (4 * n + 4) (length rows) p)

  count-step : (x : Remain) (xs : List Remain) (room : ℕ) → 4 * n + 4 ≤ room → count_from (x ∷ xs) n room ≡ count_from xs (n + 1) room
  unfolding count_from
  count-step x xs room p = rw (le-leb (4 * n + 4) room p)

  pour-step : (x : Remain) (xs : List Remain) (rows : List ℕ) → 4 * n + 4 ≤ length rows
      → pour_from (x ∷ xs) n rows ≡ pour_from xs (n + 1) (sets rows (4 * n) (words_of x))
  unfolding pour_from
  pour-step x xs rows p = rw (le-leb (4 * n + 4) (length rows) p)

-- what the loop of `fill` keeps: the rows so far and what is left give what the whole gives
pub record Filling (d : List ℕ) (from : ℕ) (xs : List Remain) (rows₀ rows : List ℕ) (c : Cursor) (n : ℕ) : Type 0 where
  pub sought : Sought d from c
  pub kept : length rows ≡ length rows₀
  pub room : 4 * n ≤ length rows₀
  pub count : count_from xs 0 (length rows₀) ≡ count_from (sought_left d from c) n (length rows₀)
  pub pour : pour_from xs 0 rows₀ ≡ pour_from (sought_left d from c) n rows

module _ {d : List ℕ} {from : ℕ} {xs : List Remain} {rows₀ rows : List ℕ} {c : Cursor} {n : ℕ} (f : Filling d from xs rows₀ rows c n) where
  pub filled-end : c.kind ≡ None → (n ≡ count_from xs 0 (length rows₀)) × (rows ≡ pour_from xs 0 rows₀)
  filled-end e =
      let l = f.sought.lost e in (
        sym (f.count ∙ ap (λ (ys : List Remain). count_from ys n (length rows₀)) l ∙ count-nil n (length rows₀)),
        sym (f.pour ∙ ap (λ (ys : List Remain). pour_from ys n rows) l ∙ pour-nil n rows),
      )

  pub filled-full : length rows - 4 * n < 4 → (n ≡ count_from xs 0 (length rows₀)) × (rows ≡ pour_from xs 0 rows₀)
  filled-full p =
      let k = f.kept in
      let r = f.room in (
        sym (f.count ∙ count-full n (sought_left d from c) (length rows₀) (omega arith)),
        sym (f.pour ∙ pour-full n (sought_left d from c) rows (omega arith)),
      )

  pub filled_on : {k : Kind} → c.kind ≡ Some k → 4 ≤ length rows - 4 * n → {x : Remain} → x ≡ remain_at d c.at c.cell k
      → {rows' : List ℕ} → rows' ≡ sets rows (4 * n) (words_of x) → {r : Cursor} → Sees d (cursor (c.at + 8) c.cell c.bin) from r
      → Filling d from xs rows₀ rows' r (n + 1)
  filled_on e p {x} is {rows'} s {r} v =
      let k = f.kept in
      let m = f.room in
      let l : sought_left d from c ≡ x ∷ sought_left d from r
      = first-left f.sought e ∙ ap₂ (λ (y : Remain) (ys : List Remain). y ∷ ys) (sym is) v.same in
      record {
        sought = v.sought;
        kept = ap length s ∙ length-sets rows (4 * n) (words_of x) ∙ k;
        room = omega arith;
        count = f.count ∙ ap (λ (ys : List Remain). count_from ys n (length rows₀)) l ∙ count-step n x (sought_left d from r) (length rows₀) (omega arith);
        pour =
            f.pour ∙ ap (λ (ys : List Remain). pour_from ys n rows) l ∙ pour-step n x (sought_left d from r) rows (omega arith)
            ∙ ap (pour_from (sought_left d from r) (n + 1)) (sym s);
      }

-- what the rows are in the end
counted : (xs : List Remain) (n room : ℕ) → 4 * n ≤ room → count_from xs n room ≡ n + length (take ((room - 4 * n) / 4) xs)
counted [] n room p = count-nil n room ∙ sym (ap (λ (l : List Remain). n + length l) (take-nil ((room - 4 * n) / 4)) ∙ omega arith)
counted (x ∷ xs) n room p = by (leb (4 * n + 4) room) refl (λ q. counted xs (n + 1) room q)
  where
    by : (t : Bool) → leb (4 * n + 4) room ≡ t
        → (4 * (n + 1) ≤ room → count_from xs (n + 1) room ≡ n + 1 + length (take ((room - 4 * (n + 1)) / 4) xs))
        → count_from (x ∷ xs) n room ≡ n + length (take ((room - 4 * n) / 4) (x ∷ xs))
    by true e ih =
        let q = leb-true (4 * n + 4) room e in
        let k : (room - 4 * n) / 4 ≡ suc ((room - 4 * (n + 1)) / 4) = omega arith in
        count-step n x xs room q ∙ ih (omega arith) ∙ rw k (omega arith)
    by false e ih =
        let q = leb-false (4 * n + 4) room e in
        let k : (room - 4 * n) / 4 ≡ 0 = omega arith in
        count-full n (x ∷ xs) room q ∙ rw k (omega arith)

-- a row stored: what stands before it, and what stands behind it
module _ (rows : List ℕ) (n : ℕ) (x : Remain) (p : 4 * n + 4 ≤ length rows) where
  after_is : sets rows (4 * n) (words_of x) ≡ (take (4 * n) rows ++ words_of x) ++ drop (4 * n + 4) rows
  after_is = sets-eq (words_of x) rows (4 * n) p

  head-length : length (take (4 * n) rows ++ words_of x) ≡ 4 * (n + 1)
  head-length = simp (length-append, length-take) (omega arith)

  take_row : take (4 * (n + 1)) (sets rows (4 * n) (words_of x)) ≡ take (4 * n) rows ++ words_of x
  take_row = ap (take (4 * (n + 1))) after_is ∙ take_at (take (4 * n) rows ++ words_of x) (drop (4 * n + 4) rows) (4 * (n + 1)) head-length

  drop-row : (m : ℕ) → drop (4 * (n + 1 + m)) (sets rows (4 * n) (words_of x)) ≡ drop (4 * (n + 1 + m)) rows
  drop-row m =
      let e : 4 * (n + 1 + m) ≡ 4 * (n + 1) + 4 * m = omega arith in
      let k : 4 * n + 4 ≡ 4 * (n + 1) = omega arith in
      ap (λ (i : ℕ). drop i (sets rows (4 * n) (words_of x))) e
      ∙ sym (drop-drop (4 * m) (4 * (n + 1)) (sets rows (4 * n) (words_of x)))
      ∙ ap (drop (4 * m))
      (ap (drop (4 * (n + 1))) after_is ∙ drop_at (take (4 * n) rows ++ words_of x) (drop (4 * n + 4) rows) (4 * (n + 1)) head-length
      ∙ ap (λ (i : ℕ). drop i rows) k)
      ∙ drop-drop (4 * m) (4 * (n + 1)) rows
      ∙ ap (λ (i : ℕ). drop i rows) (sym e)

-- the rows before row n, those that are left, and the words behind them
abbrev rows_with : List ℕ → ℕ → List Remain → List ℕ
rows_with rows n ys = take (4 * n) rows ++ (rows_of ys ++ drop (4 * (n + length ys)) rows)

row_in : (rows : List ℕ) (n : ℕ) (x : Remain) → 4 * n + 4 ≤ length rows → (ys : List Remain)
    → rows_with (sets rows (4 * n) (words_of x)) (n + 1) ys ≡ rows_with rows n (x ∷ ys)
unfolding rows_of
row_in rows n x q ys =
    let e : 4 * (n + 1 + length ys) ≡ 4 * (n + suc (length ys)) = omega arith in
    ap₂ (λ (a b : List ℕ). a ++ (rows_of ys ++ b)) (take_row rows n x q) (drop-row rows n x q (length ys) ∙ ap (λ (i : ℕ). drop i rows) e)
    ∙ append_assoc (take (4 * n) rows) (words_of x) (rows_of ys ++ drop (4 * (n + suc (length ys))) rows)

none_more : (rows : List ℕ) (n : ℕ) → rows ≡ rows_with rows n []
unfolding rows_of
none_more rows n =
    let e : 4 * (n + zero) ≡ 4 * n = omega arith in
    sym (ap (λ (k : ℕ). take (4 * n) rows ++ drop k rows) e ∙ take-append-drop (4 * n) rows)

poured-on : (xs : List Remain) (n : ℕ) (rows : List ℕ) → 4 * n ≤ length rows
    → pour_from xs n rows ≡ rows_with rows n (take ((length rows - 4 * n) / 4) xs)
poured-on [] n rows p = pour-nil n rows ∙ none_more rows n ∙ sym (ap (rows_with rows n) (take-nil ((length rows - 4 * n) / 4)))
poured-on (x ∷ xs) n rows p = by (leb (4 * n + 4) (length rows)) refl (λ q. poured-on xs (n + 1) (sets rows (4 * n) (words_of x)) q)
  where
    by : (t : Bool) → leb (4 * n + 4) (length rows) ≡ t
        → (4 * (n + 1) ≤ length (sets rows (4 * n) (words_of x)) → pour_from xs (n + 1) (sets rows (4 * n) (words_of x))
        ≡ rows_with (sets rows (4 * n) (words_of x)) (n + 1) (take ((length (sets rows (4 * n) (words_of x)) - 4 * (n + 1)) / 4) xs))
        → pour_from (x ∷ xs) n rows ≡ rows_with rows n (take ((length rows - 4 * n) / 4) (x ∷ xs))
    by false e ih =
        let q = leb-false (4 * n + 4) (length rows) e in
        let k : (length rows - 4 * n) / 4 ≡ 0 = omega arith in
        pour-full n (x ∷ xs) rows q ∙ none_more rows n ∙ sym (ap (λ (i : ℕ). rows_with rows n (take i (x ∷ xs))) k)
    by true e ih =
        let q = leb-true (4 * n + 4) (length rows) e in
        let l = length-sets rows (4 * n) (words_of x) in
        let k : (length rows - 4 * n) / 4 ≡ suc ((length (sets rows (4 * n) (words_of x)) - 4 * (n + 1)) / 4) = omega arith in
        pour-step n x xs rows q ∙ ih (omega arith)
        ∙ row_in rows n x q (take ((length (sets rows (4 * n) (words_of x)) - 4 * (n + 1)) / 4) xs)
        ∙ sym (ap (λ (i : ℕ). rows_with rows n (take i (x ∷ xs))) k)

module _ (xs : List Remain) (rows : List ℕ) where
  whole : (length rows - 4 * 0) / 4 ≡ length rows / 4
  whole = omega arith

  pub count-all : count_from xs 0 (length rows) ≡ length (fitting (length rows) xs)
  count-all = counted xs 0 (length rows) (omega arith) ∙ ap (λ (k : ℕ). 0 + length (take k xs)) whole ∙ omega arith

  pub pour-all : pour_from xs 0 rows ≡ poured xs rows
  unfolding poured
  pour-all =
      poured-on xs 0 rows (omega arith) ∙ ap (λ (k : ℕ). rows_with rows 0 (take k xs)) whole
      ∙ ap (λ (k : ℕ). rows_of (fitting (length rows) xs) ++ drop k rows) same
    where
      same : 4 * (0 + length (fitting (length rows) xs)) ≡ 4 * length (fitting (length rows) xs)
      same = omega arith

-- nothing is written where none is left, or where there is no room
pub poured-none : (rows : List ℕ) → poured [] rows ≡ rows
poured-none rows = sym (pour-all [] rows) ∙ pour-nil 0 rows

pub poured-short : (xs : List Remain) (rows : List ℕ) → length rows < 4 → poured xs rows ≡ rows
poured-short xs rows p = sym (pour-all xs rows) ∙ pour-full 0 xs rows (omega arith)

-- the answers: where none is left, where there is no room, where there is
pub rows_none : (rows : List ℕ) {xs : List Remain} → xs ≡ [] → ((Ok None) ≡ filled_with (length rows) xs) × (rows ≡ poured xs rows)
rows_none rows e = (rw e, rw e (sym (poured-none rows)))

pub rows_short : (rows : List ℕ) {x : Remain} {xs ys : List Remain} → length rows < 4 → xs ≡ x ∷ ys
    → (Err (refusal_of no_key (flaw OutputShort nowhere)) ≡ filled_with (length rows) xs) × (rows ≡ poured xs rows)
rows_short rows {x} {xs} p e = (rw (e, lt-leb 4 (length rows) p), sym (poured-short xs rows p))

pub rows-some : (rows : List ℕ) {x : Remain} {xs ys zs : List Remain} {n : ℕ} {after : List ℕ} → 4 ≤ length rows → xs ≡ x ∷ ys → xs ≡ zs
    → n ≡ count_from zs 0 (length rows) → after ≡ pour_from zs 0 rows → (Ok (Some n) ≡ filled_with (length rows) xs) × (after ≡ poured xs rows)
rows-some rows {x} {xs} {ys} {zs} {n} {after} p e z c o =
    (ap (λ (x : ℕ). Ok (Some x)) (c ∙ count-all zs rows ∙ ap (λ (l : List Remain). length (fitting (length rows) l)) (sym z)) ∙ sym one, o ∙ pour-all zs rows ∙ rw z)
  where
    one : filled_with (length rows) xs ≡ Ok (Some (length (fitting (length rows) xs)))
    one = rw (e, le-leb 4 (length rows) p)
