-- The cell that an offset names, and what the crates above may use, that a cell's data lie inside the bins data.
use Prim.Native.Nat.{ℕ, ◌+◌, ◌-◌, ◌%◌, ◌≤◌}
use native.Mathlib.Omega.{arith}
use mathlib.Core.Path.{◌≡◌, refl, sym, ap, ◌∙◌}
use mathlib.Core.Bool.{Bool, true, false}
use mathlib.Core.List.{List}
use lib.Dec.{eqb, leb}
use lib.ListN.{length, length-take, length-drop}
use borrow.Author.Tests.{leb-true, eqb-true}
use Rattle.fields.specs.declared.Offset.{Offset}
use Rattle.fields.specs.declared.Flaw.{Flaw}
use Rattle.fields.specs.declared.Fault.TheVariants.{NoCell}
use Rattle.fields.specs.Number.{size_at}
use Rattle.fields.specs.Faults.{flaw}
use Rattle.fields.proofs.Bools.{and-inv}
use Rattle.cells.specs.declared.Cell.{Cell}
use Rattle.cells.specs.Rule.{Rule, Map, Header}
use Rattle.cells.specs.Map.{is_marked}
use Rattle.cells.specs.Named.{is_named, cell_at, by_header, cell_of, cell_fault, data_of, data_at}
use Rattle.cells.specs.Terms.{length_named, length_by, Inside}
use Rattle.cells.specs.Tiled.{Good}
use Rattle.cells.proofs.Steps.{good}
use Rattle.std.specs.Prelude.{Err, Ok, Result}

-- what an offset that names a cell is
pub record Names (d : List ℕ) (o : ℕ) : Type 0 where
  pub high : 32 ≤ o
  pub eights : o % 8 ≡ 0
  pub room : o + 4 ≤ length d
  pub used : (size_at d o).used ≡ true
  pub sized : Good (size_at d o).bytes (length d - o)

pub names : (d : List ℕ) (o : ℕ) → is_named d o ≡ true → Names d o
unfolding is_named
names d o e =
    let a = and-inv (leb 32 o) _ e in
    let b = and-inv (eqb (o % 8) 0) _ a.1 in
    let l = and-inv (leb (o + 4) (length d)) _ b.1 in
    let u = and-inv (size_at d o).used _ l.1 in
    record {
      high = leb-true 32 o a.0;
      eights = eqb-true (o % 8) 0 b.0;
      room = leb-true (o + 4) (length d) l.0;
      used = u.0;
      sized = good _ _ u.1;
    }

-- a length of 0 is that of no cell, and any other that of the cell
module _ (d : List ℕ) (o : Offset) where
  none-there : length_named d o.0 ≡ 0 → by_header d o ≡ Err (flaw NoCell o)
  unfolding length_named by_header
  none-there e = by (is_named d o.0) refl
    where
      by : (t : Bool) → is_named d o.0 ≡ t → by_header d o ≡ Err (flaw NoCell o)
      by true f = let s = (names d o.0 f).sized in let z : (size_at d o.0).bytes ≡ 0 = rw f at e in absurd (omega (arith, s.some))
      by false f = rw f

  some-there : (n : ℕ) → n ≡ length_named d o.0 → (n ≡ 0 → ⊥) → (is_named d o.0 ≡ true) × (n ≡ (size_at d o.0).bytes)
  unfolding length_named
  some-there n e z = by (is_named d o.0) refl
    where
      by : (t : Bool) → is_named d o.0 ≡ t → (is_named d o.0 ≡ true) × (n ≡ (size_at d o.0).bytes)
      by true f = (f, rw f at e)
      by false f = absurd (z (rw f at e))

  pub length_none : (r : Rule) (m : List ℕ) → length_by r d m o.0 ≡ 0 → cell_of r d m o ≡ Err (flaw NoCell o)
  unfolding length_by cell_of
  length_none Header m e = none-there e
  length_none Map m e = by (is_marked m o.0) refl
    where
      by : (t : Bool) → is_marked m o.0 ≡ t → cell_of Map d m o ≡ Err (flaw NoCell o)
      by true f = rw f (none-there (rw f at e))
      by false f = rw f

  pub length_some : (r : Rule) (m : List ℕ) (n : ℕ) → n ≡ length_by r d m o.0 → (n ≡ 0 → ⊥)
      → (cell_of r d m o ≡ Ok (record { at = o; len = n - 4 })) × Names d o.0 × (n ≡ (size_at d o.0).bytes)
  unfolding length_by cell_of by_header
  length_some Header m n e z = let s = some-there n e z in (rw (s.0, s.1), names d o.0 s.0, s.1)
  length_some Map m n e z = by (is_marked m o.0) refl
    where
      by : (t : Bool) → is_marked m o.0 ≡ t
          → (cell_of Map d m o ≡ Ok (record { at = o; len = n - 4 })) × Names d o.0 × (n ≡ (size_at d o.0).bytes)
      by true f = let s = some-there n (rw f at e) z in (rw (f, s.0, s.1), names d o.0 s.0, s.1)
      by false f = absurd (z (rw f at e))

module _ (d : List ℕ) (o : Offset) where
  -- a cell that is found is the one that stands there
  pub found : {c : Cell} → by_header d o ≡ Ok c → (is_named d o.0 ≡ true) × (c ≡ cell_at d o)
  unfolding by_header
  found {c} e = by (is_named d o.0) refl
    where
      by : (t : Bool) → is_named d o.0 ≡ t → (is_named d o.0 ≡ true) × (c ≡ cell_at d o)
      by true f = (f, let q : cell_at d o ≡ c = cc in sym q)
      by false f = let z : ◌≡◌ {A = ℕ} 0 1 = cc in absurd (omega arith)

  -- by either rule, a cell that is found is one by its own header
  by-either : (r : Rule) (m : List ℕ) {c : Cell} → cell_of r d m o ≡ Ok c → by_header d o ≡ Ok c
  unfolding cell_of
  by-either Header m e = e
  by-either Map m {c} e = by (is_marked m o.0) refl
    where
      by : (t : Bool) → is_marked m o.0 ≡ t → by_header d o ≡ Ok c
      by true f = rw f at e
      by false f = let z : ◌≡◌ {A = ℕ} 0 1 = cc in absurd (omega arith)

  pub inside : (r : Rule) (m : List ℕ) {c : Cell} → cell_of r d m o ≡ Ok c → Inside d c
  inside r m {c} e =
      let f = found (by-either r m e) in
      let n = names d o.0 f.0 in
      let s = n.sized in
      rw f.1 (record { ends = omega arith })

  -- what is not found is missing at the offset itself
  missing : (r : Rule) (m : List ℕ) {f : Flaw} → cell_of r d m o ≡ Err f → f ≡ flaw NoCell o
  unfolding cell_of by_header
  missing Header m {f} e = by (is_named d o.0) refl
    where
      by : (t : Bool) → is_named d o.0 ≡ t → f ≡ flaw NoCell o
      by true g = let z : ◌≡◌ {A = ℕ} 0 1 = cc in absurd (omega arith)
      by false g = let q : flaw NoCell o ≡ f = cc in sym q
  missing Map m {f} e = by (is_marked m o.0) refl (is_named d o.0) refl
    where
      by : (t : Bool) → is_marked m o.0 ≡ t → (s : Bool) → is_named d o.0 ≡ s → f ≡ flaw NoCell o
      by true g true k = let z : ◌≡◌ {A = ℕ} 0 1 = cc in absurd (omega arith)
      by true g false k = let q : flaw NoCell o ≡ f = cc in sym q
      by false g s k = let q : flaw NoCell o ≡ f = cc in sym q

pub data-length : (d : List ℕ) (c : Cell) → Inside d c → length (data_of d c) ≡ c.len
unfolding data_of
data-length d c p = simp (length-take, length-drop) (omega (arith, p.ends))

-- What the upper crates' proofs use where `find_cell` answered: a cell that is found passes the test, and its data are those at the offset.
module _ (r : Rule) (d m : List ℕ) (o : Offset) where
  pub cell-sound : {c : Cell} → cell_of r d m o ≡ Ok c → cell_fault r d m o ≡ Ok tt
  unfolding cell_fault
  cell-sound e = rw e

  pub cell-flawed : {f : Flaw} → cell_of r d m o ≡ Err f → cell_fault r d m o ≡ Err f
  unfolding cell_fault
  cell-flawed e = rw e

  pub cell-data-at : {c : Cell} → cell_of r d m o ≡ Ok c → data_of d c ≡ data_at d o
  unfolding data_at
  cell-data-at e = ap (data_of d) (found d o (by-either d o r m e)).1

  -- by its header it is found too, whatever the map
  pub header-cell : cell_fault r d m o ≡ Ok tt → (m' : List ℕ) → cell_fault Header d m' o ≡ Ok tt
  unfolding cell_fault cell_of
  header-cell e m' = by (cell_of r d m o) refl
    where
      by : (x : Result Cell Flaw) → cell_of r d m o ≡ x → cell_fault Header d m' o ≡ Ok tt
      by (Ok c) p = rw (by-either d o r m p)
      by (Err f) p = let z : ◌≡◌ {A = ℕ} 0 1 = cc in absurd (omega arith)

  pub sound-names : cell_fault r d m o ≡ Ok tt → Names d o.0
  unfolding cell_fault
  sound-names e = by (cell_of r d m o) refl
    where
      by : (f : Result Cell Flaw) → cell_of r d m o ≡ f → Names d o.0
      by (Ok c) p = names d o.0 (found d o (by-either d o r m p)).0
      by (Err f) p = let z : ◌≡◌ {A = ℕ} 0 1 = cc in absurd (omega arith)

  -- a fault of the cell is 11 at the offset itself
  pub cell-fault-is : {f : Flaw} → cell_fault r d m o ≡ Err f → f ≡ flaw NoCell o
  unfolding cell_fault
  cell-fault-is {f} e = by (cell_of r d m o) refl
    where
      by : (x : Result Cell Flaw) → cell_of r d m o ≡ x → f ≡ flaw NoCell o
      by (Ok c) p = let z : ◌≡◌ {A = ℕ} 0 1 = cc in absurd (omega arith)
      by (Err g) p = let q : g ≡ f = cc in sym q ∙ missing d o r m p
