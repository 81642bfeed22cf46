-- A step that would open a child: the words have room for it, and its record was tested.
use Prim.Native.Nat.{ℕ, ◌+◌, ◌*◌, ◌≤◌, ◌<◌}
use native.Mathlib.Omega.{arith}
use mathlib.Core.Path.{◌≡◌, refl, sym, ap, subst}
use mathlib.Core.Bool.{Bool, true, false, cond}
use mathlib.Core.List.{List, []}
use lib.Dec.{eqb, leb, ltb}
use lib.ListN.{length}
use borrow.Author.Tests.{eqb-false, leb-true}
use Rattle.fields.specs.declared.Flaw.{Flaw}
use Rattle.fields.specs.declared.Offset.{Offset}
use Rattle.fields.specs.declared.Fault.TheVariants.{Level, OutputShort}
use Rattle.fields.specs.Faults.{flaw, unless, nowhere, no_key, Verdict}
use Rattle.tree.specs.Tree.{levels}
use Rattle.cells.specs.Rule.{Header}
use Rattle.records.specs.Keys.{key_fault, key_of}
use Rattle.listing.specs.declared.Entry.{Entry}
use Rattle.listing.specs.Members.{entry_of}
use Rattle.walk.specs.declared.Offer.TheVariants as ahead
use Rattle.walk.specs.declared.Mark.{Mark}
use Rattle.walk.specs.Answers.{key_at, mark_at, next_below, step_where, step_on, room_fault, entering, opening, step_at, step_in}
use Rattle.fields.specs.declared.Refusal.{Refusal}
use Rattle.std.specs.Prelude.{Err, None, Ok, Option, Result, Some}
use Rattle.walk.specs.declared.Offer.{Offer}

where-moves : (k : Offset) (v : Verdict) (s : Result (Option Offer) Refusal) {e : Entry} {m : Mark} → step_where k v s ≡ Ok (Some (ahead.Opens e m)) → (v ≡ Ok tt) × (s ≡ Ok (Some (ahead.Opens e m)))
where-moves k (Ok tt) s q = (refl, q)
where-moves k (Err f) s q = absurd (let z : ◌≡◌ {A = ℕ} 0 1 = cc in omega arith)

on-moves : (k : Offset) (x : Result (Option (Offset × Mark)) Flaw) (go : Offset → Mark → Result (Option Offer) Refusal) {e : Entry} {m : Mark} → step_on k x go ≡ Ok (Some (ahead.Opens e m))
    → (c : Offset) × (m' : Mark) × (go c m' ≡ Ok (Some (ahead.Opens e m)))
on-moves k (Ok (Some (c, m))) go q = (c, m, q)
on-moves k (Ok None) go q = absurd (let z : ◌≡◌ {A = ℕ} 0 1 = cc in omega arith)
on-moves k (Err f) go q = absurd (let z : ◌≡◌ {A = ℕ} 0 1 = cc in omega arith)

passed : (t : Bool) (f : Flaw) → unless t f ≡ Ok tt → t ≡ true
passed true f q = refl
passed false f q = absurd (let z : ◌≡◌ {A = ℕ} 0 1 = cc in omega arith)

pub record Below (d ws : List ℕ) (n : ℕ) (e : Entry) : Type 0 where
  pub some : 0 < n
  pub room : 3 * (n + 1) ≤ length ws
  pub sound : key_fault Header d [] e.at ≡ Ok tt
  pub named : e ≡ entry_of e.at (key_of d e.at).name

module _ (d ws : List ℕ) (n : ℕ) where
  enters : (k c : Offset) (m' : Mark) {e : Entry} {m : Mark} → opening d ws n k c m' ≡ Ok (Some (ahead.Opens e m)) → 0 < n → Below d ws n e
  unfolding opening entering room_fault entry_of
  enters k c m' {e} {m} q p =
      let x₀ = entry_of c (key_of d c).name in
      let a = where-moves k (key_fault Header d [] c) (entering ws n k x₀ m') q in
      let b = where-moves c (unless (ltb n levels) (flaw Level c)) (step_where k (room_fault ws (n + 1)) (Ok (Some (ahead.Opens x₀ m')))) a.1 in
      let g = where-moves k (room_fault ws (n + 1)) (Ok (Some (ahead.Opens x₀ m'))) b.1 in
      let x : entry_of c (key_of d c).name ≡ e = cc g.1 in
      let y : c ≡ e.at = ap (λ (i : Entry). i.at) x in
      record {
        some = p;
        room = leb-true (3 * (n + 1)) (length ws) (passed (leb (3 * (n + 1)) (length ws)) (flaw OutputShort nowhere) g.0);
        sound = subst (λ (o : Offset). key_fault Header d [] o ≡ Ok tt) y a.0;
        named = subst (λ (o : Offset). e ≡ entry_of o (key_of d o).name) y (sym x);
      }

  pub moves-below : {e : Entry} {m : Mark} → step_in d ws n ≡ Ok (Some (ahead.Opens e m)) → Below d ws n e
  unfolding step_in step_at
  moves-below {e} {m} q = by (eqb n 0) refl q
    where
      by : (t : Bool) → eqb n 0 ≡ t → cond t (Ok None) (step_where no_key (room_fault ws n) (step_at d ws n)) ≡ Ok (Some (ahead.Opens e m)) → Below d ws n e
      by true f r = absurd (let z : ◌≡◌ {A = ℕ} 0 1 = cc in omega arith)
      by false f r =
          let z = eqb-false n 0 f in
          let a = where-moves no_key (room_fault ws n) (step_at d ws n) r in
          let b = where-moves no_key (key_fault Header d [] (key_at ws n)) (step_on (key_at ws n) (next_below d (key_of d (key_at ws n)) (mark_at ws n)) (opening d ws n (key_at ws n))) a.1 in
          let c = on-moves (key_at ws n) (next_below d (key_of d (key_at ws n)) (mark_at ws n)) (opening d ws n (key_at ws n)) b.1 in
          enters (key_at ws n) c.0 c.1 c.2 (omega arith)

-- for the tactics
pub ruleset move_ways = (moves-below)
