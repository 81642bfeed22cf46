-- The depth after a step of a walk is a number again: a key opens only where at most 512 are open, and only an open one closes.
use Prim.Native.Nat.{ℕ, ◌+◌, ◌<◌}
use mathlib.Core.Path.{◌≡◌, refl}
use mathlib.Core.Bool.{Bool, true, false, cond}
use mathlib.Core.List.{List, []}
use lib.Dec.{eqb, ltb}
use native.Mathlib.Omega.{arith}
use borrow.Author.Tests.{eqb-false, lt-ltb}
use Rattle.fields.specs.declared.Fault.TheVariants.{Level}
use Rattle.fields.specs.declared.Offset.{Offset}
use Rattle.fields.specs.Faults.{flaw, unless, no_key, Verdict}
use Rattle.base.specs.Block.{bins_data, base_fault}
use Rattle.cells.specs.Rule.{Header}
use Rattle.records.specs.Keys.{key_fault, key_of}
use Rattle.tree.specs.Tree.{levels, hive_of}
use Rattle.listing.specs.declared.Entry.{Entry}
use Rattle.listing.specs.Members.{entry_of}
use Rattle.walk.specs.declared.Offer.TheVariants as ahead
use Rattle.walk.specs.declared.Mark.{Mark}
use Rattle.walk.specs.Answers.{key_at, mark_at, next_below, step_where, step_on, room_fault, entering, opening, step_at, step_in, step_of, answer_of, step_answer, begin_fault, begun_where, begin_answer}
use Rattle.walk.specs.Events.{keeps_count}
use Rattle.fields.specs.declared.Flaw.{Flaw}
use Rattle.fields.specs.declared.Refusal.{Refusal}
use Rattle.std.specs.Prelude.{Err, None, Ok, Option, Result, Some}
use Rattle.walk.specs.declared.Offer.{Offer}

-- tests before a step keep it
where-keeps : (k : Offset) (v : Verdict) (s : Result (Option Offer) Refusal) (n : ℕ) → keeps_count (answer_of s) n ≡ true → keeps_count (answer_of (step_where k v s)) n ≡ true
where-keeps k (Ok tt) s n p = p
where-keeps k (Err f) s n p = refl

enter-keeps : (ws : List ℕ) (n : ℕ) (k : Offset) (e : Entry) (m : Mark) → keeps_count (answer_of (entering ws n k e m)) n ≡ true
unfolding entering
enter-keeps ws n k e m = by (ltb n levels) refl
  where
    by : (b : Bool) → ltb n levels ≡ b
        → keeps_count (answer_of (step_where e.at (unless b (flaw Level e.at)) (step_where k (room_fault ws (n + 1)) (Ok (Some (ahead.Opens e m)))))) n ≡ true
    by true q = where-keeps k (room_fault ws (n + 1)) (Ok (Some (ahead.Opens e m))) n q
    by false q = refl

open-keeps : (d ws : List ℕ) (n : ℕ) (k c : Offset) (m : Mark) → keeps_count (answer_of (opening d ws n k c m)) n ≡ true
unfolding opening
open-keeps d ws n k c m =
    where-keeps k (key_fault Header d [] c) (entering ws n k (entry_of c (key_of d c).name) m) n (enter-keeps ws n k (entry_of c (key_of d c).name) m)

on-keeps : (d ws : List ℕ) (n : ℕ) → 0 < n → (k : Offset) (x : Result (Option (Offset × Mark)) Flaw) → keeps_count (answer_of (step_on k x (opening d ws n k))) n ≡ true
on-keeps d ws n p k (Ok (Some (c, m))) = open-keeps d ws n k c m
on-keeps d ws n p k (Ok None) = lt-ltb 0 n p
on-keeps d ws n p k (Err f) = refl

at-keeps : (d ws : List ℕ) (n : ℕ) → 0 < n → keeps_count (answer_of (step_at d ws n)) n ≡ true
unfolding step_at
at-keeps d ws n p =
    let k = key_at ws n in
    let x = next_below d (key_of d k) (mark_at ws n) in
    where-keeps no_key (key_fault Header d [] k) (step_on k x (opening d ws n k)) n (on-keeps d ws n p k x)

in-keeps : (d ws : List ℕ) (n : ℕ) → keeps_count (answer_of (step_in d ws n)) n ≡ true
unfolding step_in
in-keeps d ws n = by (eqb n 0) refl
  where
    by : (b : Bool) → eqb n 0 ≡ b → keeps_count (answer_of (cond b (Ok None) (step_where no_key (room_fault ws n) (step_at d ws n)))) n ≡ true
    by true q = refl
    by false q =
        let z = eqb-false n 0 q in
        where-keeps no_key (room_fault ws n) (step_at d ws n) n (at-keeps d ws n (omega arith))

pub step_keeps : (h ws : List ℕ) (n : ℕ) → keeps_count (step_answer h ws n) n ≡ true
unfolding step_answer step_of
step_keeps h ws n = where-keeps no_key (base_fault h) (step_in (bins_data h) ws n) n (in-keeps (bins_data h) ws n)

begun-keeps : (v : Verdict) (e : Entry) → keeps_count (begun_where v e) 0 ≡ true
begun-keeps (Ok tt) e = refl
begun-keeps (Err f) e = refl

pub begin-keeps : (h ws : List ℕ) → keeps_count (begin_answer h ws) 0 ≡ true
unfolding begin_answer
begin-keeps h ws = begun-keeps (begin_fault h ws) (entry_of (hive_of h).root (key_of (bins_data h) (hive_of h).root).name)
