-- Along the parts of a path, by a loop: what stands before a turn, and a law for each way out. A key that is found has passed its tests.
use Prim.Native.Nat.{ℕ, ◌+◌, ◌-◌, ◌<◌, ◌≤◌}
use native.Mathlib.Omega.{arith}
use mathlib.Core.Path.{◌≡◌, refl, sym, ap, ◌∙◌, subst}
use mathlib.Core.Bool.{true}
use mathlib.Core.List.{List, [], ◌∷◌}
use lib.ListN.{length, take, drop}
use Rattle.fields.specs.declared.Flaw.{Flaw}
use Rattle.fields.specs.declared.Offset.{Offset}
use Rattle.fields.specs.Faults.{refusal_of, Verdict}
use Rattle.fields.proofs.Bools.{and-inv}
use Rattle.fields.proofs.Loops.{drop_all}
use Rattle.cells.specs.Rule.{Header}
use Rattle.records.specs.declared.Key.{Key}
use Rattle.records.specs.Keys.{key_fault, key_of}
use Rattle.search.specs.declared.How.{How}
use Rattle.search.specs.Quick.{below_by}
use Rattle.search.proofs.Quick_found.{by-tested}
use Rattle.paths.specs.declared.Way.TheVariants as way
use Rattle.paths.specs.Paths.{first_part, parts_of, are_parts, is_path}
use Rattle.paths.specs.Descent.{on_found, descend_by, opened, lookup_key_by}
use Rattle.paths.proofs.Parts.{behind, part-first, Next, next-cut, next-end}
use Rattle.fields.specs.declared.Refusal.{Refusal}
use Rattle.paths.specs.declared.Way.{Way}
use Rattle.std.specs.Prelude.{Err, None, Ok, Option, Result, Some}

descend-tested : (how : How) (d : List ℕ) (o : Offset) (xs : List (List ℕ)) {e : Offset} → key_fault Header d [] o ≡ Ok tt → descend_by how d o xs ≡ Ok (way.Found e)
    → key_fault Header d [] e ≡ Ok tt
unfolding descend_by on_found
descend-tested how d o [] t p = subst (λ (y : Offset). key_fault Header d [] y ≡ Ok tt) (cc) t
descend-tested how d o (x ∷ xs) {e} t p = by (below_by how d x (key_of d o)) refl (λ c. descend-tested how d c xs) p
  where
    by : (w : Result (Option Offset) Flaw) → below_by how d x (key_of d o) ≡ w
        → ((c : Offset) → key_fault Header d [] c ≡ Ok tt → descend_by how d c xs ≡ Ok (way.Found e) → key_fault Header d [] e ≡ Ok tt)
        → on_found o w (λ c. descend_by how d c xs) ≡ Ok (way.Found e) → key_fault Header d [] e ≡ Ok tt
    by (Ok (Some c)) q rest p = rest c (by-tested d x how (key_of d o) q) p
    by (Ok None) q rest p = absurd (let z : ◌≡◌ {A = ℕ} 0 1 = cc in omega arith)
    by (Err f) q rest p = absurd (let z : ◌≡◌ {A = ℕ} 0 1 = cc in omega arith)

pub opened-found : (v : Verdict) (w : Result Way Refusal) {o : Offset} → opened v w ≡ Ok (way.Found o) → (v ≡ Ok tt) × (w ≡ Ok (way.Found o))
opened-found (Ok tt) w e = (refl, e)
opened-found (Err f) w e = absurd (let z : ◌≡◌ {A = ℕ} 0 1 = cc in omega arith)

pub lookup-tested : (how : How) (d : List ℕ) (root : Offset) (xs : List (List ℕ)) {e : Offset} → lookup_key_by how d root xs ≡ Ok (way.Found e) → key_fault Header d [] e ≡ Ok tt
unfolding lookup_key_by
lookup-tested how d root xs p = let s = opened-found (key_fault Header d [] root) _ p in descend-tested how d root xs s.0 s.1

-- ---- the loop

-- the parts before `start` led to `key`, and the rest answers for the whole
pub record Descended (how : How) (d : List ℕ) (from : Offset) (us : List ℕ) (key : Offset) (start : ℕ) : Type 0 where
  pub within : start ≤ length us
  pub good : are_parts (parts_of (drop start us)) ≡ true
  pub tested : key_fault Header d [] key ≡ Ok tt
  pub same : descend_by how d from (parts_of us) ≡ descend_by how d key (parts_of (drop start us))

descend-cons : (how : How) (d : List ℕ) (o : Offset) (x : List ℕ) (xs : List (List ℕ))
    → descend_by how d o (x ∷ xs) ≡ on_found o (below_by how d x (key_of d o)) (λ c. descend_by how d c xs)
unfolding descend_by
descend-cons how d o x xs = refl

module _ (how : How) (d : List ℕ) (from : Offset) (us : List ℕ) where
  pub descended-start : is_path us ≡ true → key_fault Header d [] from ≡ Ok tt → Descended how d from us from 0
  unfolding is_path
  descended-start p t = record { within = omega arith; good = (and-inv (are_parts (parts_of us)) _ p).0; tested = t; same = refl }

  module _ (key : Offset) (start : ℕ) (w : Descended how d from us key start) where
    pub descended-end : length us ≤ start → descend_by how d from (parts_of us) ≡ Ok (way.Found key)
    unfolding parts_of descend_by
    descended-end p = w.same ∙ rw (drop_all us start p)

    -- the part from `start` to `end`, searched below the key
    module _ (end : ℕ) (more : start < length us) (ends : end ≡ start + length (first_part (drop start us))) (k : Key) (is : k ≡ key_of d key) (l : Result (Option Offset) Flaw)
        (looked : l ≡ below_by how d (take (end - start) (drop start us)) k) where
      turn : (xs : List (List ℕ)) → parts_of (drop start us) ≡ take (end - start) (drop start us) ∷ xs
          → descend_by how d from (parts_of us) ≡ on_found key l (λ c. descend_by how d c xs)
      turn xs e = w.same ∙ ap (descend_by how d key) e ∙ descend-cons how d key _ xs ∙ rw (← is, ← looked)

      pub descended-missing : l ≡ Ok None → descend_by how d from (parts_of us) ≡ Ok (way.Missing key)
      unfolding on_found
      descended-missing e = turn (behind (drop start us)) (part-first us start end more ends w.good) ∙ rw e

      pub descended-faulty : {f : Flaw} → l ≡ Err f → descend_by how d from (parts_of us) ≡ Err (refusal_of key f)
      unfolding on_found
      descended-faulty e = turn (behind (drop start us)) (part-first us start end more ends w.good) ∙ rw e

      module _ {o : Offset} (found : l ≡ Ok (Some o)) where
        onward : (next : ℕ) → Next us start end more ends w.good next → Descended how d from us o next
        unfolding on_found
        onward next n =
            record {
              within = n.within;
              good = n.rest-good;
              tested = by-tested d (take (end - start) (drop start us)) how k (sym looked ∙ found);
              same = turn (parts_of (drop next us)) n.parts ∙ rw found;
            }

        pub descended-cut : end < length us → Descended how d from us o (end + 1)
        descended-cut p = onward (end + 1) (next-cut us start end more ends w.good (end + 1) p refl)

        pub descended-last : length us ≤ end → Descended how d from us o end
        descended-last p = onward end (next-end us start end more ends w.good end p refl)
