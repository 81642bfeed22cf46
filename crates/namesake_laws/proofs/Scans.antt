-- What a block keeps while it is gone through, name by name.
use Prim.Native.Nat.{ℕ, ◌+◌, ◌-◌, ◌<◌, ◌≤◌}
use native.Mathlib.Omega.{arith}
use mathlib.Core.Path.{◌≡◌, refl, sym, ap, ◌∙◌}
use mathlib.Core.Bool.{Bool, true, false}
use mathlib.Core.List.{List}
use lib.Dec.{eqb, ltb}
use lib.ListN.{length, get_or, set}
use lib.Seq.{get_or-set_same, get_or-set_other}
use borrow.Author.Tests.{eqb-true, eqb-false, ltb-true, ltb-false}
use Rattle.names.specs.Comparison.{same_name}
use Rattle.names.specs.Hashing.{hash_of}
use Rattle.names.proofs.LawsOrder.{same-name}
use Rattle.names.proofs.LawsHash.{same-hash}
use Rattle.chains.specs.Chains.{Chained}
use Rattle.chains.proofs.Laws.{none_yet}
use Rattle.namesake_laws.specs.Repeats.{twins, Blocked, met_in, later}
use Rattle.namesake_laws.specs.Tables.{Empty, Taken, Telling}
use Rattle.namesake_laws.proofs.Searches.{met_at, one-met}

-- names that are the same have the same hash, so names of different hashes are not the same
other-hash : (xs ys : List ℕ) → (hash_of xs ≡ hash_of ys → ⊥) → same_name xs ys ≡ false
other-hash xs ys n = by (same_name xs ys) refl
  where
    by : (t : Bool) → same_name xs ys ≡ t → same_name xs ys ≡ false
    by true e = absurd (n (same-hash xs ys (same-name xs ys e)))
    by false e = e

-- one number more, or none for want of room
pub take-one : {room : ℕ} {xs : List ℕ} {n x : ℕ} {after : List ℕ} → n < room → after ≡ set xs n x → Taken room xs n x after (n + 1)
take-one l e = record { more = λ h. (refl, e); full = λ h. absurd (let z = h in omega arith) }

pub take_none : {room : ℕ} {xs : List ℕ} {n x : ℕ} → room ≤ n → Taken room xs n x xs n
take_none l = record { more = λ h. absurd (let z = h in omega arith); full = λ h. (refl, refl) }

-- the first n numbers of a list are those that f says
abbrev pub Kept : (ℕ → ℕ) → List ℕ → ℕ → Type 0
Kept f xs n = (i : ℕ) → i < n → get_or xs i 0 ≡ f i

pub kept_on : (f : ℕ → ℕ) (room : ℕ) {xs : List ℕ} {n x : ℕ} {after : List ℕ} {r : ℕ} → Kept f xs n → room ≤ length xs → (n < room → x ≡ f n)
    → Taken room xs n x after r → Kept f after r
kept_on f room {xs} {n} {x} {after} {r} k l e t = by (ltb n room) refl
  where
    one : n < room → (i : ℕ) → i < n + 1 → (u : Bool) → eqb i n ≡ u → get_or (set xs n x) i 0 ≡ f i
    one h i v true u = let z = eqb-true i n u in rw (z, get_or-set_same xs n x 0 (omega arith)) (e h)
    one h i v false u = let z = eqb-false i n u in get_or-set_other xs n i x 0 z ∙ k i (omega arith)

    by : (u : Bool) → ltb n room ≡ u → Kept f after r
    by true u =
        let h = ltb-true n room u in
        let m = t.more h in
        let y = m.0 in
        λ i v. rw m.1 (one h i (omega (arith, y, v)) (eqb i n) refl)
    by false u =
        let m = t.full (ltb-false n room u) in
        let y = m.0 in
        λ i v. rw m.1 (k i (omega (arith, y, v)))

module _ (names : ℕ → List ℕ) (s : ℕ) where
  -- at position j, with n names in the table, from position s on
  pub record Scanning (keys₀ older₀ heads₀ keys older heads : List ℕ) (j n : ℕ) : Type 0 where
    pub taken : s + n ≤ j
    pub all : n < length keys₀ → s + n ≡ j
    pub clear : (i b : ℕ) → s ≤ i → i < s + length keys₀ → i < b → b < j → twins names i b ≡ false
    pub table : Chained keys older heads n
    pub hashes : Kept (λ i. hash_of (names (s + i))) keys n
    pub keys-same : length keys ≡ length keys₀
    pub older-same : length older ≡ length older₀
    pub heads-same : length heads ≡ length heads₀

  module _ (keys₀ older₀ heads₀ : List ℕ) where
    pub scan-start : Empty keys₀ older₀ heads₀ → Scanning keys₀ older₀ heads₀ keys₀ older₀ heads₀ s 0
    scan-start e =
        record {
          taken = omega arith;
          all = λ l. omega arith;
          clear = λ i b p q r t. absurd (let y = p in let z = r in let w = t in omega arith);
          table = none_yet keys₀ older₀ heads₀ e.some e.none;
          hashes = λ i l. absurd (let z = l in omega arith);
          keys-same = refl;
          older-same = refl;
          heads-same = refl;
        }

    module _ (keys older heads : List ℕ) (j n : ℕ) (k : Scanning keys₀ older₀ heads₀ keys older heads j n) where
      pub scan-end : (best : ℕ) → best ≤ j → Blocked names s (length keys₀) best best
      scan-end best l =
          record {
            within = omega arith;
            clear = λ i b p q r t. k.clear i b p q r (omega arith);
            found = λ t. absurd (let z = t in omega arith);
          }

      -- the table tells a name apart by its hash
      pub scan-tells : (cs : List ℕ) {g : ℕ} → g ≡ hash_of cs → Telling (later names s) n keys g cs
      scan-tells cs e i l f = other-hash _ _ (λ q. f (k.hashes i l ∙ q ∙ sym e))

      pub scan-found : (best : ℕ) → j < best → met_in (later names s) n (names j) ≡ true → Blocked names s (length keys₀) best j
      scan-found best l e =
          let r = one-met (later names s) (names j) n e in
          record {
            within = omega arith;
            clear = k.clear;
            found = λ t. record { at = s + r.0; before = let z = r.1 in let y = k.taken in omega arith; same = r.2 };
          }

      module _ (e : met_in (later names s) n (names j) ≡ false) where
        here : (i : ℕ) → s ≤ i → i < s + length keys₀ → i < j → twins names i j ≡ false
        here i p q r = by (ltb n (length keys₀)) refl
          where
            at : i - s < n → twins names i j ≡ false
            at l = let z : s + (i - s) ≡ i = omega arith in rw z at (met_at (later names s) (names j) n e (i - s) l)

            by : (t : Bool) → ltb n (length keys₀) ≡ t → twins names i j ≡ false
            by true u = let w = k.all (ltb-true n (length keys₀) u) in at (omega arith)
            by false u = let w = ltb-false n (length keys₀) u in at (omega arith)

        clear-on : (i b : ℕ) → s ≤ i → i < s + length keys₀ → i < b → b < j + 1 → twins names i b ≡ false
        clear-on i b p q r t = by (eqb b j) refl
          where
            by : (u : Bool) → eqb b j ≡ u → twins names i b ≡ false
            by true v = let z = eqb-true b j v in rw z (here i p q (omega arith))
            by false v = let z = eqb-false b j v in k.clear i b p q r (omega arith)

        -- the table takes one more, or is full
        pub scan-on : {g : ℕ} → g ≡ hash_of (names j) → (keys' older' heads' : List ℕ) {r : ℕ} → Taken (length keys) keys n g keys' r
            → Chained keys' older' heads' r → length keys' ≡ length keys → length older' ≡ length older → length heads' ≡ length heads
            → Scanning keys₀ older₀ heads₀ keys' older' heads' (j + 1) r
        scan-on {g} is keys' older' heads' {r} x t a b c =
            let m = moved (ltb n (length keys)) refl in
            record {
              taken = m.0;
              all = m.1;
              clear = clear-on;
              table = t;
              hashes = kept_on (λ i. hash_of (names (s + i))) (length keys) k.hashes (omega arith) (λ l. is ∙ ap (λ (i : ℕ). hash_of (names i)) (sym (at l))) x;
              keys-same = a ∙ k.keys-same;
              older-same = b ∙ k.older-same;
              heads-same = c ∙ k.heads-same;
            }
          where
            at : n < length keys → s + n ≡ j
            at l = let y = k.keys-same in k.all (omega arith)

            moved : (u : Bool) → ltb n (length keys) ≡ u → (s + r ≤ j + 1) × (r < length keys₀ → s + r ≡ j + 1)
            moved true v =
                let l = ltb-true n (length keys) v in
                let y = (x.more l).0 in
                let z = at l in
                (omega arith, λ w. omega arith)
            moved false v =
                let l = ltb-false n (length keys) v in
                let y = (x.full l).0 in
                let z = k.keys-same in
                let u = k.taken in
                (omega arith, λ w. absurd (let q = w in omega arith))
