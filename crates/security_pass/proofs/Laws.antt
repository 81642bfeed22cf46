-- Laws of the pass: what is left of the keys answers as the whole does.
use Rattle.std.proofs.Common.{◌≡◌, ℕ, zero, suc, ◌+◌, ◌-◌, ◌%◌, ◌<◌, ◌≤◌, Bool, true, false, cond, not, List, [], ◌∷◌, ◌++◌, length, get_or, drop, set, sym, refl, ap, ◌∙◌, subst, add-one, arith, length-set, drop-cons, le-ltb, lt-ltb}
use Rattle.fields.specs.declared.Offset.{Offset}
use Rattle.fields.specs.Faults.{nowhere}
use Rattle.fields.proofs.Bools.{and-inv}
use Rattle.fields.proofs.Loops.{drop_all}
use Rattle.cells.specs.Map.{is_marked}
use Rattle.cells.specs.Named.{data_at}
use Rattle.records.specs.declared.Child.{Child}
use Rattle.records.specs.Keys.{security_of}
use Rattle.records.specs.Lists.{leaf_children, children_in, children}
use Rattle.records.specs.Listed.{joined, keys_in}
use Rattle.records.specs.Terms.{no_child}
use Rattle.records.proofs.Listed.{joined-append}
use Rattle.chains.specs.Chains.{find_in}
use Rattle.chains.proofs.Laws.{find-most}
use Rattle.security_pass.specs.declared.Pass.{Pass}
use Rattle.security_pass.specs.Counting.{Ready, bump, visited, counted_all, is_off, ends, sought_in}
use Rattle.std.specs.Prelude.{None, Option, Some}

pub bump-none : (cs : List ℕ) {p : ℕ} → p ≡ 0 → bump cs p ≡ cs
unfolding bump
bump-none cs e = rw e

up : (cs : List ℕ) (i : ℕ) → bump cs (suc i) ≡ set cs i ((get_or cs i 0 + 1) % 4294967296)
unfolding bump
up cs i = refl

pub bump_at : (cs : List ℕ) {p : ℕ} → (p ≡ 0 → ⊥) → bump cs p ≡ set cs (p - 1) ((get_or cs (p - 1) 0 + 1) % 4294967296)
bump_at cs {p} f =
    let z : suc (p - 1) ≡ p = omega arith in
    subst (λ (k : ℕ). bump cs k ≡ set cs (p - 1) ((get_or cs (p - 1) 0 + 1) % 4294967296)) z (up cs (p - 1))

pub length-bump : (cs : List ℕ) (p : ℕ) → length (bump cs p) ≡ length cs
unfolding bump
length-bump cs zero = refl
length-bump cs (suc i) = length-set cs i _

-- counts of as many numbers are ready as well
pub ready-still : {table older heads cs ds : List ℕ} {n : ℕ} → Ready table older heads cs n → length ds ≡ length cs → Ready table older heads ds n
ready-still r e = record { chained = r.chained; room = rw e r.room }

module _ (d m : List ℕ) (o : Offset) where
  pub off-past : length d ≤ o.0 → is_off d m o ≡ true
  unfolding is_off
  off-past p = rw (le-ltb o.0 (length d) p)

  pub off-inside : o.0 < length d → is_off d m o ≡ not (is_marked m o.0)
  unfolding is_off
  off-inside p = rw (lt-ltb o.0 (length d) p)

module _ (d m : List ℕ) (w : Pass) where
  pub ends-seek : (k : Offset) {o : Offset} → o ≡ security_of d k → w.seek ≡ true → ends d m w k ≡ is_off d m o
  unfolding ends
  ends-seek k q e = rw (e, q)

  pub ends-count : (k : Offset) → w.seek ≡ false → ends d m w k ≡ false
  unfolding ends
  ends-count k e = rw e

  end-seeks : (k : Offset) → ends d m w k ≡ true → w.seek ≡ true
  unfolding ends
  end-seeks k e = (and-inv w.seek _ e).0

  found-seeks : (ks : List Offset) {f : Offset} → sought_in d m w ks ≡ Some f → w.seek ≡ true
  unfolding sought_in
  found-seeks [] e = absurd (let z : ◌≡◌ {A = ℕ} 0 1 = cc in omega arith)
  found-seeks (k ∷ ks) {f} e = by (λ q. found-seeks ks q) (ends d m w k) refl e
    where
      by : (sought_in d m w ks ≡ Some f → w.seek ≡ true) → (t : Bool) → ends d m w k ≡ t → cond t (Some k) (sought_in d m w ks) ≡ Some f → w.seek ≡ true
      by h true p q = end-seeks k p
      by h false p q = h q

  sought-on : (ks js : List Offset) → sought_in d m w ks ≡ None → sought_in d m w (ks ++ js) ≡ sought_in d m w js
  unfolding sought_in
  sought-on [] js e = refl
  sought-on (k ∷ ks) js e = by (λ q. sought-on ks js q) (ends d m w k) e
    where
      by : (sought_in d m w ks ≡ None → sought_in d m w (ks ++ js) ≡ sought_in d m w js) → (t : Bool)
          → cond t (Some k) (sought_in d m w ks) ≡ None → cond t (Some k) (sought_in d m w (ks ++ js)) ≡ sought_in d m w js
      by h true q = absurd (let z : ◌≡◌ {A = ℕ} 0 1 = cc in omega arith)
      by h false q = h q

  sought-stop : (ks js : List Offset) {f : Offset} → sought_in d m w ks ≡ Some f → sought_in d m w (ks ++ js) ≡ Some f
  unfolding sought_in
  sought-stop [] js e = absurd (let z : ◌≡◌ {A = ℕ} 0 1 = cc in omega arith)
  sought-stop (k ∷ ks) js {f} e = by (λ q. sought-stop ks js q) (ends d m w k) e
    where
      by : (sought_in d m w ks ≡ Some f → sought_in d m w (ks ++ js) ≡ Some f) → (t : Bool) → cond t (Some k) (sought_in d m w ks) ≡ Some f
          → cond t (Some k) (sought_in d m w (ks ++ js)) ≡ Some f
      by h true q = q
      by h false q = h q

module _ (d table : List ℕ) (w : Pass) where
  -- a pass that seeks counts nothing, and one that does not counts the item
  pub visit-seek : (cs : List ℕ) (k : Offset) → w.seek ≡ true → visited d table w cs k ≡ cs
  unfolding visited
  visit-seek cs k e = rw e

  pub visit-count : (cs : List ℕ) (k : Offset) {o : Offset} → o ≡ security_of d k → w.seek ≡ false
      → visited d table w cs k ≡ bump cs (find_in table o.0 w.items)
  unfolding visited
  visit-count cs k q e = rw (e, q)

  pub length-visited : (cs : List ℕ) (k : Offset) → length (visited d table w cs k) ≡ length cs
  length-visited cs k = by w.seek refl
    where
      by : (t : Bool) → w.seek ≡ t → length (visited d table w cs k) ≡ length cs
      by true e = ap length (visit-seek cs k e)
      by false e = ap length (visit-count cs k refl e) ∙ length-bump cs (find_in table (security_of d k).0 w.items)

  seek-still : w.seek ≡ true → (cs : List ℕ) (ks : List Offset) → counted_all d table w cs ks ≡ cs
  unfolding counted_all
  seek-still e cs [] = refl
  seek-still e cs (k ∷ ks) = ap (λ (l : List ℕ). counted_all d table w l ks) (visit-seek cs k e) ∙ seek-still e cs ks

  -- one list of keys after the other
  counted-append : (cs : List ℕ) (ks js : List Offset) → counted_all d table w cs (ks ++ js) ≡ counted_all d table w (counted_all d table w cs ks) js
  unfolding counted_all
  counted-append cs [] js = refl
  counted-append cs (k ∷ ks) js = counted-append (visited d table w cs k) ks js

  module _ (m : List ℕ) where
    -- the keys ks with the counts cs come to what the keys js with the counts ds come to
    pub record OnTo (cs : List ℕ) (ks : List Offset) (ds : List ℕ) (js : List Offset) : Type 0 where
      pub sought : sought_in d m w ks ≡ sought_in d m w js
      pub counts : counted_all d table w cs ks ≡ counted_all d table w ds js

    pub at-start : (cs : List ℕ) (ks : List Offset) → OnTo cs ks cs ks
    at-start cs ks = record { sought = refl; counts = refl }

    -- and where nothing is left, or the pass ends
    pub record Over (cs : List ℕ) (ks : List Offset) (s : Option Offset) (ds : List ℕ) : Type 0 where
      pub sought : s ≡ sought_in d m w ks
      pub counts : ds ≡ counted_all d table w cs ks

    module _ {cs₀ cs : List ℕ} {ks₀ ks : List Offset} (inv : OnTo cs₀ ks₀ cs ks) where
      pub none_left : ks ≡ [] → Over cs₀ ks₀ None cs
      unfolding sought_in counted_all
      none_left e = record { sought = sym (inv.sought ∙ ap (sought_in d m w) e); counts = sym (inv.counts ∙ ap (counted_all d table w cs) e) }

      module _ (part js : List Offset) {s : Option Offset} {ds : List ℕ} (parts : ks ≡ part ++ js) (p : s ≡ sought_in d m w part) (q : ds ≡ counted_all d table w cs part) where
        pub part-on : s ≡ None → OnTo cs₀ ks₀ ds js
        part-on e =
            record {
              sought = inv.sought ∙ ap (sought_in d m w) parts ∙ sought-on d m w part js (sym p ∙ e);
              counts =
                  inv.counts ∙ ap (counted_all d table w cs) parts ∙ counted-append cs part js ∙ ap (λ (l : List ℕ). counted_all d table w l js) (sym q);
            }

        pub part-stop : {f : Offset} → s ≡ Some f → Over cs₀ ks₀ (Some f) ds
        part-stop {f} e =
            let y = found-seeks d m w part (sym p ∙ e) in
            record {
              sought = sym (inv.sought ∙ ap (sought_in d m w) parts ∙ sought-stop d m w part js (sym p ∙ e));
              counts = sym (inv.counts ∙ seek-still y cs ks ∙ sym (q ∙ seek-still y cs part));
            }

    -- a key, then those below it
    module _ (levels : ℕ) (at : Offset) (cs ds : List ℕ) (some : levels ≡ 0 → ⊥) (q : ds ≡ visited d table w cs at) where
      keys_on : keys_in d levels at ≡ at ∷ joined (keys_in d (levels - 1)) (children d at)
      unfolding keys_in
      keys_on = by levels some
        where
          by : (n : ℕ) → (n ≡ 0 → ⊥) → keys_in d n at ≡ at ∷ joined (keys_in d (n - 1)) (children d at)
          by zero f = absurd (f refl)
          by (suc n) f = ap (λ (k : ℕ). at ∷ joined (keys_in d k) (children d at)) (let z : n ≡ suc n - 1 = omega arith in z)

      one : (t : Bool) → ends d m w at ≡ t → (ks : List Offset)
          → (sought_in d m w (at ∷ ks) ≡ cond t (Some at) (sought_in d m w ks)) × (counted_all d table w cs (at ∷ ks) ≡ counted_all d table w ds ks)
      unfolding sought_in counted_all
      one t e ks = (rw e, rw q)

      key-on : ends d m w at ≡ false → OnTo cs (keys_in d levels at) ds (joined (keys_in d (levels - 1)) (children d at))
      key-on e = rw keys_on (let o = one false e (joined (keys_in d (levels - 1)) (children d at)) in record { sought = o.0; counts = o.1 })

      -- the key alone, where it has no children, or with them
      pub key-alone : ends d m w at ≡ false → children d at ≡ [] → Over cs (keys_in d levels at) None ds
      unfolding joined
      key-alone e n = none_left (key-on e) (ap (joined (keys_in d (levels - 1))) n)

      pub key_below : ends d m w at ≡ false → {s : Option Offset} {es : List ℕ} → s ≡ sought_in d m w (joined (keys_in d (levels - 1)) (children d at))
          → es ≡ counted_all d table w ds (joined (keys_in d (levels - 1)) (children d at)) → Over cs (keys_in d levels at) s es
      key_below e p r = record { sought = p ∙ sym (key-on e).sought; counts = r ∙ sym (key-on e).counts }

      pub key-stop : ends d m w at ≡ true → Over cs (keys_in d levels at) (Some at) ds
      key-stop e =
          rw keys_on
          (let o = one true e (joined (keys_in d (levels - 1)) (children d at)) in
          record { sought = sym o.0; counts = sym (o.1 ∙ seek-still (end-seeks d m w at e) ds _) })

-- what is left of a leaf, and of the leaves
pub leaf-parts : (d : List ℕ) (n : ℕ) (cs : List Child) (i : ℕ) {o : Offset} → i < length cs → o ≡ (get_or cs i no_child).at
    → joined (keys_in d n) (drop i cs) ≡ keys_in d n o ++ joined (keys_in d n) (drop (i + 1) cs)
unfolding joined
leaf-parts d n cs i p q = rw (drop-cons cs i no_child p, ← q, add-one i)

pub leaf-over : (d : List ℕ) (n : ℕ) (cs : List Child) (i : ℕ) → length cs ≤ i → joined (keys_in d n) (drop i cs) ≡ []
unfolding joined
leaf-over d n cs i p = rw (drop_all cs i p)

pub list-parts : (d : List ℕ) (n : ℕ) (os : List Offset) (j : ℕ) {o : Offset} → j < length os → o ≡ get_or os j nowhere
    → joined (keys_in d n) (children_in d (drop j os))
    ≡ joined (keys_in d n) (leaf_children (data_at d o)) ++ joined (keys_in d n) (children_in d (drop (j + 1) os))
unfolding children_in
list-parts d n os j {o} p q = rw (drop-cons os j nowhere p, ← q, add-one j) (joined-append (keys_in d n) (leaf_children (data_at d o)) _)

pub list_over : (d : List ℕ) (n : ℕ) (os : List Offset) (j : ℕ) → length os ≤ j → joined (keys_in d n) (children_in d (drop j os)) ≡ []
unfolding joined children_in
list_over d n os j p = rw (drop_all os j p)

-- a key without children
pub no_keys : (d table : List ℕ) (w : Pass) (m : List ℕ) (n : ℕ) (cs : List ℕ) (es : List Child) → es ≡ [] → Over d table w m cs (joined (keys_in d n) es) None cs
unfolding joined
no_keys d table w m n cs es e = none_left d table w m (at-start d table w m cs (joined (keys_in d n) es)) (rw e)

-- what is found is counted, and nothing else
pub ruleset bump_ways = (bump-none, bump_at, find-most)

-- one key: a pass that seeks looks at it, and one that counts counts its item
pub ruleset visit_ways = (visit-seek, visit-count, ends-seek, ends-count)

-- a key, where the pass ends or goes on below it
pub ruleset key_ways = (length-visited, ready-still, key_below, key-stop)
