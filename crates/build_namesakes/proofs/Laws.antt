-- What a caller of the search knows of the values whose frames stand in a row, and concludes of them.
use Prim.Native.Nat.{ℕ, zero, suc, ◌<◌, ◌≤◌}
use native.Mathlib.Omega.{arith}
use mathlib.Core.Path.{◌≡◌, refl, sym, ap, ap₂, subst, ◌∙◌}
use mathlib.Core.Logic.{⊎_elim}
use mathlib.Core.Bool.{Bool, true, false, not, ◌&&◌}
use mathlib.Core.List.Memᴰ
use mathlib.Core.List.{List, [], ◌∷◌, ◌++◌, Memᴰ}
use lib.Dec.{eqb}
use lib.ListN.{length, get_or, take, drop, length-append}
use borrow.Author.Tests.{eqb-true, eqb-false}
use Rattle.names.specs.Comparison.{same_name}
use Rattle.namesake_laws.specs.Repeats.{First}
use Rattle.forest.specs.Forest.{Item, item_names}
use Rattle.forest.specs.Allowed.{Apart, apart_none, apart_more}
use Rattle.forest.specs.Faults.{holds, shape_of, Open, with_value, is_new}
use Rattle.forest.specs.Behind.{add_values}
use Rattle.build_namesakes.specs.Rows.{start_of, called}
use Rattle.build_namesakes.proofs.Rows.{held-named}

-- ---- names by their positions

mem-at : (xs : List (List ℕ)) (y : List ℕ) → Memᴰ y xs → (i : ℕ) × (i < length xs) × (y ≡ get_or xs i [])
mem-at [] y m = absurd (Memᴰ.not-nil m)
mem-at (x ∷ xs) y m =
    ⊎_elim (λ (q : y ≡ x). (0, omega arith, q))
    (λ k. let r = mem-at xs y k in (suc r.0, let z = r.1 in omega arith, r.2)) (Memᴰ.cases_cons m)

pub apart_by : (xs : List (List ℕ)) → ((i j : ℕ) → i < j → j < length xs → same_name (get_or xs i []) (get_or xs j []) ≡ false) → Apart xs
apart_by [] h = apart_none
apart_by (x ∷ xs) h =
    apart_more (λ y m. let r = mem-at xs y m in ap (same_name x) r.2 ∙ h 0 (suc r.0) (omega arith) (let z = r.1 in omega arith))
    (apart_by xs (λ i j p q. h (suc i) (suc j) (omega arith) (omega arith)))

pub names-length : (vs : List Item) → length (item_names vs) ≡ length vs
unfolding item_names
names-length [] = refl
names-length (v ∷ vs) = ap suc (names-length vs)

pub take-length : (n : ℕ) (vs : List Item) → n ≤ length vs → length (item_names (take n vs)) ≡ n
unfolding item_names
take-length zero vs l = refl
take-length (suc n) [] l = absurd (omega arith)
take-length (suc n) (v ∷ vs) l = ap suc (take-length n vs (omega arith))

pub take-name : (n : ℕ) (vs : List Item) (i : ℕ) → i < n → get_or (item_names (take n vs)) i [] ≡ get_or (item_names vs) i []
unfolding item_names
take-name zero vs i l = absurd (omega arith)
take-name (suc n) [] i l = refl
take-name (suc n) (v ∷ vs) zero l = refl
take-name (suc n) (v ∷ vs) (suc i) l = take-name n vs i (omega arith)

last_name : (vs : List Item) (v : Item) → get_or (item_names (vs ++ (v ∷ []))) (length vs) [] ≡ v.name
unfolding item_names
last_name [] v = refl
last_name (w ∷ vs) v = last_name vs v

front-name : (vs : List Item) (v : Item) (i : ℕ) → i < length vs → get_or (item_names (vs ++ (v ∷ []))) i [] ≡ get_or (item_names vs) i []
unfolding item_names
front-name [] v i l = absurd (omega arith)
front-name (w ∷ vs) v zero l = refl
front-name (w ∷ vs) v (suc i) l = front-name vs v i (omega arith)

pub take_all : (vs : List Item) → take (length vs) vs ≡ vs
take_all [] = refl
take_all (v ∷ vs) = ap (λ (l : List Item). v ∷ l) (take_all vs)

-- ---- a name that was seen

module _ (x : List ℕ) where
  seen-still : (vs : List Item) (k : Open) → is_new x k.values ≡ false → is_new x (add_values vs k).values ≡ false
  unfolding add_values is_new
  seen-still [] k e = e
  seen-still (v ∷ vs) k e = seen-still vs (with_value v.name k) (by (not (same_name v.name x)))
    where
      by : (t : Bool) → t && is_new x k.values ≡ false
      by true = e
      by false = refl

  seen_at : (vs : List Item) (k : Open) (i : ℕ) → i < length vs → same_name (get_or (item_names vs) i []) x ≡ true → is_new x (add_values vs k).values ≡ false
  unfolding add_values is_new item_names
  seen_at [] k i l e = absurd (omega arith)
  seen_at (v ∷ vs) k zero l e = seen-still vs (with_value v.name k) (ap (λ (t : Bool). not t && is_new x k.values) e)
  seen_at (v ∷ vs) k (suc i) l e = seen_at vs (with_value v.name k) i (omega arith) e

-- ---- the answer, for values that have the names

module _ (names : ℕ → List ℕ) (vs : List Item) (are : (j : ℕ) → j < length vs → names j ≡ get_or (item_names vs) j []) {r : ℕ} (f : First names (length vs) r) where
  -- "no two values of a key have the same name": those before the answer
  pub first-apart : Apart (item_names (take r vs))
  first-apart = apart_by (item_names (take r vs)) far
    where
      far : (i j : ℕ) → i < j → j < length (item_names (take r vs)) → same_name (get_or (item_names (take r vs)) i []) (get_or (item_names (take r vs)) j []) ≡ false
      far i j p q =
          let w = f.within in
          let n = take-length r vs w in
          ap₂ same_name (take-name r vs i (omega arith) ∙ sym (are i (omega arith))) (take-name r vs j (omega arith) ∙ sym (are j (omega arith))) ∙ f.clear i j p (omega arith)

  -- or all
  pub first-none : length vs ≤ r → Apart (item_names vs)
  first-none l =
      let w = f.within in
      let e : r ≡ length vs = omega arith in
      subst (λ (l : List Item). Apart (item_names l)) (ap (λ (n : ℕ). take n vs) e ∙ take_all vs) first-apart

  -- "value with an earlier namesake in its key": the value at the answer, behind those before it
  pub first-again : r < length vs → (k : Open) → is_new (get_or (item_names vs) r []) (add_values (take r vs) k).values ≡ false
  first-again l k =
      let e = f.found l in
      let b = e.before in
      let n = take-length r vs f.within in
      let m = names-length (take r vs) in
      seen_at (get_or (item_names vs) r []) (take r vs) k e.at (omega arith)
      (ap₂ same_name (take-name r vs e.at b ∙ sym (are e.at (omega arith))) (sym (are r l)) ∙ e.same)

-- ---- frames that were read in a row

-- what is read of value j
pub record ReadAt (s : List ℕ) (p : ℕ) (vs : List Item) (j : ℕ) : Type 0 where
  pub item : Item
  pub says : shape_of (drop p s) ≡ holds item
  pub name : item.name ≡ get_or (item_names vs) j []

-- the frames from a position on are those of the values vs
pub record Listed (s : List ℕ) (at : ℕ) (vs : List Item) : Type 0 where
  pub each : (j : ℕ) → j < length vs → ReadAt s (start_of s at j) vs j

module _ (s : List ℕ) (at : ℕ) where
  pub listed_start : Listed s at []
  listed_start = record { each = λ j l. absurd (let z = l in omega arith) }

  -- one value more
  pub listed-on : {vs : List Item} → Listed s at vs → (v : Item) → shape_of (drop (start_of s at (length vs)) s) ≡ holds v → Listed s at (vs ++ (v ∷ []))
  listed-on {vs} l v e = record { each = λ j q. by j q (eqb j (length vs)) refl }
    where
      by : (j : ℕ) → j < length (vs ++ (v ∷ [])) → (t : Bool) → eqb j (length vs) ≡ t → ReadAt s (start_of s at j) (vs ++ (v ∷ [])) j
      by j q true u =
          let z = eqb-true j (length vs) u in
          record { item = v; says = ap (λ (i : ℕ). shape_of (drop (start_of s at i) s)) z ∙ e; name = sym (ap (λ (i : ℕ). get_or (item_names (vs ++ (v ∷ []))) i []) z ∙ last_name vs v) }
      by j q false u =
          let z = eqb-false j (length vs) u in
          let n = length-append vs (v ∷ []) in
          let r = l.each j (omega arith) in
          record { item = r.item; says = r.says; name = r.name ∙ sym (front-name vs v j (omega arith)) }

module _ {s : List ℕ} {at : ℕ} {vs : List Item} (l : Listed s at vs) where
  pub listed-names : (j : ℕ) → j < length vs → called s at j ≡ get_or (item_names vs) j []
  listed-names j q = let r = l.each j q in (held-named s (start_of s at j) r.says).is ∙ r.name

  -- what it answers
  module _ {r : ℕ} (a : First (called s at) (length vs) r) where
    pub listed-none : length vs ≤ r → Apart (item_names vs)
    listed-none = first-none (called s at) vs listed-names a

    pub listed-again : r < length vs → (k : Open) → is_new (get_or (item_names vs) r []) (add_values (take r vs) k).values ≡ false
    listed-again = first-again (called s at) vs listed-names a
