-- What is allowed, said as the frames come: each value new among those before it, each key above its elder sibling. It is the same as what `Allowed` says.
use Prim.Native.Nat.{ℕ, suc, ◌+◌, ◌^◌, ◌≤◌, ◌<◌}
use native.Mathlib.Omega.{arith}
use mathlib.Core.Path.{◌≡◌, refl, sym, ap, subst, ◌∙◌}
use mathlib.Core.Logic.{⊎_elim}
use mathlib.Core.Bool.{true, false, not}
use mathlib.Core.List.Memᴰ
use mathlib.Core.List.{List, [], ◌∷◌, Memᴰ}
use lib.ListN.{length}
use borrow.Author.Tests.{not-true}
use Rattle.fields.proofs.Bools.{and-inv, and_both}
use Rattle.names.specs.Comparison.{compare, same_name}
use Rattle.names.proofs.LawsOrder.{transitive}
use Rattle.tree.specs.Tree.{is_before}
use Rattle.forest.specs.Forest.{Item, Forest, none, more, count_of, names_of, item_names}
use Rattle.forest.specs.Allowed.{Sorted, sorted_none, sorted_more, Apart, apart_none, apart_more, KeyName, ItemAllowed, KeyAllowed, Allowed, allowed-none, allowed-more}
use Rattle.forest.specs.Faults.{is_above, is_new}
use Rattle.std.specs.declared.cmp.Ordering.{Ordering}
use Rattle.std.specs.declared.cmp.Ordering.TheVariants.{Equal, Greater, Less}

-- ---- the values of a key, behind those whose names were seen

pub data Adding : List (List ℕ) → List Item → Type 0 where
  no_value : {seen : List (List ℕ)} → Adding seen []
  value : {seen : List (List ℕ)} {v : Item} {vs : List Item} → ItemAllowed v → is_new v.name seen ≡ true → Adding (v.name ∷ seen) vs → Adding seen (v ∷ vs)

is-new : (x : List ℕ) (ys : List (List ℕ)) → is_new x ys ≡ true → (y : List ℕ) → Memᴰ y ys → same_name y x ≡ false
unfolding is_new
is-new x [] e y m = absurd (Memᴰ.not-nil m)
is-new x (z ∷ ys) e y m =
    let a = and-inv (not (same_name z x)) (is_new x ys) e in
    ⊎_elim (λ (q : y ≡ z). ap (λ (w : List ℕ). same_name w x) q ∙ not-true (same_name z x) a.0) (is-new x ys a.1 y) (Memᴰ.cases_cons m)

new_is : (x : List ℕ) (ys : List (List ℕ)) → ((y : List ℕ) → Memᴰ y ys → same_name y x ≡ false) → is_new x ys ≡ true
unfolding is_new
new_is x [] f = refl
new_is x (z ∷ ys) f = and_both (ap not (f z (Memᴰ.head refl))) (new_is x ys (λ y m. f y (Memᴰ.tail m)))

adding-later : {seen : List (List ℕ)} {vs : List Item} → Adding seen vs → (y : List ℕ) → Memᴰ y seen → (w : List ℕ) → Memᴰ w (item_names vs)
    → same_name y w ≡ false
unfolding item_names
adding-later no_value y i w j = absurd (Memᴰ.not-nil j)
adding-later (value {seen = seen} {v = v} a e g) y i w j =
    ⊎_elim (λ (q : w ≡ v.name). ap (same_name y) q ∙ is-new v.name seen e y i) (adding-later g y (Memᴰ.tail i) w) (Memᴰ.cases_cons j)

pub adding-apart : {seen : List (List ℕ)} {vs : List Item} → Adding seen vs → Apart (item_names vs)
unfolding item_names
adding-apart no_value = apart_none
adding-apart (value {v = v} a e g) = apart_more (λ w j. adding-later g v.name (Memᴰ.head refl) w j) (adding-apart g)

pub adding-each : {seen : List (List ℕ)} {vs : List Item} → Adding seen vs → (v : Item) → Memᴰ v vs → ItemAllowed v
adding-each no_value v m = absurd (Memᴰ.not-nil m)
adding-each (value a e g) v m = ⊎_elim (λ q. subst ItemAllowed (sym q) a) (adding-each g v) (Memᴰ.cases_cons m)

apart-inv : {x : List ℕ} {xs : List (List ℕ)} → Apart (x ∷ xs) → ((y : List ℕ) → Memᴰ y xs → same_name x y ≡ false) × Apart xs
apart-inv (apart_more f a) = (f, a)

pub apart-adding : (seen : List (List ℕ)) (vs : List Item) → ((v : Item) → Memᴰ v vs → ItemAllowed v) → Apart (item_names vs)
    → ((y : List ℕ) → Memᴰ y seen → (w : List ℕ) → Memᴰ w (item_names vs) → same_name y w ≡ false) → Adding seen vs
unfolding item_names
apart-adding seen [] each a f = no_value
apart-adding seen (v ∷ vs) each a f =
    let g = apart-inv a in
    value (each v (Memᴰ.head refl)) (new_is v.name seen (λ y i. f y i v.name (Memᴰ.head refl)))
    (apart-adding (v.name ∷ seen) vs (λ u m. each u (Memᴰ.tail m)) g.1
    (λ y i w j. ⊎_elim (λ (q : y ≡ v.name). ap (λ (z : List ℕ). same_name z w) q ∙ g.0 w j) (λ h. f y h w (Memᴰ.tail j)) (Memᴰ.cases_cons i)))

-- ---- keys side by side in a forest of so many levels, behind elder siblings, the latest first

pub data Growing : ℕ → List (List ℕ) → Forest → Type 0 where
  no-key : {n : ℕ} {ys : List (List ℕ)} → Growing n ys none
  a_key : {n s : ℕ} {x : List ℕ} {vs : List Item} {b r : Forest} {ys : List (List ℕ)} → s < 2 ^ 64 → KeyName x → is_above x ys ≡ true → length ys < 65535
      → Adding [] vs → Growing n [] b → Growing (suc n) (x ∷ ys) r → Growing (suc n) ys (more s x vs b r)

before_of : (o : Ordering) → is_before o ≡ true → o ≡ Less
before_of Less e = refl
before_of Equal e = absurd (let z : ◌≡◌ {A = ℕ} 0 1 = cc in omega arith)
before_of Greater e = absurd (let z : ◌≡◌ {A = ℕ} 0 1 = cc in omega arith)

growing-above : {n : ℕ} {y : List ℕ} {ys : List (List ℕ)} {f : Forest} → Growing n (y ∷ ys) f → (z : List ℕ) → Memᴰ z (names_of f) → compare y z ≡ Less
unfolding names_of is_above
growing-above no-key z m = absurd (Memᴰ.not-nil m)
growing-above {y = y} (a_key {x = x} s n e c a b g) z m =
    let p = before_of (compare y x) e in
    ⊎_elim (λ (q : z ≡ x). ap (compare y) q ∙ p) (λ j. transitive y x z p (growing-above g z j)) (Memᴰ.cases_cons m)

growing-sorted : {n : ℕ} {ys : List (List ℕ)} {f : Forest} → Growing n ys f → Sorted (names_of f)
unfolding names_of
growing-sorted no-key = sorted_none
growing-sorted (a_key s n e c a b g) = sorted_more (growing-above g) (growing-sorted g)

growing-count : {n : ℕ} {ys : List (List ℕ)} {f : Forest} → Growing n ys f → length ys ≤ 65535 → length ys + count_of f ≤ 65535
unfolding count_of
growing-count no-key p = omega arith
growing-count (a_key s n e c a b g) p = let q = growing-count g (omega arith) in omega arith

pub growing-key : {n s : ℕ} {x : List ℕ} {vs : List Item} {b : Forest} → s < 2 ^ 64 → KeyName x → Adding [] vs → Growing n [] b → KeyAllowed s x vs b
growing-key s n a b =
    let c = growing-count b (omega arith) in
    record { stamp-fits = s; name = n; each = adding-each a; apart = adding-apart a; sorted = growing-sorted b; few = omega arith }

pub growing-allowed : {n : ℕ} {ys : List (List ℕ)} {f : Forest} → Growing n ys f → Allowed n f
growing-allowed no-key = allowed-none
growing-allowed (a_key s n e c a b g) = allowed-more (growing-key s n a b) (growing-allowed b) (growing-allowed g)

sorted-inv : {x : List ℕ} {xs : List (List ℕ)} → Sorted (x ∷ xs) → ((y : List ℕ) → Memᴰ y xs → compare x y ≡ Less) × Sorted xs
sorted-inv (sorted_more f a) = (f, a)

pub key-adding : {s : ℕ} {x : List ℕ} {vs : List Item} {b : Forest} → KeyAllowed s x vs b → Adding [] vs
key-adding {vs = vs} k = apart-adding [] vs k.each k.apart (λ y i w j. absurd (Memᴰ.not-nil i))

pub allowed-growing : {n : ℕ} {f : Forest} → Allowed n f → (ys : List (List ℕ)) → Sorted (names_of f)
    → ((x : List ℕ) → Memᴰ x (names_of f) → is_above x ys ≡ true) → length ys + count_of f ≤ 65535 → Growing n ys f
unfolding names_of count_of is_above
allowed-growing allowed-none ys so ab c = no-key
allowed-growing (allowed-more {x = x} k b r) ys so ab c =
    let u = sorted-inv so in
    let w = k.few in
    a_key {ys = ys} k.stamp-fits k.name (ab x (Memᴰ.head refl)) (omega arith) (key-adding k)
    (allowed-growing b [] k.sorted (λ y m. refl) (omega arith))
    (allowed-growing r (x ∷ ys) u.1 (λ z m. ap is_before (u.0 z m)) (omega arith))
