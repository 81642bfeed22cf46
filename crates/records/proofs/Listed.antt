-- The laws of the list of a tree's keys: what is in it, and where it holds none twice. A list with no key twice is no longer than the bins data.
use Prim.Native.Nat.{ℕ, zero, suc, ◌<◌, ◌≤◌}
use native.Mathlib.Omega.{arith}
use mathlib.Core.Path.{◌≡◌, refl, sym, ap, ◌∙◌, subst}
use mathlib.Core.Bool.{Bool, true, false}
use mathlib.Core.Logic.{⊎_elim}
use mathlib.Core.List.Memᴰ
use mathlib.Core.List.{List, [], ◌∷◌, ◌++◌, append_assoc, Memᴰ}
use lib.Dec.{ltb}
use lib.ListN.{length}
use borrow.Author.Tests.{ltb-true, ltb-false, lt-ltb, le-ltb}
use Rattle.fields.specs.declared.Offset.{Offset}
use Rattle.records.specs.declared.Child.{Child}
use Rattle.records.specs.Listed.{joined, Once, nil, cons}

pub same-offset : (a b : Offset) → a.0 ≡ b.0 → a ≡ b
same-offset a b e = ap (λ (n : ℕ). let o : Offset = record { 0 = n } in o) e

pub once-append : (xs ys : List Offset) → Once xs → Once ys → ((k : Offset) → Memᴰ k xs → Memᴰ k ys → ⊥) → Once (xs ++ ys)
once-append [] ys a b not = b
once-append (x ∷ xs) ys (cons f a) b not =
    cons (λ i. ⊎_elim f (λ j. not x (Memᴰ.head refl) j) (Memᴰ.append_cases xs i))
    (once-append xs ys a b (λ k i j. not k (Memᴰ.tail i) j))

pub in-joined : (f : Offset → List Offset) (cs : List Child) (k : Offset) → Memᴰ k (joined f cs)
    → (c : Child) × Memᴰ c cs × Memᴰ k (f c.at)
unfolding joined
in-joined f [] k i = absurd (Memᴰ.not-nil i)
in-joined f (c ∷ cs) k i =
    ⊎_elim (λ j. (c, Memᴰ.head refl, j)) (λ j. let x = in-joined f cs k j in (x.0, Memᴰ.tail x.1, x.2))
    (Memᴰ.append_cases (f c.at) i)

pub joined_in : (f : Offset → List Offset) (cs : List Child) {c : Child} {x : Offset} → Memᴰ c cs → Memᴰ x (f c.at) → Memᴰ x (joined f cs)
unfolding joined
joined_in f [] i j = absurd (Memᴰ.not-nil i)
joined_in f (b ∷ cs) {c} {x} i j =
    ⊎_elim
    (λ (e : c ≡ b). Memᴰ.append_left (joined f cs) (subst (λ (y : Child). Memᴰ x (f y.at)) e j))
    (λ k. Memᴰ.append_right (f b.at) (joined_in f cs k j))
    (Memᴰ.cases_cons i)

pub joined-append : (f : Offset → List Offset) (cs es : List Child) → joined f (cs ++ es) ≡ joined f cs ++ joined f es
unfolding joined
joined-append f [] es = refl
joined-append f (c ∷ cs) es = ap (λ (l : List Offset). f c.at ++ l) (joined-append f cs es) ∙ sym (append_assoc (f c.at) (joined f cs) (joined f es))

-- no two of some children are the same key
pub data Apart : List Child → Type 0 where
  apart-nil : Apart []
  apart_cons : {c : Child} {cs : List Child} → ((e : Child) → Memᴰ e cs → c.at ≡ e.at → ⊥) → Apart cs → Apart (c ∷ cs)

pub once-joined : (f : Offset → List Offset) (cs : List Child) → Apart cs → ((c : Child) → Memᴰ c cs → Once (f c.at))
    → ((c e : Child) (k : Offset) → Memᴰ c cs → Memᴰ e cs → Memᴰ k (f c.at) → Memᴰ k (f e.at) → c.at ≡ e.at)
    → Once (joined f cs)
unfolding joined
once-joined f [] o each apart = nil
once-joined f (c ∷ cs) (apart_cons not o) each apart =
    once-append (f c.at) (joined f cs) (each c (Memᴰ.head refl))
    (once-joined f cs o (λ d i. each d (Memᴰ.tail i)) (λ d e k i j. apart d e k (Memᴰ.tail i) (Memᴰ.tail j)))
    (λ k i j. let x = in-joined f cs k j in not x.0 x.1 (apart c x.0 k (Memᴰ.head refl) (Memᴰ.tail x.1) i x.2))

abbrev plus : Bool → ℕ → ℕ
plus true n = suc n
plus false n = n

-- how many of some keys lie below n
low : ℕ → List Offset → ℕ
low n [] = 0
low n (c ∷ cs) = plus (ltb c.0 n) (low n cs)

low-absent : (n : ℕ) (cs : List Offset) → ((d : Offset) → Memᴰ d cs → d.0 ≡ n → ⊥) → low (suc n) cs ≡ low n cs
unfolding low
low-absent n [] f = refl
low-absent n (c ∷ cs) f = by (low-absent n cs (λ d i. f d (Memᴰ.tail i))) (ltb c.0 n) refl
  where
    by : low (suc n) cs ≡ low n cs → (b : Bool) → ltb c.0 n ≡ b
        → plus (ltb c.0 (suc n)) (low (suc n) cs) ≡ plus (ltb c.0 n) (low n cs)
    by tail true e = let z = ltb-true c.0 n e in rw (e, lt-ltb c.0 (suc n) (omega arith), tail)
    by tail false e =
        let z = ltb-false c.0 n e in
        let y = f c (Memᴰ.head refl) in
        let x : suc n ≤ c.0 = omega arith in
        rw (e, le-ltb c.0 (suc n) x, tail)

low_step : (n : ℕ) (cs : List Offset) → Once cs → low (suc n) cs ≤ suc (low n cs)
unfolding low
low_step n [] o = omega arith
low_step n (c ∷ cs) (cons f o) = by (low_step n cs o) (ltb c.0 n) refl (ltb c.0 (suc n)) refl
  where
    off : (d : Offset) → c.0 ≡ n → Memᴰ d cs → d.0 ≡ n → ⊥
    off d p i q = f (Memᴰ.cast (same-offset c d (p ∙ sym q)) i)

    by : low (suc n) cs ≤ suc (low n cs) → (b : Bool) → ltb c.0 n ≡ b → (a : Bool) → ltb c.0 (suc n) ≡ a
        → plus (ltb c.0 (suc n)) (low (suc n) cs) ≤ suc (plus (ltb c.0 n) (low n cs))
    by t true e true g = rw (e, g) (omega arith)
    by t true e false g = let y = ltb-true c.0 n e in let z = ltb-false c.0 (suc n) g in absurd (omega arith)
    by t false e false g = rw (e, g) (omega arith)
    by t false e true g =
        let y = ltb-false c.0 n e in
        let z = ltb-true c.0 (suc n) g in
        let p : c.0 ≡ n = omega arith in
        let s = low-absent n cs (λ d i q. off d p i q) in
        rw (e, g) (omega arith)

low-zero : (cs : List Offset) → low 0 cs ≤ 0
unfolding low
low-zero [] = omega arith
low-zero (c ∷ cs) = rw (le-ltb c.0 0 (omega arith)) (low-zero cs)

low-most : (n : ℕ) (cs : List Offset) → Once cs → low n cs ≤ n
low-most zero cs o = low-zero cs
low-most (suc n) cs o = let a = low_step n cs o in let b = low-most n cs o in omega arith

low-all : (n : ℕ) (cs : List Offset) → ((d : Offset) → Memᴰ d cs → d.0 < n) → length cs ≡ low n cs
unfolding low
low-all n [] f = refl
low-all n (c ∷ cs) f =
    rw (lt-ltb c.0 n (f c (Memᴰ.head refl))) (ap suc (low-all n cs (λ d i. f d (Memᴰ.tail i))))

-- no more keys than offsets
pub pigeonhole : (n : ℕ) (cs : List Offset) → Once cs → ((d : Offset) → Memᴰ d cs → d.0 < n) → length cs ≤ n
pigeonhole n cs o f = let a = low-all n cs f in let b = low-most n cs o in omega arith
