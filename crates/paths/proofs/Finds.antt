-- In a tree that stands, the way along a path ends at the key that the tree holds under it, and meets no fault.
use Prim.Native.Nat.{ℕ, suc, ◌≤◌}
use native.Mathlib.Omega.{arith}
use mathlib.Core.Path.{◌≡◌, refl, sym, ap, ◌∙◌, subst}
use mathlib.Core.List.{List, [], ◌∷◌, ◌++◌, Memᴰ}
use lib.ListN.{length}
use Rattle.fields.specs.declared.Offset.{Offset}
use Rattle.fields.specs.declared.Refusal.{Refusal}
use Rattle.cells.specs.Tiled.{BinsTile}
use Rattle.names.specs.Comparison.{compare}
use Rattle.records.specs.declared.Child.{Child}
use Rattle.records.specs.Lists.{children}
use Rattle.tree.specs.declared.Hive.{Hive}
use Rattle.tree.specs.Tree.{name_at}
use Rattle.tree.specs.WellFormed.{TreeStands, key}
use Rattle.search.specs.Search.{search_keys}
use Rattle.search.specs.Quick.{below_by}
use Rattle.search.proofs.Finds.{found_in, no-fault, find-there, key-good, search-below}
use Rattle.paths.specs.declared.Way.TheVariants as way
use Rattle.paths.specs.Descent.{on_found, descend_by, descend}
use Rattle.paths.specs.Reach.{Holds, here, below, Deepest}
use Rattle.fields.specs.declared.Flaw.{Flaw}
use Rattle.std.specs.Prelude.{Err, None, Ok, Option, Result, Some}
use Rattle.std.specs.declared.cmp.Ordering.TheVariants.{Equal}

module _ (d : List ℕ) (hive : Hive) (tiles : BinsTile d 0) where
  pub found-holds : (n : ℕ) (o : Offset) (xs : List (List ℕ)) {e : Offset} → TreeStands d hive n o → descend d o xs ≡ Ok (way.Found e) → Holds d o xs e
  unfolding descend_by on_found below_by
  found-holds n o [] {e} t p = let q : o ≡ e = cc in subst (λ (y : Offset). Holds d o [] y) q here
  found-holds Prim.Native.Nat.zero o (x ∷ xs) {e = e} t p = elim t [ ]
  found-holds (suc n) o (x ∷ xs) {e} (key s a ch tree) p =
      by (search_keys d x (children d o)) refl (λ c i q. found-holds n c.at xs (tree c i) q) (rw (search-below d hive tiles hive.minor o s x) at p)
    where
      by : (w : Result (Option Offset) Flaw) → search_keys d x (children d o) ≡ w
          → ((c : Child) → Memᴰ c (children d o) → descend d c.at xs ≡ Ok (way.Found e) → Holds d c.at xs e)
          → on_found o w (λ c. descend d c xs) ≡ Ok (way.Found e) → Holds d o (x ∷ xs) e
      by (Ok (Some y)) q rest p =
          let f = found_in d x (children d o) q in
          below f.1 f.3 (rest f.0 f.1 (ap (λ (z : Offset). descend d z xs) (sym f.2) ∙ p))
      by (Ok None) q rest p = absurd (let z : ◌≡◌ {A = ℕ} 0 1 = cc in omega arith)
      by (Err f) q rest p = absurd (let z : ◌≡◌ {A = ℕ} 0 1 = cc in omega arith)

  pub holds-found : (n : ℕ) (o : Offset) (xs : List (List ℕ)) {e : Offset} → TreeStands d hive n o → Holds d o xs e → descend d o xs ≡ Ok (way.Found e)
  unfolding descend_by on_found below_by
  holds-found n o [] t here = refl
  holds-found Prim.Native.Nat.zero o (x ∷ xs) {e = e} t _ = elim t [ ]
  holds-found (suc n) o (x ∷ xs) (key s a ch tree) (below {c = c} i q r) =
      rw (search-below d hive tiles hive.minor o s x, find-there d x (children d o) a (λ b j. key-good d hive tiles n b.at (tree b j)) c i q)
      (holds-found n c.at xs (tree c i) r)

  pub never-faulty : (n : ℕ) (o : Offset) (xs : List (List ℕ)) {r : Refusal} → TreeStands d hive n o → descend d o xs ≡ Err r → ⊥
  unfolding descend_by on_found below_by
  never-faulty n o [] t p = let z : ◌≡◌ {A = ℕ} 0 1 = cc in omega arith
  never-faulty Prim.Native.Nat.zero o (x ∷ xs) {r = r} t p = elim t [ ]
  never-faulty (suc n) o (x ∷ xs) {r} (key s a ch tree) p =
      by (search_keys d x (children d o)) refl (λ c i q. never-faulty n c.at xs (tree c i) q) (rw (search-below d hive tiles hive.minor o s x) at p)
    where
      by : (w : Result (Option Offset) Flaw) → search_keys d x (children d o) ≡ w
          → ((c : Child) → Memᴰ c (children d o) → descend d c.at xs ≡ Err r → ⊥)
          → on_found o w (λ c. descend d c xs) ≡ Err r → ⊥
      by (Ok (Some y)) q rest p =
          let g = found_in d x (children d o) q in
          rest g.0 g.1 (ap (λ (z : Offset). descend d z xs) (sym g.2) ∙ p)
      by (Ok None) q rest p = let z : ◌≡◌ {A = ℕ} 0 1 = cc in omega arith
      by (Err g) q rest p = no-fault d x (children d o) (λ c i. key-good d hive tiles n c.at (tree c i)) q

  -- where the way ends without a key, it has come to the deepest that the tree holds along it
  pub missing-deepest : (n : ℕ) (o : Offset) (xs : List (List ℕ)) {k : Offset} → TreeStands d hive n o → descend d o xs ≡ Ok (way.Missing k) → Deepest d o xs k
  unfolding descend_by on_found below_by
  missing-deepest n o [] t p = absurd (let z : ◌≡◌ {A = ℕ} 0 1 = cc in omega arith)
  missing-deepest Prim.Native.Nat.zero o (x ∷ xs) {k = k} t p = elim t [ ]
  missing-deepest (suc n) o (x ∷ xs) {k} (key s a ch tree) p =
      by (search_keys d x (children d o)) refl (λ c i q. missing-deepest n c.at xs (tree c i) q) (rw (search-below d hive tiles hive.minor o s x) at p)
    where
      -- a child of the name is the one that the search finds
      there : (c : Child) → Memᴰ c (children d o) → compare (name_at d c.at) x ≡ Equal → search_keys d x (children d o) ≡ Ok (Some c.at)
      there = find-there d x (children d o) a (λ b j. key-good d hive tiles n b.at (tree b j))

      by : (w : Result (Option Offset) Flaw) → search_keys d x (children d o) ≡ w
          → ((c : Child) → Memᴰ c (children d o) → descend d c.at xs ≡ Ok (way.Missing k) → Deepest d c.at xs k)
          → on_found o w (λ c. descend d c xs) ≡ Ok (way.Missing k) → Deepest d o (x ∷ xs) k
      by (Ok (Some y)) q rest p =
          let f = found_in d x (children d o) q in
          let w = rest f.0 f.1 (ap (λ (z : Offset). descend d z xs) (sym f.2) ∙ p) in
          record {
            front = x ∷ w.front;
            rest = w.rest;
            parts = ap (λ (l : List (List ℕ)). x ∷ l) w.parts;
            held = below f.1 f.3 w.held;
            none-deeper = deeper f.0 f.2 w;
          }
        where
          deeper : (c : Child) → y ≡ c.at → (w : Deepest d c.at xs k) → (ys zs : List (List ℕ)) → x ∷ xs ≡ ys ++ zs → (e : Offset) → Holds d o ys e
              → length ys ≤ length (x ∷ w.front)
          deeper c u w [] zs g e r = omega arith
          deeper c u w (v ∷ ys) zs g e (below {c = b} i m r) =
              let z : x ≡ v = cc in
              let t : xs ≡ ys ++ zs = cc in
              let l : Ok (Some b.at) ≡ Ok (Some y) = sym (there b i (subst (λ (j : List ℕ). compare (name_at d b.at) j ≡ Equal) (sym z) m)) ∙ q in
              let j : b.at ≡ y = cc in
              let h = w.none-deeper ys zs t e (subst (λ (f : Offset). Holds d f ys e) (j ∙ u) r) in
              omega arith
      by (Ok None) q rest p =
          let z : o ≡ k = cc in
          record {
            front = [];
            rest = x ∷ xs;
            parts = refl;
            held = subst (λ (y : Offset). Holds d o [] y) z here;
            none-deeper = none;
          }
        where
          none : (ys zs : List (List ℕ)) → x ∷ xs ≡ ys ++ zs → (e : Offset) → Holds d o ys e → length ys ≤ 0
          none [] zs g e r = omega arith
          none (v ∷ ys) zs g e (below {c = b} i m r) =
              let z : x ≡ v = cc in
              let l = sym (there b i (subst (λ (j : List ℕ). compare (name_at d b.at) j ≡ Equal) (sym z) m)) ∙ q in
              absurd (let y : ◌≡◌ {A = ℕ} 0 1 = cc in omega arith)
      by (Err f) q rest p = absurd (let z : ◌≡◌ {A = ℕ} 0 1 = cc in omega arith)
