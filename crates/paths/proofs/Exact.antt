-- "In an accepted hive a path finds its key, and is refused exactly if the tree holds no such key"
use Prim.Native.Nat.{ℕ}
use native.Mathlib.Omega.{arith}
use mathlib.Core.Path.{◌≡◌, refl, sym, ap, ◌∙◌}
use mathlib.Core.Bool.{Bool, true, false}
use mathlib.Core.Logic.{◌↔◌}
use mathlib.Core.List.{List}
use Rattle.fields.specs.declared.Offset.{Offset}
use Rattle.fields.specs.declared.Refusal.{Refusal}
use Rattle.fields.specs.declared.Fault.TheVariants.{PathParts, NoKey}
use Rattle.fields.specs.Faults.{flaw, nowhere, no_key, refusal_of}
use Rattle.fields.proofs.Firsts.{on, sound, holds, fails}
use Rattle.base.specs.Block.{bins_data}
use Rattle.base.proofs.Laws.{facts-base}
use Rattle.tree.specs.Tree.{levels, hive_of}
use Rattle.tree.specs.WellFormed.{CleanAndWellFormed}
use Rattle.search.proofs.Finds.{key-good}
use Rattle.paths.specs.declared.Way.TheVariants.{Found, Missing}
use Rattle.paths.specs.Paths.{parts_of, is_path, path_fault}
use Rattle.paths.specs.Descent.{descend, lookup_key_by}
use Rattle.paths.specs.Answers.{open_fault, key_look_by, key_look, key_found, find_by, find_answer}
use Rattle.paths.specs.Reach.{Holds, Deepest}
use Rattle.paths.proofs.Finds.{found-holds, holds-found, never-faulty, missing-deepest}
use Rattle.paths.proofs.Held.{held-path}
use Rattle.paths.specs.declared.Way.{Way}
use Rattle.std.specs.Prelude.{Err, Ok, Result}

module _ (h : List ℕ) (w : CleanAndWellFormed h) where
  -- in such a hive a path is looked up from the root with no fault before it but 16
  open-sound : (us : List ℕ) → is_path us ≡ true → open_fault h us ≡ Ok tt
  unfolding open_fault path_fault
  open-sound us p = sound _ _ (facts-base h w.is-clean w.inside) (holds (flaw PathParts nowhere) p)

  open-path : (us : List ℕ) → is_path us ≡ false → open_fault h us ≡ Err (flaw PathParts nowhere)
  unfolding open_fault path_fault
  open-path us p = on _ _ (facts-base h w.is-clean w.inside) ∙ fails (flaw PathParts nowhere) p

  look_is : (us : List ℕ) → is_path us ≡ true → key_look h us ≡ descend (bins_data h) (hive_of h).root (parts_of us)
  unfolding key_look_by lookup_key_by
  look_is us p = rw (open-sound us p, key-good (bins_data h) (hive_of h) w.formed.tiled levels (hive_of h).root w.formed.tree)

  -- the three ways out of a lookup along a path
  module _ (us : List ℕ) (p : is_path us ≡ true) where
    found-look : {o : Offset} → descend (bins_data h) (hive_of h).root (parts_of us) ≡ Ok (Found o) → key_look h us ≡ Ok (Found o)
    found-look e = look_is us p ∙ e

    missing-look : {k : Offset} → descend (bins_data h) (hive_of h).root (parts_of us) ≡ Ok (Missing k) → key_look h us ≡ Ok (Missing k)
    missing-look e = look_is us p ∙ e

    -- a key is found under a path exactly when the tree holds it there
    look-exactly : (o : Offset) → (key_look h us ≡ Ok (Found o)) ↔ Holds (bins_data h) (hive_of h).root (parts_of us) o
    look-exactly o = (to, λ r. found-look (holds-found (bins_data h) (hive_of h) w.formed.tiled levels (hive_of h).root (parts_of us) w.formed.tree r))
      where
        to : key_look h us ≡ Ok (Found o) → Holds (bins_data h) (hive_of h).root (parts_of us) o
        to e = by (descend (bins_data h) (hive_of h).root (parts_of us)) refl
          where
            by : (l : Result Way Refusal) → descend (bins_data h) (hive_of h).root (parts_of us) ≡ l → Holds (bins_data h) (hive_of h).root (parts_of us) o
            by (Ok (Found y)) q =
                let s = sym (found-look q) ∙ e in
                let r : y ≡ o = cc in
                found-holds (bins_data h) (hive_of h) w.formed.tiled levels (hive_of h).root (parts_of us) w.formed.tree (q ∙ ap (λ (x : Offset). Ok (Found x)) r)
            by (Ok (Missing k)) q = let s = sym (missing-look q) ∙ e in absurd (let z : ◌≡◌ {A = ℕ} 0 1 = cc in omega arith)
            by (Err f) q = absurd (never-faulty (bins_data h) (hive_of h) w.formed.tiled levels (hive_of h).root (parts_of us) w.formed.tree q)

    -- and where it holds none, the way ends at the deepest key that it holds
    look_none : ((o : Offset) → Holds (bins_data h) (hive_of h).root (parts_of us) o → ⊥)
        → (k : Offset) × (key_look h us ≡ Ok (Missing k)) × Deepest (bins_data h) (hive_of h).root (parts_of us) k
    look_none f = by (descend (bins_data h) (hive_of h).root (parts_of us)) refl
      where
        by : (l : Result Way Refusal) → descend (bins_data h) (hive_of h).root (parts_of us) ≡ l
            → (k : Offset) × (key_look h us ≡ Ok (Missing k)) × Deepest (bins_data h) (hive_of h).root (parts_of us) k
        by (Ok (Found y)) q = absurd (f y ((look-exactly y).0 (found-look q)))
        by (Ok (Missing k)) q =
            (k, missing-look q, missing-deepest (bins_data h) (hive_of h) w.formed.tiled levels (hive_of h).root (parts_of us) w.formed.tree q)
        by (Err g) q = absurd (never-faulty (bins_data h) (hive_of h) w.formed.tiled levels (hive_of h).root (parts_of us) w.formed.tree q)

  -- a malformed path is 16, whatever the tree
  look-malformed : (us : List ℕ) → is_path us ≡ false → key_look h us ≡ Err (refusal_of no_key (flaw PathParts nowhere))
  unfolding key_look_by
  look-malformed us p = rw (open-path us p)

-- The call find_key, said of its own answer.
pub found-look-is : (l : Result Way Refusal) {o : Offset} → key_found l ≡ Ok o → l ≡ Ok (Found o)
found-look-is (Ok (Found y)) e = cc
found-look-is (Ok (Missing k)) e = absurd (let z : ◌≡◌ {A = ℕ} 0 1 = cc in omega arith)
found-look-is (Err f) e = absurd (let z : ◌≡◌ {A = ℕ} 0 1 = cc in omega arith)

module _ (h : List ℕ) (w : CleanAndWellFormed h) (us : List ℕ) where
  -- 16 where the path is malformed
  pub find-malformed : is_path us ≡ false → find_answer h us ≡ Err (refusal_of no_key (flaw PathParts nowhere))
  unfolding find_by
  find-malformed p = ap key_found (look-malformed h w us p)

  found-path : {o : Offset} → find_answer h us ≡ Ok o → is_path us ≡ true
  found-path {o} e = by (is_path us) refl
    where
      by : (t : Bool) → is_path us ≡ t → is_path us ≡ true
      by true p = p
      by false p = absurd (let q = sym (find-malformed p) ∙ e in let z : ◌≡◌ {A = ℕ} 0 1 = cc in omega arith)

  -- a key is found exactly when the tree holds it there, whatever the path
  pub find-exactly : (o : Offset) → (find_answer h us ≡ Ok o) ↔ Holds (bins_data h) (hive_of h).root (parts_of us) o
  unfolding find_by
  find-exactly o = (
    λ e. (look-exactly h w us (found-path e) o).0 (found-look-is (key_look h us) e),
    λ r. ap key_found ((look-exactly h w us (held-path h w us r) o).1 r),
  )

  -- 17 where the tree holds none under a path, with the deepest key that it holds along it
  pub find_none : is_path us ≡ true → ((o : Offset) → Holds (bins_data h) (hive_of h).root (parts_of us) o → ⊥)
      → (k : Offset) × (find_answer h us ≡ Err (refusal_of k (flaw NoKey nowhere))) × Deepest (bins_data h) (hive_of h).root (parts_of us) k
  unfolding find_by
  find_none p f = let x = look_none h w us p f in (x.0, ap key_found x.1, x.2)

  -- refused exactly if the tree holds no such key, whatever the path
  pub find-refuses : ((r : Refusal) × (find_answer h us ≡ Err r)) ↔ ((o : Offset) → Holds (bins_data h) (hive_of h).root (parts_of us) o → ⊥)
  find-refuses = (λ x o r. let q = sym ((find-exactly o).1 r) ∙ x.1 in let z : ◌≡◌ {A = ℕ} 0 1 = cc in omega arith, λ f. by f (is_path us) refl)
    where
      by : ((o : Offset) → Holds (bins_data h) (hive_of h).root (parts_of us) o → ⊥) → (t : Bool) → is_path us ≡ t
          → (r : Refusal) × (find_answer h us ≡ Err r)
      by f true p = let x = find_none p f in (refusal_of x.0 (flaw NoKey nowhere), x.1)
      by f false p = (refusal_of no_key (flaw PathParts nowhere), find-malformed p)
