-- Every key of the pre-order listing is found again by the path of its names: the same cell.
use Prim.Native.Nat.{ℕ, zero, suc, ◌<◌}
use native.Mathlib.Omega.{arith}
use mathlib.Core.Path.{◌≡◌, sym, subst}
use mathlib.Core.Bool.{true}
use mathlib.Core.Logic.{⊎_elim}
use mathlib.Core.List.Memᴰ
use mathlib.Core.List.{List, [], ◌∷◌, Memᴰ}
use lib.ListN.{length}
use Rattle.fields.specs.declared.Offset.{Offset}
use Rattle.base.specs.Block.{bins_data}
use Rattle.cells.specs.Tiled.{BinsTile}
use Rattle.names.proofs.LawsOrder.{same-reflexive}
use Rattle.records.specs.Lists.{children}
use Rattle.tree.specs.declared.Hive.{Hive}
use Rattle.records.specs.Listed.{keys_in}
use Rattle.records.proofs.Listed.{in-joined}
use Rattle.tree.specs.Tree.{name_at, levels, hive_of, keys_of}
use Rattle.tree.specs.WellFormed.{CleanAndWellFormed, TreeStands, key}
use Rattle.search.proofs.Finds.{key-good}
use Rattle.paths.specs.Paths.{is_path}
use Rattle.paths.specs.Answers.{find_answer}
use Rattle.paths.specs.Reach.{Holds, here, below, Named, itself, child, joined_by, FoundAgain}
use Rattle.paths.proofs.Held.{part-name, held-few}
use Rattle.paths.proofs.Splits.{PartNames, no_names, names-on, parts-joined, path-joined}
use Rattle.paths.proofs.Exact.{find-exactly}
use Rattle.std.specs.Prelude.{Ok}

-- a key that is listed has names along its way, fewer than there are levels
pub listed-named : (d : List ℕ) (n : ℕ) (at k : Offset) → Memᴰ k (keys_in d n at) → (xs : List (List ℕ)) × Named d at xs k × (length xs < n)
unfolding keys_in
listed-named d zero at k i = absurd (Memᴰ.not-nil i)
listed-named d (suc n) at k i =
    ⊎_elim (λ e. ([], subst (λ (o : Offset). Named d at [] o) (sym e) itself, omega arith))
    (λ j.
    let x = in-joined (keys_in d n) (children d at) k j in
    let r = listed-named d n x.0.at k x.2 in
    let q = r.2 in
    (name_at d x.0.at ∷ r.0, child x.1 r.1, omega arith))
    (Memᴰ.cases_cons i)

-- the keys below a listed key form a tree
pub listed-tree : (d : List ℕ) (hive : Hive) (n : ℕ) (at : Offset) → TreeStands d hive n at → (k : Offset) → Memᴰ k (keys_in d n at)
    → (m : ℕ) × TreeStands d hive (suc m) k
unfolding keys_in
listed-tree d hive zero at x₂ k i = elim x₂ [ ]
listed-tree d hive (suc n) at (key s a ch tree) k i =
    ⊎_elim (λ e. (n, subst (λ (o : Offset). TreeStands d hive (suc n) o) (sym e) (key s a ch tree)))
    (λ j. let x = in-joined (keys_in d n) (children d at) k j in listed-tree d hive n x.0.at (tree x.0 x.1) k x.2)
    (Memᴰ.cases_cons i)

-- names lead where they are compared
pub named-holds : {d : List ℕ} {o e : Offset} {xs : List (List ℕ)} → Named d o xs e → Holds d o xs e
named-holds itself = here
named-holds {d} (child {c = c} i r) = below i (same-reflexive (name_at d c.at)) (named-holds r)

module _ (d : List ℕ) (hive : Hive) (tiles : BinsTile d 0) where
  part-names : (n : ℕ) {o e : Offset} {xs : List (List ℕ)} → TreeStands d hive n o → Named d o xs e → PartNames xs
  part-names n t itself = no_names
  part-names zero t (child {o = o} {e = e} {c = c} {xs = xs} i r) = elim t [ ]
  part-names (suc n) (key s a ch tree) (child {c = c} i r) =
      names-on (part-name d c.at (key-good d hive tiles n c.at (tree c i))) (part-names n (tree c i) r)

module _ (h : List ℕ) (w : CleanAndWellFormed h) where
  -- the names of a key, joined by backslashes, are a path, and it finds that key
  module _ (k : Offset) (xs : List (List ℕ)) (named : Named (bins_data h) (hive_of h).root xs k) where
    good-names : PartNames xs
    good-names = part-names (bins_data h) (hive_of h) w.formed.tiled levels w.formed.tree named

    named-path : is_path (joined_by xs) ≡ true
    named-path =
        let f = held-few (bins_data h) (hive_of h) w.formed.tiled levels xs w.formed.tree (named-holds named) in
        path-joined xs good-names (omega arith)

    pub named-found : find_answer h (joined_by xs) ≡ Ok k
    named-found =
        (find-exactly h w (joined_by xs) k).1
        (rw (parts-joined xs good-names) (named-holds named))

  -- the theorem
  pub listed_found : (k : Offset) → Memᴰ k (keys_of h) → FoundAgain h k
  listed_found k i =
      let r = listed-named (bins_data h) levels (hive_of h).root k i in
      record { names = r.0; along = r.1; is-path = named-path k r.0 r.1; found = named-found k r.0 r.1 }
