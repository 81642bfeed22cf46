-- On every accepted hive the search by halving answers exactly as the first one, and on any hive a key is found only under its own names.
use Prim.Native.Nat.{ℕ, suc, ◌<◌}
use native.Mathlib.Omega.{arith}
use mathlib.Core.Path.{◌≡◌, refl, sym, ap, ◌∙◌, subst}
use mathlib.Core.Bool.{Bool, true, false}
use mathlib.Core.List.{List, [], ◌∷◌, Memᴰ}
use lib.Dec.{ltb}
use lib.ListN.{get_or, take, drop, length-take, get_or-eq_default}
use lib.Seq.{get_or-take, get_or-drop}
use borrow.Author.Tests.{ltb-true, ltb-false}
use Rattle.fields.specs.declared.Offset.{Offset}
use Rattle.base.specs.Block.{sector, bins_of, bins_data}
use Rattle.cells.specs.Rule.{Header}
use Rattle.cells.specs.Tiled.{BinsTile}
use Rattle.records.specs.declared.Child.{Child}
use Rattle.records.specs.Keys.{key_fault, key_of}
use Rattle.records.specs.Lists.{children}
use Rattle.tree.specs.declared.Hive.{Hive}
use Rattle.tree.specs.Tree.{levels, hive_of}
use Rattle.tree.specs.WellFormed.{TreeStands, key, CleanAndWellFormed}
use Rattle.search.specs.declared.How.{How}
use Rattle.search.specs.declared.How.TheVariants.{InTurn, Halving}
use Rattle.search.specs.Search.{search_below}
use Rattle.search.specs.Quick.{below_by}
use Rattle.search.proofs.Quick.{quick-below}
use Rattle.search.proofs.Quick_found.{by-found}
use Rattle.search.proofs.Refusals.{below-found}
use Rattle.paths.specs.declared.Way.TheVariants as way
use Rattle.paths.specs.Paths.{parts_of}
use Rattle.paths.specs.Descent.{on_found, descend_by, opened, lookup_key_by}
use Rattle.paths.specs.Answers.{open_fault, key_look_by, key_found, find_by, find_answer, quick_answer}
use Rattle.paths.specs.Reach.{Holds, here, below}
use Rattle.paths.proofs.Descents.{opened-found}
use Rattle.paths.proofs.Exact.{found-look-is}
use Rattle.fields.specs.declared.Flaw.{Flaw}
use Rattle.fields.specs.declared.Refusal.{Refusal}
use Rattle.paths.specs.declared.Way.{Way}
use Rattle.std.specs.Prelude.{Err, None, Ok, Option, Result, Some}

-- a part of a list of bytes
pub part_bytes : (s : List ℕ) (k n : ℕ) → ((i : ℕ) → get_or s i 0 < 256) → (i : ℕ) → get_or (take n (drop k s)) i 0 < 256
part_bytes s k n bytes i = by (ltb i n) refl
  where
    by : (t : Bool) → ltb i n ≡ t → get_or (take n (drop k s)) i 0 < 256
    by true e = rw (get_or-take n (drop k s) i 0 (ltb-true i n e), get_or-drop k s i 0) (bytes _)
    by false e =
        let l = length-take n (drop k s) in
        rw (get_or-eq_default (take n (drop k s)) 0 {n = i} (omega (arith, ltb-false i n e))) (omega arith)

-- ---- along a path, in a tree that stands
module _ (d : List ℕ) (bytes : (i : ℕ) → get_or d i 0 < 256) (hive : Hive) (tiles : BinsTile d 0) where
  pub quick-descends : (n : ℕ) (o : Offset) (xs : List (List ℕ)) → TreeStands d hive n o → descend_by Halving d o xs ≡ descend_by InTurn d o xs
  unfolding descend_by below_by on_found
  quick-descends n o [] t = refl
  quick-descends Prim.Native.Nat.zero o (x ∷ xs) t = elim t [ ]
  quick-descends (suc n) o (x ∷ xs) (key s a ch tree) =
      rw (quick-below d bytes hive tiles (suc n) o (key s a ch tree) x)
      (by (search_below d x (key_of d o)) refl (λ c i. quick-descends n c.at xs (tree c i)))
    where
      by : (w : Result (Option Offset) Flaw) → search_below d x (key_of d o) ≡ w
          → ((c : Child) → Memᴰ c (children d o) → descend_by Halving d c.at xs ≡ descend_by InTurn d c.at xs)
          → on_found o w (λ c. descend_by Halving d c xs) ≡ on_found o w (λ c. descend_by InTurn d c xs)
      by (Ok (Some y)) q rest =
          let f = below-found d x o q in
          subst (λ (z : Offset). descend_by Halving d z xs ≡ descend_by InTurn d z xs) (sym f.2) (rest f.0 f.1)
      by (Ok None) q rest = refl
      by (Err f) q rest = refl

-- ---- in an accepted hive
module _ (h : List ℕ) (bytes : (i : ℕ) → get_or h i 0 < 256) (w : CleanAndWellFormed h) (us : List ℕ) where
  pub quick-look : key_look_by Halving h us ≡ key_look_by InTurn h us
  unfolding key_look_by lookup_key_by
  quick-look =
      ap (λ (y : Result Way Refusal). opened (open_fault h us) (opened (key_fault Header (bins_data h) [] (hive_of h).root) y))
      (quick-descends (bins_data h) (part_bytes h 4096 (bins_of (sector h)) bytes) (hive_of h) w.formed.tiled levels (hive_of h).root (parts_of us) w.formed.tree)

  -- quick_key answers as find_key
  pub quick-same : quick_answer h us ≡ find_answer h us
  unfolding find_by
  quick-same = ap key_found quick-look

-- ---- in any hive

-- "It never answers with a key of another name"
descend-called : (how : How) (d : List ℕ) (o : Offset) (xs : List (List ℕ)) {e : Offset} → descend_by how d o xs ≡ Ok (way.Found e) → Holds d o xs e
unfolding descend_by on_found
descend-called how d o [] {e} p = let q : o ≡ e = cc in subst (λ (y : Offset). Holds d o [] y) q here
descend-called how d o (x ∷ xs) {e} p = by (below_by how d x (key_of d o)) refl (λ c. descend-called how d c xs) p
  where
    by : (w : Result (Option Offset) Flaw) → below_by how d x (key_of d o) ≡ w → ((c : Offset) → descend_by how d c xs ≡ Ok (way.Found e) → Holds d c xs e)
        → on_found o w (λ c. descend_by how d c xs) ≡ Ok (way.Found e) → Holds d o (x ∷ xs) e
    by (Ok (Some y)) q rest p =
        let f = by-found d x how o q in
        below f.1 f.3 (rest f.0.at (ap (λ (z : Offset). descend_by how d z xs) (sym f.2) ∙ p))
    by (Ok None) q rest p = absurd (let z : ◌≡◌ {A = ℕ} 0 1 = cc in omega arith)
    by (Err f) q rest p = absurd (let z : ◌≡◌ {A = ℕ} 0 1 = cc in omega arith)

module _ (how : How) (h us : List ℕ) where
  look-called : {o : Offset} → key_look_by how h us ≡ Ok (way.Found o) → Holds (bins_data h) (hive_of h).root (parts_of us) o
  unfolding key_look_by lookup_key_by
  look-called e =
      let a = opened-found (open_fault h us) _ e in
      let b = opened-found (key_fault Header (bins_data h) [] (hive_of h).root) _ a.1 in
      descend-called how (bins_data h) (hive_of h).root (parts_of us) b.1

  pub find-called : {o : Offset} → find_by how h us ≡ Ok o → Holds (bins_data h) (hive_of h).root (parts_of us) o
  unfolding find_by
  find-called e = look-called (found-look-is (key_look_by how h us) e)

pub quick-called : (h us : List ℕ) {o : Offset} → quick_answer h us ≡ Ok o → Holds (bins_data h) (hive_of h).root (parts_of us) o
quick-called h us e = find-called Halving h us e
