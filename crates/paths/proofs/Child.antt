-- In an accepted hive a step from a key of the tree finds the child that the tree holds under the name, by either search.
use Prim.Native.Nat.{ℕ, suc, ◌<◌}
use mathlib.Core.Path.{◌≡◌, refl, sym, ap, ◌∙◌}
use mathlib.Core.Bool.{true}
use mathlib.Core.Logic.{◌↔◌}
use mathlib.Core.List.{List, [], ◌∷◌, Memᴰ}
use lib.ListN.{get_or}
use Rattle.fields.specs.declared.Fault.TheVariants.{NoKey}
use Rattle.fields.specs.declared.Offset.{Offset}
use Rattle.fields.specs.Faults.{flaw, nowhere, refusal_of}
use Rattle.base.specs.Block.{sector, bins_of, bins_data}
use Rattle.base.proofs.Laws.{facts-base}
use Rattle.cells.specs.Rule.{Header}
use Rattle.records.specs.Keys.{key_fault, key_of}
use Rattle.tree.specs.Tree.{levels, hive_of, keys_of}
use Rattle.tree.specs.WellFormed.{CleanAndWellFormed, TreeStands}
use Rattle.search.specs.declared.How.TheVariants.{InTurn}
use Rattle.search.specs.Quick.{below_by}
use Rattle.search.proofs.Finds.{key-good}
use Rattle.paths.specs.declared.Way.TheVariants as way
use Rattle.paths.specs.Descent.{on_found, descend_by, descend, opened, lookup_key_by}
use Rattle.paths.specs.Answers.{ask_fault, key_found}
use Rattle.paths.specs.Reach.{Holds}
use Rattle.paths.specs.Children.{is_step, child_look_by, child_by, child_answer, quick_child}
use Rattle.paths.proofs.Finds.{found-holds, holds-found, never-faulty}
use Rattle.paths.proofs.Exact.{found-look-is}
use Rattle.paths.proofs.Listed.{listed-tree}
use Rattle.paths.proofs.Quick.{part_bytes, quick-descends}
use Rattle.paths.proofs.Steps.{child-is}
use Rattle.fields.specs.declared.Flaw.{Flaw}
use Rattle.fields.specs.declared.Refusal.{Refusal}
use Rattle.paths.specs.declared.Way.{Way}
use Rattle.std.specs.Prelude.{Err, None, Ok, Option, Result, Some}

module _ (h : List ℕ) (w : CleanAndWellFormed h) (o : Offset) (i : Memᴰ o (keys_of h)) where
  tree_of : (m : ℕ) × TreeStands (bins_data h) (hive_of h) (suc m) o
  tree_of = listed-tree (bins_data h) (hive_of h) levels (hive_of h).root w.formed.tree o i

  tested : key_fault Header (bins_data h) [] o ≡ Ok tt
  tested = key-good (bins_data h) (hive_of h) w.formed.tiled (suc tree_of.0) o tree_of.1

  -- for every name, the backslash too: 16 comes from both
  pub quick-child : ((n : ℕ) → get_or h n 0 < 256) → (x : List ℕ) → quick_child h o x ≡ child_answer h o x
  unfolding child_by child_look_by lookup_key_by
  quick-child bytes x =
      let m = suc tree_of.0 in
      ap (λ (y : Result Way Refusal). key_found (opened (ask_fault h (is_step x)) (opened (key_fault Header (bins_data h) [] o) y)))
      (quick-descends (bins_data h) (part_bytes h 4096 (bins_of (sector h)) bytes) (hive_of h) w.formed.tiled m o (x ∷ []) tree_of.1)

  module _ (x : List ℕ) (step : is_step x ≡ true) where
    abbrev below : Result (Option Offset) Flaw
    below = below_by InTurn (bins_data h) x (key_of (bins_data h) o)

    -- the search below the key is the way of one part
    one-part : {l : Result (Option Offset) Flaw} → below ≡ l → descend (bins_data h) o (x ∷ []) ≡ on_found o l (λ (x : Offset). Ok (way.Found x))
    unfolding descend_by
    one-part e = ap (λ (y : Result (Option Offset) Flaw). on_found o y (λ (x : Offset). Ok (way.Found x))) e

    child-way : child_answer h o x ≡ key_found (descend (bins_data h) o (x ∷ []))
    unfolding descend_by
    child-way = child-is InTurn h (facts-base h w.is-clean w.inside) o tested x step

    holds : {c : Offset} → descend (bins_data h) o (x ∷ []) ≡ Ok (way.Found c) → Holds (bins_data h) o (x ∷ []) c
    holds e = found-holds (bins_data h) (hive_of h) w.formed.tiled (suc tree_of.0) o (x ∷ []) tree_of.1 e

    pub child-exactly : (c : Offset) → (child_answer h o x ≡ Ok c) ↔ Holds (bins_data h) o (x ∷ []) c
    child-exactly c = (
      λ e. holds (found-look-is _ (sym child-way ∙ e)),
      λ r. child-way ∙ ap key_found (holds-found (bins_data h) (hive_of h) w.formed.tiled (suc tree_of.0) o (x ∷ []) tree_of.1 r),
    )

    pub child-none : ((c : Offset) → Holds (bins_data h) o (x ∷ []) c → ⊥) → child_answer h o x ≡ Err (refusal_of o (flaw NoKey nowhere))
    unfolding on_found
    child-none f = by below refl
      where
        by : (l : Result (Option Offset) Flaw) → below ≡ l → child_answer h o x ≡ Err (refusal_of o (flaw NoKey nowhere))
        by (Ok (Some c)) q = absurd (f c (holds (one-part q)))
        by (Ok None) q = child-way ∙ ap key_found (one-part q)
        by (Err g) q = absurd (never-faulty (bins_data h) (hive_of h) w.formed.tiled (suc tree_of.0) o (x ∷ []) tree_of.1 (one-part q))
