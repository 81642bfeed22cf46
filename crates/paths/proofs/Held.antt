-- In a tree that stands, the parts under which it holds a key make a path: each is the same name as a key's, of 1 to 255 characters, and there is one
-- for each level below the root, so at most 512. So under a malformed path the tree holds nothing.
use Prim.Native.Nat.{ℕ, suc, ◌<◌}
use native.Mathlib.Omega.{arith}
use mathlib.Core.Path.{◌≡◌, refl}
use mathlib.Core.Bool.{true}
use mathlib.Core.List.{List, [], ◌∷◌}
use lib.ListN.{length}
use borrow.Author.Tests.{le-leb}
use Rattle.fields.specs.declared.Offset.{Offset}
use Rattle.fields.proofs.Bools.{and_both}
use Rattle.base.specs.Block.{bins_data}
use Rattle.cells.specs.Rule.{Header}
use Rattle.cells.specs.Tiled.{BinsTile}
use Rattle.names.specs.Comparison.{compare}
use Rattle.names.proofs.LawsOrder.{same_length}
use Rattle.records.specs.Keys.{key_fault}
use Rattle.records.proofs.LawsKey.{key-facts, name-codes}
use Rattle.tree.specs.declared.Hive.{Hive}
use Rattle.tree.specs.Tree.{name_at, levels, hive_of}
use Rattle.tree.specs.WellFormed.{CleanAndWellFormed, TreeStands, key}
use Rattle.search.proofs.Finds.{key-good}
use Rattle.paths.specs.Paths.{parts_of, is_part, are_parts, is_path}
use Rattle.paths.specs.Reach.{Holds, here, below}
use Rattle.paths.proofs.Splits.{PartName}
use Rattle.std.specs.Prelude.{Ok}
use Rattle.std.specs.declared.cmp.Ordering.TheVariants.{Equal}

-- a key's name may be a part of a path
pub part-name : (d : List ℕ) (o : Offset) → key_fault Header d [] o ≡ Ok tt → PartName (name_at d o)
part-name d o s =
    let f = key-facts Header d [] o s in
    rw (name-codes d o) (record { some = f.some; most = f.few; plain = f.no-backslash })

-- and so may every name that is the same
same-part : (x y : List ℕ) → compare x y ≡ Equal → PartName x → is_part y ≡ true
unfolding is_part
same-part x y e p =
    let l = same_length x y e in
    and_both (le-leb 1 (length y) (omega (arith, p.some))) (le-leb (length y) 255 (omega (arith, p.most)))

module _ (d : List ℕ) (hive : Hive) (tiles : BinsTile d 0) where
  held-parts : (n : ℕ) {o e : Offset} (xs : List (List ℕ)) → TreeStands d hive n o → Holds d o xs e → are_parts xs ≡ true
  unfolding are_parts
  held-parts n [] t here = refl
  held-parts Prim.Native.Nat.zero {o = o} {e = e} (x ∷ xs) t _ = elim t [ ]
  held-parts (suc n) (x ∷ xs) (key s a ch tree) (below {c = c} i q r) =
      and_both (same-part (name_at d c.at) x q (part-name d c.at (key-good d hive tiles n c.at (tree c i)))) (held-parts n xs (tree c i) r)

  -- there are fewer parts than levels
  pub held-few : (n : ℕ) {o e : Offset} (xs : List (List ℕ)) → TreeStands d hive n o → Holds d o xs e → length xs < n
  held-few Prim.Native.Nat.zero {o = o} {e = e} xs t _ = elim t [ ]
  held-few (suc n) [] t here = omega arith
  held-few (suc n) (x ∷ xs) (key s a ch tree) (below {c = c} i q r) = let f = held-few n xs (tree c i) r in omega arith

pub held-path : (h : List ℕ) → CleanAndWellFormed h → (us : List ℕ) {o : Offset} → Holds (bins_data h) (hive_of h).root (parts_of us) o → is_path us ≡ true
unfolding is_path
held-path h w us r =
    let few = held-few (bins_data h) (hive_of h) w.formed.tiled levels (parts_of us) w.formed.tree r in
    and_both (held-parts (bins_data h) (hive_of h) w.formed.tiled levels (parts_of us) w.formed.tree r)
    (le-leb (length (parts_of us)) 512 (omega arith))
