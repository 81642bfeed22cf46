-- What a refusal of the lookup of a key says: the table's rows 1 to 7, 11, 12, 16 and 17, each with its reason, and the key under examination. h is the
-- hive, us the path.
use Rattle.std.specs.Prelude.{ℕ, ◌≡◌, false, None, Ok}
use mathlib.Core.List.{List, ◌∷◌, Memᴰ}
use Rattle.fields.specs.declared.Fault.TheVariants.{PathParts, NoKey}
use Rattle.fields.specs.declared.Flaw.{Flaw}
use Rattle.fields.specs.declared.Offset.{Offset}
use Rattle.fields.specs.Faults.{flaw, nowhere, no_key}
use Rattle.base.specs.Block.{bins_data}
use Rattle.base.specs.Refused.{OfBase}
use Rattle.cells.specs.Rule.{Header}
use Rattle.names.specs.Comparison.{compare}
use Rattle.records.specs.declared.Child.{Child}
use Rattle.records.specs.Keys.{key_of}
use Rattle.records.specs.Lists.{children}
use Rattle.values.specs.Refused.{a_key, Fit, Unfit, Among, Lists}
use Rattle.tree.specs.Tree.{name_at, hive_of}
use Rattle.search.specs.declared.How.{How}
use Rattle.search.specs.declared.How.TheVariants.{InTurn}
use Rattle.search.specs.Quick.{below_by}
use Rattle.paths.specs.Paths.{parts_of, is_path}
use Rattle.paths.specs.Children.{is_step}
use Rattle.std.specs.declared.cmp.Ordering.TheVariants.{Equal}

-- the keys on the way of a path, each with the parts that are still to go
pub data OnWay (h us : List ℕ) : List (List ℕ) → Offset → Type 0 where
  the-root : Fit Header (bins_data h) a_key (hive_of h).root → OnWay h us (parts_of us) (hive_of h).root
  a-child : {x : List ℕ} {xs : List (List ℕ)} {k : Offset} {c : Child} → OnWay h us (x ∷ xs) k → Memᴰ c (children (bins_data h) k)
      → compare (name_at (bins_data h) c.at) x ≡ Equal → Fit Header (bins_data h) a_key c.at → OnWay h us xs c.at

-- find_key and quick_key: the key under examination, and the flaw
pub data OfKeyBy (how : How) (h us : List ℕ) : Offset → Flaw → Type 0 where
  of-base : {f : Flaw} → OfBase h f → OfKeyBy how h us no_key f
  -- 16: "path: empty part, part over 255 units, over 512 parts"
  no-path : is_path us ≡ false → OfKeyBy how h us no_key (flaw PathParts nowhere)
  -- 11 and 12: of the root, with no key yet; of what a key on the way lists, with that key
  of-root : {f : Flaw} → Unfit Header (bins_data h) a_key (hive_of h).root f → OfKeyBy how h us no_key f
  of-lists : {x : List ℕ} {xs : List (List ℕ)} {k : Offset} {f : Flaw} → OnWay h us (x ∷ xs) k → Among Header (bins_data h) (Lists Header (bins_data h) k) f
      → OfKeyBy how h us k f
  -- 17: "no such key", with the key on the way that has none of the next name
  no-key : {x : List ℕ} {xs : List (List ℕ)} {k : Offset} → OnWay h us (x ∷ xs) k → below_by how (bins_data h) x (key_of (bins_data h) k) ≡ Ok None
      → OfKeyBy how h us k (flaw NoKey nowhere)

abbrev pub OfKey : List ℕ → List ℕ → Offset → Flaw → Type 0
OfKey h us = OfKeyBy InTurn h us

-- child_of and quick_child_of of the key at an offset, which is then the key under examination
pub data OfChildBy (how : How) (h : List ℕ) (o : Offset) (x : List ℕ) : Offset → Flaw → Type 0 where
  by-base : {f : Flaw} → OfBase h f → OfChildBy how h o x no_key f
  -- 16: "empty part, part over 255 units", or a backslash: no part of a path has one
  no_step : is_step x ≡ false → OfChildBy how h o x no_key (flaw PathParts nowhere)
  -- 11 and 12: of that key, with no key yet; of what it lists
  by-given : {f : Flaw} → Unfit Header (bins_data h) a_key o f → OfChildBy how h o x no_key f
  by-lists : {f : Flaw} → Fit Header (bins_data h) a_key o → Among Header (bins_data h) (Lists Header (bins_data h) o) f → OfChildBy how h o x o f
  -- 17: "no such key"
  no-child : Fit Header (bins_data h) a_key o → below_by how (bins_data h) x (key_of (bins_data h) o) ≡ Ok None → OfChildBy how h o x o (flaw NoKey nowhere)

abbrev pub OfChild : List ℕ → Offset → List ℕ → Offset → Flaw → Type 0
OfChild h o x = OfChildBy InTurn h o x
