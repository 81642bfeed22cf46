-- What the tree holds, said without a search: a key under a path. d is the bins data.
use Rattle.std.specs.Prelude.{ℕ, ◌≤◌, ◌≡◌, true, length, Ok}
use mathlib.Core.List.{List, [], ◌∷◌, ◌++◌, Memᴰ}
use Rattle.fields.specs.declared.Offset.{Offset}
use Rattle.base.specs.Block.{bins_data}
use Rattle.names.specs.Codes.{backslash}
use Rattle.names.specs.Comparison.{compare}
use Rattle.records.specs.declared.Child.{Child}
use Rattle.records.specs.Lists.{children}
use Rattle.tree.specs.Tree.{name_at, hive_of}
use Rattle.paths.specs.Paths.{is_path}
use Rattle.paths.specs.Answers.{find_answer}
use Rattle.std.specs.declared.cmp.Ordering.TheVariants.{Equal}

-- the tree holds a key under a path of names, from a key on: each name compared as the paper says
pub data Holds (d : List ℕ) : Offset → List (List ℕ) → Offset → Type 0 where
  here : {o : Offset} → Holds d o [] o
  below : {o e : Offset} {c : Child} {x : List ℕ} {xs : List (List ℕ)} → Memᴰ c (children d o) → compare (name_at d c.at) x ≡ Equal
      → Holds d c.at xs e → Holds d o (x ∷ xs) e

-- the deepest key along a path of names: the tree holds it under the first of them, and none under more
pub record Deepest (d : List ℕ) (o : Offset) (xs : List (List ℕ)) (k : Offset) : Type 0 where
  pub front : List (List ℕ)
  pub rest : List (List ℕ)
  pub parts : xs ≡ front ++ rest
  pub held : Holds d o front k
  pub none-deeper : (ys zs : List (List ℕ)) → xs ≡ ys ++ zs → (e : Offset) → Holds d o ys e → length ys ≤ length front

-- the names along the way from a key down to another, as they are stored
pub data Named (d : List ℕ) : Offset → List (List ℕ) → Offset → Type 0 where
  itself : {o : Offset} → Named d o [] o
  child : {o e : Offset} {c : Child} {xs : List (List ℕ)} → Memᴰ c (children d o) → Named d c.at xs e → Named d o (name_at d c.at ∷ xs) e

-- the names of a path, joined by backslashes: the units that a caller gives
unfoldable pub joined_by : List (List ℕ) → List ℕ
joined_by [] = []
joined_by (x ∷ []) = x
joined_by (x ∷ y ∷ xs) = x ++ (backslash ∷ joined_by (y ∷ xs))

-- found again: by the names along its way, joined by backslashes
pub record FoundAgain (h : List ℕ) (k : Offset) : Type 0 where
  pub names : List (List ℕ)
  pub along : Named (bins_data h) (hive_of h).root names k
  pub is-path : is_path (joined_by names) ≡ true
  pub found : find_answer h (joined_by names) ≡ Ok k
