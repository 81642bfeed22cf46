-- What a walk gives: each key opened, what is below it, and the key closed. h is the hive, d its bins data, ws the words of the cursor.
use Rattle.std.specs.Prelude.{ℕ, zero, suc, ◌+◌, ◌-◌, Bool, true, List, [], ◌∷◌, ◌++◌, ltb, drop, Err, None, Ok, Option, Result, Some}
use Rattle.fields.specs.declared.Offset.{Offset}
use Rattle.base.specs.Block.{bins_data}
use Rattle.records.specs.declared.Child.{Child}
use Rattle.records.specs.Keys.{key_of}
use Rattle.records.specs.Lists.{children_in, leaves_below, children}
use Rattle.tree.specs.Tree.{levels, hive_of}
use Rattle.listing.specs.Members.{entry_of}
use Rattle.walk.specs.declared.Mark.{Mark}
use Rattle.walk.specs.declared.Walked.TheVariants.{Opens, Closes}
use Rattle.walk.specs.Answers.{key_at, mark_at, step_answer, step_levels, begin_answer, begin_levels}
use Rattle.fields.specs.declared.Refusal.{Refusal}
use Rattle.walk.specs.declared.Walked.{Walked}

-- "Opens k, the children's events joined, Closes k", of a tree of so many levels
unfoldable pub events_over : (Offset → List (Result (Option Walked) Refusal)) → List Child → List (Result (Option Walked) Refusal)
events_over f [] = []
events_over f (c ∷ cs) = f c.at ++ events_over f cs

unfoldable pub events_in : List ℕ → ℕ → Offset → List (Result (Option Walked) Refusal)
events_in d zero at = []
events_in d (suc n) at = Ok (Some (Opens (entry_of at (key_of d at).name))) ∷ (events_over (events_in d n) (children d at) ++ (Ok (Some (Closes at)) ∷ []))

-- "from the root"
abbrev pub events_of : List ℕ → List (Result (Option Walked) Refusal)
events_of h = events_in (bins_data h) levels (hive_of h).root

-- "the keys of its Opens, in order"
unfoldable pub opened : List (Result (Option Walked) Refusal) → List Offset
opened [] = []
opened (Ok (Some (Opens e)) ∷ xs) = e.at ∷ opened xs
opened (Ok (Some (Closes k)) ∷ xs) = opened xs
opened ((Ok None) ∷ xs) = opened xs
opened (Err r ∷ xs) = opened xs

-- "what is left to come is a function of the open levels alone": the children of each open key from its mark on, the last key first, and the key closed
abbrev pub children_left : List ℕ → Offset → Mark → List Child
children_left d k m = drop m.element (children_in d (drop m.leaf (leaves_below d (key_of d k))))

unfoldable pub coming : List ℕ → List ℕ → ℕ → List (Result (Option Walked) Refusal)
coming d ws zero = []
coming d ws (suc n) =
    let k = key_at ws (suc n) in
    events_over (events_in d (levels - suc n)) (children_left d k (mark_at ws (suc n))) ++ (Ok (Some (Closes k)) ∷ coming d ws n)

-- "The depth afterwards is depth + 1, depth - 1, depth, depth."
abbrev pub depth_after : Result (Option Walked) Refusal → ℕ → ℕ
depth_after (Ok (Some (Opens e))) n = n + 1
depth_after (Ok (Some (Closes k))) n = n - 1
depth_after (Ok None) n = n
depth_after (Err r) n = n

-- what an answer keeps, so that the depth afterwards is a number again: a key opens where at most 512 are open, and only an open one closes
abbrev pub keeps_count : Result (Option Walked) Refusal → ℕ → Bool
keeps_count (Ok (Some (Opens e))) n = ltb n levels
keeps_count (Ok (Some (Closes k))) n = ltb 0 n
keeps_count (Ok None) n = true
keeps_count (Err r) n = true

-- the answers of so many steps, and the first so many answers of a walk: begin, then steps
unfoldable pub steps_from : List ℕ → ℕ → List ℕ → ℕ → List (Result (Option Walked) Refusal)
steps_from h zero ws n = []
steps_from h (suc m) ws n = let a = step_answer h ws n in a ∷ steps_from h m (step_levels h ws n) (depth_after a n)

unfoldable pub walk_of : List ℕ → ℕ → List ℕ → List (Result (Option Walked) Refusal)
walk_of h zero ws = []
walk_of h (suc m) ws = let a = begin_answer h ws in a ∷ steps_from h m (begin_levels h ws) (depth_after a 0)
