-- A walk over all keys of a hive, in pre-order, by a cursor that the caller lends: "three words for each open key (its offset, the number of the leaf
-- and of the element that comes next)", and how many are open. "Each step does ONE thing": it opens the next child of the last open key, or closes that
-- key. The definition is "total for ANY words in `levels` and any depth". h is the hive, d its bins data, ws the words, n how many keys are open.
use Rattle.std.specs.Prelude.{ℕ, ◌+◌, ◌-◌, ◌*◌, cond, List, [], ◌∷◌, eqb, leb, ltb, length, get_or, Err, None, Ok, Option, Result, Some}
use Rattle.std.proofs.lemmas.List.Edits.{sets}
use Rattle.fields.specs.declared.Fault.TheVariants.{Level, OutputShort}
use Rattle.fields.specs.declared.Offset.{Offset}
use Rattle.fields.specs.Faults.{flaw, unless, nowhere, no_key, refusal_of, ◌next◌, Verdict}
use Rattle.base.specs.Block.{bins_data, base_fault}
use Rattle.cells.specs.Rule.{Header}
use Rattle.cells.specs.Named.{data_at}
use Rattle.records.specs.declared.Child.{Child}
use Rattle.records.specs.declared.Key.{Key}
use Rattle.records.specs.Keys.{key_fault, key_of}
use Rattle.records.specs.Lists.{leaf_fault, head_fault, leaf_children, leaves_of}
use Rattle.records.specs.Terms.{no_child}
use Rattle.tree.specs.Tree.{levels, hive_of}
use Rattle.listing.specs.declared.Entry.{Entry}
use Rattle.listing.specs.Members.{entry_of}
use Rattle.walk.specs.declared.Offer.TheVariants as ahead
use Rattle.walk.specs.declared.Mark.{Mark}
use Rattle.walk.specs.declared.Walked.TheVariants.{Opens, Closes}
use Rattle.fields.specs.declared.Flaw.{Flaw}
use Rattle.fields.specs.declared.Refusal.{Refusal}
use Rattle.walk.specs.declared.Offer.{Offer}
use Rattle.walk.specs.declared.Walked.{Walked}

-- ---- what comes next of a key

-- the words of the n-th open key, from 1 on: its offset, and the leaf and the element that come next
abbrev pub key_at : List ℕ → ℕ → Offset
key_at ws n = record { 0 = get_or ws (3 * (n - 1)) 0 }

abbrev pub mark_at : List ℕ → ℕ → Mark
mark_at ws n = record { leaf = get_or ws (3 * (n - 1) + 1) 0; element = get_or ws (3 * (n - 1) + 2) 0 }

-- behind an element: "next element, or 0 of the next leaf after the last"
unfoldable pub mark_after : Mark → ℕ → Mark
mark_after m count = cond (ltb (m.element + 1) count) (record { leaf = m.leaf; element = m.element + 1 }) (record { leaf = m.leaf + 1; element = 0 })

abbrev pub next_where : Verdict → Result (Option (Offset × Mark)) Flaw → Result (Option (Offset × Mark)) Flaw
next_where (Ok tt) x = x
next_where (Err f) x = Err f

-- of a leaf's elements: "element number not below the leaf's count: Closes k"
unfoldable pub next_of : List Child → Mark → Result (Option (Offset × Mark)) Flaw
next_of cs m = cond (leb (length cs) m.element) (Ok None) (Ok (Some ((get_or cs m.element no_child).at, mark_after m (length cs))))

-- of some leaves: "leaf number not below the number of leaves: Closes k; that leaf: 11, 12"
unfoldable pub next_in : List ℕ → List Offset → Mark → Result (Option (Offset × Mark)) Flaw
next_in d ls m =
    let l = get_or ls m.leaf nowhere in
    cond (leb (length ls) m.leaf) (Ok None) (next_where (leaf_fault Header d [] l) (next_of (leaf_children (data_at d l)) m))

-- of a key: "no subkeys: Closes k; its list's head: 11, 12"
unfoldable pub next_below : List ℕ → Key → Mark → Result (Option (Offset × Mark)) Flaw
next_below d k m = cond (eqb k.subkeys 0) (Ok None) (next_where (head_fault Header d [] k.list) (next_in d (leaves_of d k.list) m))

-- ---- a step

-- `Offer` is what a step would do: it gives an answer and leaves the words, or it opens a child and marks what comes next of its key

-- tests, in the examination of a key, then what follows them
abbrev pub step_where : Offset → Verdict → Result (Option Offer) Refusal → Result (Option Offer) Refusal
step_where k (Ok tt) s = s
step_where k (Err f) s = Err (refusal_of k f)

-- "fewer than 3 x depth words: 20"
unfoldable pub room_fault : List ℕ → ℕ → Verdict
room_fault ws n = unless (leb (3 * n) (length ws)) (flaw OutputShort nowhere)

-- "depth 513 or more: 15 at c (key c); fewer than 3 x (depth + 1) words: 20 (key k); else Opens c"
unfoldable pub entering : List ℕ → ℕ → Offset → Entry → Mark → Result (Option Offer) Refusal
entering ws n k e m = step_where e.at (unless (ltb n levels) (flaw Level e.at)) (step_where k (room_fault ws (n + 1)) (Ok (Some (ahead.Opens e m))))

-- "the child c's 11, 12 (key k)", then these
unfoldable pub opening : List ℕ → List ℕ → ℕ → Offset → Offset → Mark → Result (Option Offer) Refusal
opening d ws n k c m = step_where k (key_fault Header d [] c) (entering ws n k (entry_of c (key_of d c).name) m)

abbrev pub step_on : Offset → Result (Option (Offset × Mark)) Flaw → (Offset → Mark → Result (Option Offer) Refusal) → Result (Option Offer) Refusal
step_on k (Ok (Some (c, m))) go = go c m
step_on k (Ok None) go = Ok (Some (ahead.Closes k))
step_on k (Err f) go = Err (refusal_of k f)

-- "the open key k = words 3(depth - 1): its own 11, 12 (none)", then what comes next of it
unfoldable pub step_at : List ℕ → List ℕ → ℕ → Result (Option Offer) Refusal
step_at d ws n =
    let k = key_at ws n in
    step_where no_key (key_fault Header d [] k) (step_on k (next_below d (key_of d k) (mark_at ws n)) (opening d ws n k))

-- "depth 0: Over; fewer than 3 x depth words: 20 (none [..])"
unfoldable pub step_in : List ℕ → List ℕ → ℕ → Result (Option Offer) Refusal
step_in d ws n = cond (eqb n 0) (Ok None) (step_where no_key (room_fault ws n) (step_at d ws n))

-- "1 to 7 (key none)"
unfoldable pub step_of : List ℕ → List ℕ → ℕ → Result (Option Offer) Refusal
step_of h ws n = step_where no_key (base_fault h) (step_in (bins_data h) ws n)

abbrev pub answer_of : Result (Option Offer) Refusal → Result (Option Walked) Refusal
answer_of (Ok (Some (ahead.Closes k))) = Ok (Some (Closes k))
answer_of (Ok None) = Ok None
answer_of (Err r) = Err r
answer_of (Ok (Some (ahead.Opens e m))) = Ok (Some (Opens e))

-- "with the words of k moved on [..] and c, 0, 0 behind them. Every other answer leaves `levels`."
abbrev pub levels_after : List ℕ → ℕ → Result (Option Offer) Refusal → List ℕ
levels_after ws n (Ok (Some (ahead.Closes k))) = ws
levels_after ws n (Ok None) = ws
levels_after ws n (Err r) = ws
levels_after ws n (Ok (Some (ahead.Opens e m))) = sets (sets ws (3 * (n - 1) + 1) (m.leaf ∷ m.element ∷ [])) (3 * n) (e.at.0 ∷ 0 ∷ 0 ∷ [])

-- step, and the words afterwards
unfoldable pub step_answer : List ℕ → List ℕ → ℕ → Result (Option Walked) Refusal
step_answer h ws n = answer_of (step_of h ws n)

unfoldable pub step_levels : List ℕ → List ℕ → ℕ → List ℕ
step_levels h ws n = levels_after ws n (step_of h ws n)

-- ---- the start

-- "1 to 7; the root's own 11, 12 (none); fewer than 3 words: 20 (key none for all)"
unfoldable pub root_fault : List ℕ → List ℕ → Offset → Verdict
root_fault d ws root = key_fault Header d [] root next room_fault ws 1

unfoldable pub begin_fault : List ℕ → List ℕ → Verdict
begin_fault h ws = base_fault h next root_fault (bins_data h) ws (hive_of h).root

-- "else Opens the root, and the words are root, 0, 0. Other answers leave `levels`."
abbrev pub begun_where : Verdict → Entry → Result (Option Walked) Refusal
begun_where (Ok tt) e = Ok (Some (Opens e))
begun_where (Err f) e = Err (refusal_of no_key f)

abbrev pub begun_levels : List ℕ → Offset → Verdict → List ℕ
begun_levels ws root (Ok tt) = sets ws 0 (root.0 ∷ 0 ∷ 0 ∷ [])
begun_levels ws root (Err f) = ws

-- begin, and the words afterwards
unfoldable pub begin_answer : List ℕ → List ℕ → Result (Option Walked) Refusal
begin_answer h ws = let root = (hive_of h).root in begun_where (begin_fault h ws) (entry_of root (key_of (bins_data h) root).name)

unfoldable pub begin_levels : List ℕ → List ℕ → List ℕ
begin_levels h ws = begun_levels ws (hive_of h).root (begin_fault h ws)
