-- From the root: the walk's counts are the report's, and the check is the survey followed by the walk and then by the security items.
use Rattle.std.proofs.Common.{◌≡◌, ℕ, ◌*◌, ◌/◌, ◌≤◌, false, List, length, sym, refl, ap, ◌∙◌, arith, length-drop, length-take}
use Rattle.fields.specs.declared.Flaw.{Flaw}
use Rattle.fields.specs.declared.Offset.{Offset}
use Rattle.fields.specs.declared.Refusal.{Refusal}
use Rattle.fields.specs.Faults.{no_key, refusal_of}
use Rattle.fields.specs.Charges.{◌after◌}
use Rattle.base.specs.Block.{sector, minor_of, root_of, bins_limit, bins_data}
use Rattle.base.proofs.Laws.{base-facts}
use Rattle.cells.specs.declared.Tally.{Tally}
use Rattle.cells.specs.Survey.{survey_answer, map_left}
use Rattle.cells.proofs.Fronts.{front-facts, front-data, survey-on}
use Rattle.cells.proofs.Cleared.{again, after-length}
use Rattle.cells.proofs.Mapped.{surveyed}
use Rattle.records.specs.declared.Leaf.{Leaf}
use Rattle.records.specs.Listed.{keys_in}
use Rattle.tree.specs.declared.Count.{Count}
use Rattle.tree.specs.declared.Report.{Report}
use Rattle.tree.specs.declared.Arrival.TheVariants.{Start}
use Rattle.tree.specs.Tree.{tree_charge, tallied, key_answer, list_answer, levels, hive_of, root_child, keys_of, values_in, report_of, keys_charge, ring_charge, answer, check_answer}
use Rattle.tree.specs.Terms.{alone, row_children, Ready, keys_answer, KeysChecked}
use Rattle.tree.proofs.Accepted.{root_stands}
use Rattle.tree.proofs.Counted.{counted}
use Rattle.tree.proofs.Charges.{accepted-free, refused-charge}
use Rattle.tree.proofs.Subtrees.{refused-of, counted-free, one_key}
use Rattle.tree.proofs.Rows.{row-start}
use Rattle.std.specs.Prelude.{Err, Ok}

abbrev pub none : Count
none = record { keys = 0; values = 0 }

-- the walk's arguments, as they are read from the base block
root_is : (h m : List ℕ) {minor : ℕ} {root : Offset} {bins : List ℕ} → minor ≡ minor_of (sector h) → root ≡ root_of (sector h) → bins ≡ bins_data h
    → key_answer bins m (record { minor = minor; root = root }) levels (record { at = root; hashed = false; hinted = false; beside = 0 }) Start none
    ≡ key_answer (bins_data h) m (hive_of h) levels (root_child (hive_of h)) Start none
root_is h m p q r = rw (r, p, q)

-- the root as a row of one
abbrev pub root_row : Offset → Leaf
root_row root = record { cell = root; count = 1; width = 0; hashed = false; hinted = false }

pub root-row : (h m : List ℕ) {minor : ℕ} {root : Offset} {bins : List ℕ} → minor ≡ minor_of (sector h) → root ≡ root_of (sector h) → bins ≡ bins_data h
    → list_answer bins m (record { minor = minor; root = root }) levels root Start (row_children bins (root_row root)) none
    ≡ key_answer (bins_data h) m (hive_of h) levels (root_child (hive_of h)) Start none
root-row h m {minor} {root} {bins} p q r =
    rw (row-start bins (root_row root) refl) (one_key bins m (record { minor = minor; root = root }) levels root Start (alone root) none ∙ root_is h m p q r)

module _ (h m : List ℕ) (r : Ready h m) where
  pub bins-small : length (bins_data h) ≤ bins_limit
  bins-small = let b = base-facts h r.base in simp (length-take, length-drop) (omega (arith, b.size.limit))

  pub walk_refused : (t : Tally) {f : Refusal} → key_answer (bins_data h) m (hive_of h) levels (root_child (hive_of h)) Start none ≡ Err f → keys_answer h m t ≡ Err f
  unfolding keys_answer key_answer
  walk_refused t e = rw (refused-of (tree_charge (bins_data h) m (hive_of h) levels (root_child (hive_of h)) Start) _ e)

  pub walk-counted : (t : Tally) {n : Count} → key_answer (bins_data h) m (hive_of h) levels (root_child (hive_of h)) Start none ≡ Ok n
      → keys_answer h m t ≡ Ok (record { bins = t.bins; keys = n.keys; values = n.values; used = t.used; free = t.free })
  unfolding keys_answer key_answer
  walk-counted t {n} e =
      let x = counted-free (tree_charge (bins_data h) m (hive_of h) levels (root_child (hive_of h)) Start) (tallied (bins_data h) none (keys_in (bins_data h) levels (hive_of h).root)) e in
      let s = root_stands (bins_data h) m (hive_of h) r.tiles r.mapped x.0 in
      let c = counted (bins_data h) (hive_of h) r.tiles bins-small levels s in
      let q : ◌≡◌ {A = Count} n (record { keys = length (keys_of h); values = values_in (bins_data h) (keys_of h) }) = sym x.1 ∙ c in
      rw (x.0, q)

module _ (h m : List ℕ) where
  pub check-refused : {f : Flaw} {r : Refusal} → survey_answer h (length m) ≡ Err f → r ≡ refusal_of no_key f → check_answer h m ≡ Err r
  unfolding check_answer
  check-refused e q = rw (e, q)

  pub check-ready : {t : Tally} → survey_answer h (length m) ≡ Ok t → Ready h (map_left h m)
  check-ready {t} e =
      let s = surveyed h m t e in
      record { base = (front-facts h (length m) s.0).0; tiles = s.1.tiles; mapped = s.1.mapped }

  module _ {t : Tally} (e : survey_answer h (length m) ≡ Ok t) where
    -- a fault of the walk goes before one of the security items
    pub check-is : check_answer h m ≡ answer (keys_charge h (map_left h m) after ring_charge h (map_left h m)) (report_of h t)
    unfolding check_answer
    check-is = rw e

    -- the walk refuses
    pub check-stops : {r : Refusal} → keys_answer h (map_left h m) t ≡ Err r → check_answer h m ≡ Err r
    unfolding keys_answer ◌after◌
    check-stops q = rw (check-is, refused-charge (keys_charge h (map_left h m)) (report_of h t) q)

    -- the walk does not, and the security items answer
    module _ {r : Report} (q : keys_answer h (map_left h m) t ≡ Ok r) where
      pub check-on : check_answer h m ≡ answer (ring_charge h (map_left h m)) r
      unfolding keys_answer ◌after◌
      check-on = let x = accepted-free (keys_charge h (map_left h m)) (report_of h t) q in rw (check-is, x.0, x.1)

      pub check-walked : KeysChecked h (map_left h m) r.keys
      unfolding keys_answer
      check-walked =
          let d = bins_data h in
          let s = surveyed h m t e in
          let x = accepted-free (keys_charge h (map_left h m)) (report_of h t) q in
          let on = (survey-on h m d _ s.0 refl refl).1 in
          let room = front-data h m s.0 in
          let le : length d ≤ length d / 64 * 64 = let p = room.whole.pages in omega arith in
          let few : length d / 64 ≤ length m = let p = room.room in omega arith in
          record {
            ready = check-ready e;
            room = record { whole = room.whole; room = rw (on, after-length d _ m le few) room.room };
            complete = rw on (again d _ m le);
            clear = x.0;
            counted = sym (ap (λ (y : Report). y.keys) x.1);
          }
