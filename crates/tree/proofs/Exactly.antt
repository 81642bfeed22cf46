-- "Given a large enough work map, a hive is accepted exactly when it is clean and well formed by the published regf description as document 01
-- condenses it". And what the report counts.
use Rattle.std.proofs.Common.{◌≡◌, ℕ, ◌+◌, ◌*◌, ◌/◌, ◌≤◌, ◌↔◌, List, length, sym, refl, ◌∙◌, arith, length-drop, length-take}
use Rattle.fields.specs.Charges.{Free, ◌after◌}
use Rattle.fields.proofs.Charges.{both-free, free}
use Rattle.base.specs.Block.{sector, bins_of, bins_data}
use Rattle.base.proofs.Laws.{base-facts, facts-base}
use Rattle.cells.specs.declared.Tally.{Tally}
use Rattle.cells.specs.Tiling.{layout, survey_of}
use Rattle.cells.specs.Survey.{survey_answer, map_left}
use Rattle.cells.specs.Tiled.{BinsTile}
use Rattle.cells.specs.Counts.{bin_count, cells_in, used_bytes, free_bytes}
use Rattle.cells.proofs.Fronts.{front-facts, front-good, survey-on}
use Rattle.cells.proofs.Tiles.{tiled-exactly, counts-are}
use Rattle.cells.proofs.Mapped.{surveyed}
use Rattle.security.proofs.Exactly.{security-exactly}
use Rattle.tree.specs.declared.Report.{Report}
use Rattle.tree.specs.Tree.{hive_of, keys_of, values_in, report_of, keys_charge, ring_charge, check_answer}
use Rattle.tree.specs.WellFormed.{CleanAndWellFormed}
use Rattle.tree.proofs.Accepted.{root_stands, root-free}
use Rattle.tree.proofs.Charges.{accepted-free}
use Rattle.tree.proofs.Roots.{check-is}
use Rattle.fields.specs.declared.Flaw.{Flaw}
use Rattle.std.specs.Prelude.{Err, Ok, Result}

-- what an accepted hive is
pub record AcceptedAs (h m : List ℕ) (r : Report) : Type 0 where
  pub tally : Tally
  pub surveys : survey_answer h (length m) ≡ Ok tally
  pub free : keys_charge h (map_left h m) ≡ Free
  pub secure : ring_charge h (map_left h m) ≡ Free
  pub report : r ≡ report_of h tally

module _ (h m : List ℕ) where
  pub accepted-as : {r : Report} → check_answer h m ≡ Ok r → AcceptedAs h m r
  unfolding check_answer
  accepted-as {r} e = by (survey_answer h (length m)) refl
    where
      by : (s : Result Tally Flaw) → survey_answer h (length m) ≡ s → AcceptedAs h m r
      by (Err f) p = absurd (let q = rw p at e in let z : ◌≡◌ {A = ℕ} 0 1 = cc in omega arith)
      by (Ok t) p =
          let x = accepted-free (keys_charge h (map_left h m) after ring_charge h (map_left h m)) (report_of h t) (sym (check-is h m p) ∙ e) in
          let c = both-free (keys_charge h (map_left h m)) _ x.0 in
          record { tally = t; surveys = p; free = c.0; secure = c.1; report = sym x.1 }

  accepted-formed : {r : Report} → check_answer h m ≡ Ok r → CleanAndWellFormed h
  accepted-formed e =
      let a = accepted-as e in
      let s = surveyed h m a.tally a.surveys in
      let b = base-facts h (front-facts h (length m) s.0).0 in
      let x = s.1 in
      record {
        is-clean = b.is-clean;
        inside = b.inside;
        formed = record {
          tiled = x.tiles;
          tree = root_stands (bins_data h) (map_left h m) (hive_of h) x.tiles x.mapped a.free;
          security = (security-exactly (bins_data h) (map_left h m) x.tiles x.mapped (keys_of h) (hive_of h).root).0 a.secure;
        };
      }

  bins-length : 4096 + bins_of (sector h) ≤ length h → length (bins_data h) ≡ bins_of (sector h)
  bins-length p = simp (length-take, length-drop) (omega arith)

  formed-accepted : CleanAndWellFormed h → bins_of (sector h) / 64 ≤ length m → (r : Report) × (check_answer h m ≡ Ok r)
  formed-accepted w room =
      let base = facts-base h w.is-clean w.inside in
      let b = base-facts h base in
      let n = bins-length w.inside in
      let t = (tiled-exactly (bins_data h) (omega (arith, b.size.pages))).1 w.formed.tiled in
      let s = survey-on h m (bins_data h) (survey_of (layout (bins_data h) 0) 0 0 0) (front-good h (length m) base room) refl refl in
      let q : survey_answer h (length m) ≡ Ok t.0 = s.0 ∙ t.1 in
      let x = (surveyed h m t.0 q).1 in
      let f = root-free (bins_data h) (map_left h m) (hive_of h) x.tiles x.mapped w.formed.tree in
      let g = (security-exactly (bins_data h) (map_left h m) x.tiles x.mapped (keys_of h) (hive_of h).root).1 w.formed.security in
      (report_of h t.0, rw (check-is h m q, free _ _ f g))

  -- the theorem
  pub accepted-exactly : bins_of (sector h) / 64 ≤ length m → ((r : Report) × (check_answer h m ≡ Ok r)) ↔ CleanAndWellFormed h
  accepted-exactly room = (λ x. accepted-formed x.1, λ w. formed-accepted w room)

  -- "32 x bins + used + free = bins size", in every accepted report
  pub report-adds : {r : Report} → check_answer h m ≡ Ok r → 32 * r.bins + r.used + r.free ≡ bins_of (sector h)
  report-adds e =
      let a = accepted-as e in
      let s = (surveyed h m a.tally a.surveys).1 in
      let w = accepted-formed e in
      rw a.report (s.adds ∙ bins-length w.inside)

  -- its bins, used and free bytes are those of the tiling, each by itself
  pub report-sums : {r : Report} → check_answer h m ≡ Ok r → (b : BinsTile (bins_data h) 0)
      → (r.bins ≡ bin_count b) × (r.used ≡ used_bytes (cells_in b)) × (r.free ≡ free_bytes (cells_in b))
  report-sums e b =
      let a = accepted-as e in
      rw a.report (counts-are (bins_data h) b (surveyed h m a.tally a.surveys).1.counts)

  -- the report's keys and values are those in pre-order
  pub report-counts : {r : Report} → check_answer h m ≡ Ok r → (r.keys ≡ length (keys_of h)) × (r.values ≡ values_in (bins_data h) (keys_of h))
  report-counts e = let a = accepted-as e in rw a.report (refl, refl)
