-- A refusal of the survey says why: 9 and 10 after whole bins and good cells. And each rule names exactly the cells that are in use by it.
use Prim.Native.Nat.{ℕ, zero, suc, ◌+◌, ◌-◌, ◌/◌, ◌≤◌, ◌<◌}
use native.Mathlib.Omega.{arith}
use mathlib.Core.Path.{◌≡◌, refl, ap, ◌∙◌, subst}
use mathlib.Core.Bool.{Bool, true, false, cond}
use mathlib.Core.List.{List}
use lib.Dec.{eqb, leb, ltb}
use lib.ListN.{length}
use borrow.Author.Tests.{ltb-true, ltb-false, leb-false, eqb-true, eqb-false}
use Rattle.fields.specs.declared.Flaw.{Flaw}
use Rattle.fields.specs.declared.Fault.TheVariants.{MapSmall, BinHeader, CellSize, NoCell}
use Rattle.fields.specs.declared.Offset.{Offset}
use Rattle.fields.specs.Number.{size_at}
use Rattle.fields.specs.Faults.{number_of, flaw, nowhere, Verdict}
use Rattle.fields.proofs.Bools.{never}
use Rattle.fields.proofs.Every.{Every, every-next, every-unless}
use Rattle.base.specs.Block.{sector, bins_of, base_fault, bins_data}
use Rattle.base.proofs.Refusals.{base-refuses, base-number}
use Rattle.cells.specs.declared.Cell.{Cell}
use Rattle.cells.specs.Rule.{Rule}
use Rattle.cells.specs.Rule as rule
use Rattle.cells.specs.Tiling.{good_size, tiling, row_of, bin_size, layout, add_row, survey_of}
use Rattle.cells.specs.Survey.{front_fault, tested, survey_answer}
use Rattle.cells.specs.Named.{is_named, cell_at, by_header, cell_of, verdict_of, cell_fault}
use Rattle.cells.specs.Tiled.{Good, CellsTile, Header, BinsTile, Mapped}
use Rattle.cells.specs.Refused.{BinsTo, first-bin, next-bin, CellsTo, first_cell, next-cell, OfBins, no_header, no_size, OfSurvey, of-base, map-small, of-bins, UsedBy}
use Rattle.cells.proofs.Mapped.{sound-in-use, in-use-sound}
use Rattle.cells.proofs.Steps.{good, of-good, done, fault, step}
use Rattle.cells.proofs.Tiles.{tile-by, header_of, of-header-some}
use Rattle.cells.proofs.Turns.{done as bins-done, fault as bins-fault, step as bins-step}
use Rattle.std.specs.Prelude.{Err, Ok, Result}

module _ (d : List ℕ) where
  -- in a bin whose cells are good up to an offset
  module _ {bin size : ℕ} (bins : BinsTo d bin) (header : Header d bin size) where
    row-bad : (k at u f : ℕ) {g : Flaw} → bin + size - at ≤ k → CellsTo d (bin + 32) (bin + size) at
        → row_of (tiling d at (bin + size)) u f ≡ Err g → OfBins d g
    unfolding row_of
    row-bad zero at u f p q e =
        let s = rw (done d at (bin + size) (omega arith)) at e in
        let z : ◌≡◌ {A = ℕ} 0 1 = cc in
        absurd (omega arith)
    row-bad (suc k) at u f {g} p q e =
        by (ltb at end) refl (good_size n (end - at)) refl (λ lt s t. row-bad k (at + n) _ _ (omega (arith, s.some)) (next-cell q lt s) t)
      where
        n : ℕ
        n = (size_at d at).bytes

        end : ℕ
        end = bin + size

        by : (t : Bool) → ltb at end ≡ t → (s : Bool) → good_size n (end - at) ≡ s
            → (at < end → Good n (end - at)
            → row_of (tiling d (at + n) end) (cond (size_at d at).used (u + n) u) (cond (size_at d at).used f (f + n)) ≡ Err g → OfBins d g)
            → OfBins d g
        by false x s y ih =
            let w = rw (done d at end (ltb-false at end x)) at e in
            let z : ◌≡◌ {A = ℕ} 0 1 = cc in
            absurd (omega arith)
        by true x false y ih =
            let lt = ltb-true at end x in
            let w = rw (fault d at end lt y) at e in
            let z : flaw CellSize (record { 0 = at }) ≡ g = cc in
            subst (λ (v : Flaw). OfBins d v) z (no_size bins header q lt (λ s. never _ (of-good s) y))
        by true x true y ih = ih (ltb-true at end x) (good n (end - at) y) (rw (step d at end (ltb-true at end x) y) at e)

  bins-bad : (k at c u f : ℕ) {g : Flaw} → length d - at ≤ k → BinsTo d at → survey_of (layout d at) c u f ≡ Err g → OfBins d g
  unfolding survey_of add_row
  bins-bad zero at c u f p q e =
      let s = rw (bins-done d at (omega arith)) at e in
      let z : ◌≡◌ {A = ℕ} 0 1 = cc in
      absurd (omega arith)
  bins-bad (suc k) at c u f {g} p q e =
      by (ltb at (length d)) refl (eqb n 0) refl (row_of (tiling d (at + 32) (at + n)) 0 0) refl
      (λ h t a b r. bins-bad k (at + n) _ _ _ (omega (arith, h.some)) (next-bin n q h t) r)
    where
      n : ℕ
      n = bin_size d at

      by : (t : Bool) → ltb at (length d) ≡ t → (y : Bool) → eqb n 0 ≡ y → (r : Result (ℕ × ℕ) Flaw) → row_of (tiling d (at + 32) (at + n)) 0 0 ≡ r
          → (Header d at n → CellsTile d (at + n) (at + 32) → (a b : ℕ) → survey_of (layout d (at + n)) (c + 1) (u + a) (f + b) ≡ Err g → OfBins d g)
          → OfBins d g
      by false x y z r s ih =
          let w = rw (bins-done d at (ltb-false at (length d) x)) at e in
          let v : ◌≡◌ {A = ℕ} 0 1 = cc in
          absurd (omega arith)
      by true x true z r s ih =
          let lt = ltb-true at (length d) x in
          let w = rw (bins-fault d at lt (eqb-true n 0 z)) at e in
          let v : flaw BinHeader (record { 0 = at }) ≡ g = cc in
          subst (λ (y : Flaw). OfBins d y) v (no_header q lt (λ j h. of-header-some d h (eqb-true n 0 z)))
      by true x false z (Err b) s ih =
          let lt = ltb-true at (length d) x in
          let w = rw (bins-step d at lt (eqb-false n 0 z), s) at e in
          let v : b ≡ g = cc in
          row-bad q (header_of d at (eqb-false n 0 z) lt) n (at + 32) 0 0 (omega arith) first_cell (s ∙ ap Err v)
      by true x false z (Ok (a, b)) s ih =
          let lt = ltb-true at (length d) x in
          let h = header_of d at (eqb-false n 0 z) lt in
          ih h (tile-by d n (at + 32) (at + n) 0 0 a b (omega arith) (omega (arith, h.some, h.pages)) s) a b
          (rw (bins-step d at lt (eqb-false n 0 z), s) at e)

  pub bins-refuse : {g : Flaw} → survey_of (layout d 0) 0 0 0 ≡ Err g → OfBins d g
  bins-refuse e = bins-bad (length d) 0 0 0 0 (omega arith) first-bin e

  -- 9 or 10
  pub bins-number : {f : Flaw} → OfBins d f → (9 ≤ number_of f.fault) × (number_of f.fault ≤ 10)
  bins-number (no_header b lt n) = (omega arith, omega arith)
  bins-number (no_size b h c lt n) = (omega arith, omega arith)

-- 1 to 8
front-refuses : (h : List ℕ) (room : ℕ) → Every (OfSurvey h room) (front_fault h room)
unfolding front_fault
front-refuses h room =
    every-next (OfSurvey h room) (base_fault h) _ (λ f e. of-base (base-refuses h f e))
    (λ s. every-unless (OfSurvey h room) (leb (bins_of (sector h) / 64) room) _ (λ e. map-small (leb-false _ _ e)))

abbrev Front : Flaw → Type 0
Front f = number_of f.fault ≤ 8

pub front-number : (h : List ℕ) (room : ℕ) {f : Flaw} → front_fault h room ≡ Err f → number_of f.fault ≤ 8
unfolding front_fault
front-number h room {f} =
    every-next Front (base_fault h) _ (λ g e. let p = base-number h (base-refuses h g e) in let q : number_of g.fault ≤ 8 = omega arith in q)
    (λ s. every-unless Front (leb (bins_of (sector h) / 64) room) (flaw MapSmall nowhere) (λ e. let q : 8 ≤ 8 = omega arith in q)) f

-- the survey
pub survey-refuses : (h : List ℕ) (room : ℕ) {f : Flaw} → survey_answer h room ≡ Err f → OfSurvey h room f
unfolding survey_answer
survey-refuses h room {f} e = by (front_fault h room) refl e
  where
    by : (v : Verdict) → front_fault h room ≡ v → tested v (survey_of (layout (bins_data h) 0) 0 0 0) ≡ Err f → OfSurvey h room f
    by (Ok tt) p q = of-bins (bins-refuse (bins_data h) q)
    by (Err g) p q = let z : g ≡ f = cc in front-refuses h room f (p ∙ ap Err z)

-- ---- a rule's test of a cell is sound exactly where the cell is in use by it
pub record Ruled (r : Rule) (d m : List ℕ) : Type 0 where
  pub sound-used : (o : Offset) → cell_fault r d m o ≡ Ok tt → UsedBy r d o
  pub used_sound : (o : Offset) → UsedBy r d o → cell_fault r d m o ≡ Ok tt

pub by_map : (d m : List ℕ) → BinsTile d 0 → Mapped d m → Ruled rule.Map d m
by_map d m tiles mapped = record { sound-used = sound-in-use d tiles m mapped; used_sound = in-use-sound d tiles m mapped }

pub by-header : (d m : List ℕ) → Ruled rule.Header d m
unfolding cell_fault cell_of by_header
by-header d m = record { sound-used = λ o e. by (is_named d o.0) (cell_at d o) (flaw NoCell o) e; used_sound = λ o e. rw e }
  where
    by : (t : Bool) (c : Cell) (f : Flaw) → verdict_of (cond t (Ok c) (Err f)) ≡ Ok tt → t ≡ true
    by true c f e = refl
    by false c f e = absurd (let z : ◌≡◌ {A = ℕ} 0 1 = cc in omega arith)
