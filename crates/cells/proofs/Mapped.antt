-- The work map over all bins, and what it names: the map's rule implies the header's, with the same bounds.
use Prim.Native.Nat.{ℕ, ◌+◌, ◌-◌, ◌*◌, ◌/◌, ◌%◌, ◌≤◌, ◌<◌, max}
use native.Mathlib.Nat.{zero-div, max-zero}
use native.Mathlib.Omega.{arith}
use mathlib.Core.Path.{◌≡◌, refl, sym, ap, ◌∙◌}
use mathlib.Core.Bool.{Bool, true, false}
use mathlib.Core.List.{List}
use lib.Dec.{eqb}
use lib.ListN.{length, drop, replicate, length-replicate, get_or-replicate, length-append, length-take, length-drop, get_or-append}
use borrow.Author.Tests.{eq-eqb, eqb-true, eqb-false, le-leb}
use Rattle.fields.specs.declared.Offset.{Offset}
use Rattle.fields.specs.Number.{size_at}
use Rattle.fields.proofs.Bools.{and_both}
use Rattle.base.specs.Block.{sector, bins_of, bins_data}
use Rattle.base.proofs.Laws.{base-facts}
use Rattle.cells.specs.Rule.{Map, Header}
use Rattle.cells.specs.declared.Tally.{Tally}
use Rattle.cells.specs.Tiling.{tiling, layout, survey_of}
use Rattle.bitmap.specs.Bits.{bit, zeros}
use Rattle.cells.specs.Map.{marks, is_bad, marks_all, map_after, is_marked, starts_in}
use Rattle.cells.specs.Survey.{front_fault, survey_answer, map_left}
use Rattle.cells.specs.Named.{is_named, cell_at, by_header, cell_of, cell_fault}
use Rattle.cells.specs.Tiled.{Good, BinsTile, bins-end, bin-on, InUse, Mapped}
use Rattle.bitmap.proofs.Marks.{flag}
use Rattle.cells.proofs.Bit.{flag-or, marks-bit, placed, placed-more, tiling-placed}
use Rattle.cells.proofs.Steps.{of-good}
use Rattle.cells.proofs.Total.{length-marks}
use Rattle.cells.proofs.Turns.{done, step}
use Rattle.cells.proofs.Marked.{marked-odd, marked-set}
use Rattle.cells.proofs.Naming.{names, sound-names}
use Rattle.cells.proofs.Fronts.{front-facts, survey-front, survey-on}
use Rattle.cells.proofs.Tiles.{row-sums, of-header, of-header-some, starts-exactly, wholly-inside, tiled-exactly, total}
use Rattle.fields.specs.Faults.{Verdict}
use Rattle.std.specs.Prelude.{Err, Ok}

module _ (d : List ℕ) where
  bits-from : {at : ℕ} → at % 4096 ≡ 0 → BinsTile d at → (m : List ℕ) → length d ≤ length m * 64 → (k : ℕ)
      → bit (marks_all (layout d at) m) k ≡ max (bit m k) (flag (starts_in (layout d at) (k * 8)))
  unfolding marks_all starts_in is_bad
  bits-from {at} a (bins-end e) m r k = rw (done d at (omega arith)) (sym (max-zero _))
  bits-from {at} a (bin-on n h t b) m r k =
      let lt : at < length d = omega (arith, h.some, h.inside) in
      let one = marks-bit (tiling d (at + 32) (at + n)) m k
      (tiling-room (tiling-placed d (at + 32) (at + n) (omega arith) (omega (arith, h.pages)))) in
      let rest = bits-from (omega (arith, h.pages)) b (marks (tiling d (at + 32) (at + n)) m) (rw (length-marks (tiling d (at + 32) (at + n)) m) r) k in
      rw (step d at lt (of-header-some d h), of-header d h, row-sums d t 0 0, flag-or) (rest ∙ rw one (omega arith))
    where
      tiling-room : placed (tiling d (at + 32) (at + n)) (at + n)
          → placed (tiling d (at + 32) (at + n)) (length m * 64)
      tiling-room p = placed-more (at + n) (length m * 64) (omega (arith, h.inside)) (tiling d (at + 32) (at + n)) p

pub zeros-bit : (n : ℕ) (m : List ℕ) (k : ℕ) → k < n * 8 → bit (zeros n m) k ≡ 0
unfolding zeros
zeros-bit n m k lt =
    let j : k / 8 < n = omega arith in
    rw (get_or-append (replicate n 0) (drop n m) 0 (k / 8) (rw (length-replicate {A = ℕ} n 0) j), get_or-replicate {A = ℕ} n (k / 8) 0 0 j, zero-div)

eqb-flag : (b : Bool) → eqb (flag b) 1 ≡ b
eqb-flag true = refl
eqb-flag false = refl

module _ (d : List ℕ) where
  -- an offset where a cell in use starts is one in the bins data, and a multiple of 8
  pub in_use : BinsTile d 0 → (o : Offset) → InUse d o → is_named d o.0 ≡ true
  unfolding is_named
  in_use b o e =
      let i = wholly-inside d o e in
      let c = i.inside in
      let h = i.header in
      let n = o.0 in
      let g : Good (size_at d n).bytes (length d - n)
      = record { some = c.some; eights = c.whole; inside = omega (arith, c.before, h.inside) } in
      and_both (le-leb 32 n (omega (arith, c.after)))
      (and_both (eq-eqb (n % 8) 0 c.eights)
      (and_both (le-leb (n + 4) (length d) (omega (arith, c.before, c.some, c.whole, h.inside))) (and_both c.used (of-good g))))

  -- the map of the tiling, over all bins: each bit that is set is a cell in use
  map-walk : BinsTile d 0 → length d % 4096 ≡ 0 → (m : List ℕ) → length d / 64 ≤ length m → (o : Offset) → o.0 < length d
      → is_marked (marks_all (layout d 0) (zeros (length d / 64) m)) o.0 ≡ starts_in (layout d 0) o.0
  unfolding zeros
  map-walk b l m r o lt = by (eqb (n % 8) 0) refl
    where
      n : ℕ
      n = o.0

      z : List ℕ
      z = zeros (length d / 64) m

      long : length d ≤ length z * 64
      long = simp (length-append, length-replicate, length-drop) (omega arith)

      by : (t : Bool) → eqb (n % 8) 0 ≡ t → is_marked (marks_all (layout d 0) z) n ≡ starts_in (layout d 0) n
      by false e = marked-odd (marks_all (layout d 0) z) n (eqb-false (n % 8) 0 e) ∙ sym (none (starts_in (layout d 0) n) refl)
        where
          none : (s : Bool) → starts_in (layout d 0) n ≡ s → starts_in (layout d 0) n ≡ false
          none true f = absurd (eqb-false (n % 8) 0 e (wholly-inside d o ((starts-exactly d o).0 f)).inside.eights)
          none false f = f
      by true e =
          let k : n / 8 * 8 ≡ n = omega (arith, eqb-true (n % 8) 0 e) in
          let is_set : bit (marks_all (layout d 0) z) (n / 8) ≡ flag (starts_in (layout d 0) n)
          = bits-from d refl b z long (n / 8) ∙ rw (zeros-bit (length d / 64) m (n / 8) (omega arith), k) (omega arith) in
          marked-set (marks_all (layout d 0) z) n (eqb-true (n % 8) 0 e) ∙ ap (λ (x : ℕ). eqb x 1) is_set ∙ eqb-flag (starts_in (layout d 0) n)

  map-mapped : BinsTile d 0 → length d % 4096 ≡ 0 → (m : List ℕ) → length d / 64 ≤ length m
      → Mapped d (marks_all (layout d 0) (zeros (length d / 64) m))
  map-mapped b l m r o lt =
      let w = map-walk b l m r o lt in
      (λ e. (starts-exactly d o).0 (sym w ∙ e), λ u. w ∙ (starts-exactly d o).1 u)

  -- the header's rule names them too, with the same bounds
  header-names : BinsTile d 0 → (m : List ℕ) (o : Offset) → InUse d o → cell_of Header d m o ≡ Ok (cell_at d o)
  unfolding cell_of by_header
  header-names b m o e = rw (in_use b o e)

  pub header-sound : BinsTile d 0 → (m : List ℕ) (o : Offset) → InUse d o → cell_fault Header d m o ≡ Ok tt
  unfolding cell_fault
  header-sound b m o e = rw (header-names b m o e)

  -- the map names exactly the cells in use
  module _ (b : BinsTile d 0) (m : List ℕ) (mapped : Mapped d m) (o : Offset) where
    map-names : InUse d o → cell_of Map d m o ≡ Ok (cell_at d o)
    unfolding cell_of by_header
    map-names e =
        let n = in_use b o e in
        let r = names d o.0 n in
        rw ((mapped o (omega (arith, r.room))).1 e, n)

    pub sound-in-use : cell_fault Map d m o ≡ Ok tt → InUse d o
    unfolding cell_fault cell_of
    sound-in-use e =
        let r = sound-names Map d m o e in
        (mapped o (omega (arith, r.room))).0 (marked (is_marked m o.0) refl)
      where
        marked : (t : Bool) → is_marked m o.0 ≡ t → is_marked m o.0 ≡ true
        marked true f = f
        marked false f = let z : ◌≡◌ {A = ℕ} 0 1 = cc in absurd (omega arith)

    pub in-use-sound : InUse d o → cell_fault Map d m o ≡ Ok tt
    unfolding cell_fault
    in-use-sound e = rw (map-names e)

-- After a survey that accepts: the bins data are tiled, the counts add up, and the map is that of the tiling.
pub record After (h m : List ℕ) (t : Tally) : Type 0 where
  pub tiles : BinsTile (bins_data h) 0
  pub mapped : Mapped (bins_data h) (map_left h m)
  pub counts : survey_of (layout (bins_data h) 0) 0 0 0 ≡ Ok t
  pub adds : 32 * t.bins + t.used + t.free ≡ length (bins_data h)

after-tiled : (d : List ℕ) (t : Tally) (m : List ℕ) → map_after d (Ok t) m ≡ marks_all (layout d 0) (zeros (length d / 64) m)
unfolding map_after
after-tiled d t m = refl

module _ (h m : List ℕ) (t : Tally) where
  pub surveyed : survey_answer h (length m) ≡ Ok t → (front_fault h (length m) ≡ Ok tt) × After h m t
  surveyed e = by (front_fault h (length m)) refl
    where
      by : (v : Verdict) → front_fault h (length m) ≡ v → (front_fault h (length m) ≡ Ok tt) × After h m t
      by (Err f) p =
          let s = sym (survey-front h m p).0 ∙ e in
          let z : ◌≡◌ {A = ℕ} 0 1 = cc in
          absurd (omega arith)
      by (Ok tt) p = (p, after p)
        where
          after : front_fault h (length m) ≡ Ok tt → After h m t
          after p =
              let d = bins_data h in
              let f = front-facts h (length m) p in
              let b = base-facts h f.0 in
              let n : length d ≡ bins_of (sector h) = simp (length-take, length-drop) (omega (arith, b.inside)) in
              let s = survey-on h m d (survey_of (layout d 0) 0 0 0) p refl refl in
              let c : survey_of (layout d 0) 0 0 0 ≡ Ok t = sym s.0 ∙ e in
              let w : length d % 4096 ≡ 0 = omega (arith, b.size.pages) in
              let i = (tiled-exactly d w).0 (t, c) in
              record { tiles = i; mapped = rw (s.1, c, after-tiled d t m) (map-mapped d i w m (omega (arith, f.1))); counts = c; adds = total d i c }
