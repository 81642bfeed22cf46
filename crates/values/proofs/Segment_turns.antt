-- Segments one after the other: a turn of the loops over them.
use Prim.Native.Nat.{ℕ, suc, ◌+◌, ◌-◌, ◌*◌, ◌<◌, ◌≤◌}
use native.Mathlib.Omega.{arith}
use native.Mathlib.Numerals.{add-one}
use mathlib.Core.Path.{◌≡◌, refl, sym, ap, ◌∙◌}
use mathlib.Core.Bool.{Bool, true, false}
use mathlib.Core.List.{List, [], ◌∷◌}
use lib.Dec.{ltb}
use lib.ListN.{get_or}
use borrow.Author.Tests.{ltb-true, ltb-false}
use Rattle.fields.specs.declared.Offset.{Offset}
use Rattle.fields.specs.declared.Flaw.{Flaw}
use Rattle.fields.specs.Faults.{nowhere, fault_over, Verdict}
use Rattle.fields.proofs.Firsts.{on, stop}
use Rattle.cells.specs.Rule.{Rule}
use Rattle.cells.specs.Named.{data_at}
use Rattle.records.specs.Offsets.{offset_at}
use Rattle.values.specs.declared.Entries.{Entries}
use Rattle.values.specs.declared.Segment.{Segment}
use Rattle.values.specs.Entries.{entries_of}
use Rattle.values.specs.Records.{segment_size}
use Rattle.values.specs.Segments.{room_fault, segment_length, segments_from, segments_in, segment_fault}
use Rattle.values.proofs.Rooms.{entries_at}
use Rattle.std.specs.Prelude.{Err, Ok}

-- what a segment takes of what is left, and what it leaves
pub record Takes (left n : ℕ) : Type 0 where
  pub some : 0 < left → 0 < n
  pub most : n ≤ segment_size
  pub fits : n ≤ left
  pub rest : left - n ≡ left - segment_size

pub takes : (left : ℕ) → Takes left (segment_length left)
unfolding segment_length
takes left = by (ltb segment_size left) refl
  where
    by : (t : Bool) → ltb segment_size left ≡ t → Takes left (segment_length left)
    by true e = let p = ltb-true segment_size left e in rw e (record { some = λ h. omega arith; most = omega arith; fits = omega arith; rest = omega arith })
    by false e = let p = ltb-false segment_size left e in rw e (record { some = λ h. omega arith; most = omega arith; fits = omega arith; rest = omega arith })

module _ (d : List ℕ) (e : Entries) (i left : ℕ) (p : i < e.count) (o : Offset) (n : ℕ) (at : o ≡ get_or (entries_of d e) i nowhere)
    (len : n ≡ segment_length left) where
  -- the segments from element i on: the one there, and those after it
  pub segments-cons : segments_from (data_at d e.cell) i left (e.count - i)
      ≡ record { at = o; len = n } ∷ segments_from (data_at d e.cell) (i + 1) (left - n) (e.count - (i + 1))
  unfolding segments_from
  segments-cons =
      let k : e.count - i ≡ suc (e.count - (i + 1)) = omega arith in
      let q : i * 4 ≡ 4 * i = omega arith in
      let is : offset_at (data_at d e.cell) (i * 4) ≡ o =
      ap (λ (x : ℕ). offset_at (data_at d e.cell) x) q ∙ sym (at ∙ entries_at d e i p) in
      let r : left - segment_size ≡ left - n = sym (takes left).rest ∙ ap (λ (x : ℕ). left - x) (sym len) in
      rw (k, is, ← len, r, add-one i)

  module _ (rule : Rule) (m : List ℕ) (size : ℕ)
      (inv : fault_over (segment_fault rule d m) (segments_in d e size)
      ≡ fault_over (segment_fault rule d m) (segments_from (data_at d e.cell) i left (e.count - i))) where
    pub segment-stop : {f : Flaw} → room_fault rule d m o n ≡ Err f → fault_over (segment_fault rule d m) (segments_in d e size) ≡ Err f
    unfolding fault_over segment_fault
    segment-stop x = inv ∙ ap (fault_over (segment_fault rule d m)) segments-cons ∙ stop _ _ x

    pub segment-on : room_fault rule d m o n ≡ Ok tt
        → fault_over (segment_fault rule d m) (segments_in d e size)
        ≡ fault_over (segment_fault rule d m) (segments_from (data_at d e.cell) (i + 1) (left - n) (e.count - (i + 1)))
    unfolding fault_over segment_fault
    segment-on x = inv ∙ ap (fault_over (segment_fault rule d m)) segments-cons ∙ on _ _ x

-- no segment is left
pub segments-nil : (s : List ℕ) (i left n : ℕ) → n ≤ i → segments_from s i left (n - i) ≡ []
unfolding segments_from
segments-nil s i left n p = let z : n - i ≡ 0 = omega arith in rw z

pub segments-end : (each : Segment → Verdict) (s : List ℕ) (i left n : ℕ) → n ≤ i → fault_over each (segments_from s i left (n - i)) ≡ Ok tt
unfolding fault_over
segments-end each s i left n p = rw (segments-nil s i left n p)
