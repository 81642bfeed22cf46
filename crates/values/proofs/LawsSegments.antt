-- The segments of a value's data: how many, how long each is, and that together they hold the data.
use Prim.Native.Nat.{ℕ, zero, suc, ◌+◌, ◌-◌, ◌*◌, ◌≤◌}
use native.Mathlib.Omega.{arith}
use mathlib.Core.Path.{◌≡◌, refl, ap, ap₂, ◌∙◌}
use mathlib.Core.List.{List, [], ◌∷◌}
use lib.ListN.{length, take, length-append}
use lib.Seq.{length-take-le}
use Rattle.fields.specs.declared.Offset.{Offset}
use Rattle.fields.specs.Faults.{fault_over}
use Rattle.fields.proofs.Firsts.{both}
use Rattle.cells.specs.Rule.{Rule}
use Rattle.cells.specs.Named.{data_at}
use Rattle.values.specs.declared.Segment.{Segment}
use Rattle.values.specs.Records.{segment_size, data_limit}
use Rattle.values.specs.Segments.{segments_for, segments_from, segments_of, segment_fault, joined_bytes}
use Rattle.values.proofs.Rooms.{roomy}
use Rattle.values.proofs.Segment_turns.{takes}
use Rattle.std.specs.Prelude.{Ok}

-- ---- how many

module _ (size : ℕ) where
  pub enough-segments : size ≤ segments_for size * segment_size
  unfolding segments_for
  enough-segments = omega arith

  pub most-segments : size ≤ data_limit → segments_for size ≤ 65
  unfolding segments_for
  most-segments p = omega arith

pub segments-length : (r : List ℕ) (i left n : ℕ) → length (segments_from r i left n) ≡ n
unfolding segments_from
segments-length r i left zero = refl
segments-length r i left (suc n) = ap suc (segments-length r (suc i) (left - segment_size) n)

-- ---- how long

-- the lengths of some segments, added
unfoldable pub lengths_of : List Segment → ℕ
lengths_of [] = 0
lengths_of (s ∷ ss) = s.len + lengths_of ss

lengths-from : (r : List ℕ) (i left n : ℕ) → left ≤ n * segment_size → lengths_of (segments_from r i left n) ≡ left
unfolding segments_from lengths_of
lengths-from r i left zero p = omega arith
lengths-from r i left (suc n) p =
    let t = takes left in
    let e = lengths-from r (suc i) (left - segment_size) n (omega arith) in
    omega arith

pub lengths-sum : (d : List ℕ) (o : Offset) (size : ℕ) → lengths_of (segments_of d o size) ≡ size
unfolding segments_of
lengths-sum d o size = lengths-from _ 0 size (segments_for size) (enough-segments size)

-- ---- the bytes of sound segments

pub joined_length : (rule : Rule) (d m : List ℕ) (ss : List Segment) → fault_over (segment_fault rule d m) ss ≡ Ok tt → length (joined_bytes d ss) ≡ lengths_of ss
unfolding joined_bytes lengths_of fault_over segment_fault
joined_length rule d m [] e = refl
joined_length rule d m (s ∷ ss) e =
    let f = both (segment_fault rule d m s) _ e in
    let w = roomy rule d m s.at s.len f.0 in
    length-append (take s.len (data_at d s.at)) (joined_bytes d ss) ∙ ap₂ ◌+◌ (length-take-le s.len (data_at d s.at) w) (joined_length rule d m ss f.1)
