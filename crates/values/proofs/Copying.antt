-- Segments copied one after the other: what stands before a turn of the loop, and after it.
use Prim.Native.Nat.{ℕ, suc, ◌+◌, ◌-◌, ◌*◌, ◌<◌, ◌≤◌}
use native.Mathlib.Omega.{arith}
use mathlib.Core.Path.{◌≡◌, sym, ap, ap₂, ◌∙◌}
use mathlib.Core.List.{List, [], ◌++◌, append_assoc, append-nil}
use lib.ListN.{length, get_or, take, drop, take-append-drop}
use lib.Seq.{paste, length-paste, take-paste, drop-paste, drop-drop}
use Rattle.fields.specs.declared.Offset.{Offset}
use Rattle.fields.specs.Faults.{nowhere, fault_over}
use Rattle.fields.proofs.Firsts.{both}
use Rattle.cells.specs.Rule.{Header}
use Rattle.cells.specs.Named.{data_at}
use Rattle.values.specs.declared.Entries.{Entries}
use Rattle.values.specs.declared.Segment.{Segment}
use Rattle.values.specs.Entries.{entries_of}
use Rattle.values.specs.Records.{segment_size}
use Rattle.values.specs.Segments.{segment_length, segments_from, segments_in, segment_fault, joined_bytes}
use Rattle.values.proofs.Rooms.{roomy}
use Rattle.values.proofs.Segment_turns.{takes, segments-cons, segments-nil}
use Rattle.std.specs.Prelude.{Ok}

-- the segments before element i stand in `out`, `left` bytes are to come, and what lies behind them is as it was
pub record Copied (d out₀ : List ℕ) (e : Entries) (size : ℕ) (out : List ℕ) (left i : ℕ) : Type 0 where
  pub before-end : i ≤ e.count
  pub within : left ≤ size
  pub enough : left ≤ (e.count - i) * segment_size
  pub kept : length out ≡ length out₀
  pub sound : fault_over (segment_fault Header d []) (segments_from (data_at d e.cell) i left (e.count - i)) ≡ Ok tt
  pub done : joined_bytes d (segments_in d e size) ≡ take (size - left) out ++ joined_bytes d (segments_from (data_at d e.cell) i left (e.count - i))
  pub after : drop (size - left) out ≡ drop (size - left) out₀

-- the segments after element i are enough for what it leaves
still-enough : (left n k : ℕ) → n ≡ segment_length left → left ≤ suc k * segment_size → left - n ≤ k * segment_size
still-enough left n k len p = let t = takes left in let r : left - n ≡ left - segment_size = ap (λ (x : ℕ). left - x) len ∙ t.rest in omega arith

moved : (size left n : ℕ) → n ≤ left → left ≤ size → size - left + n ≡ size - (left - n)
moved size left n p q = omega arith

module _ (d out₀ : List ℕ) (e : Entries) (size : ℕ) where
  module _ {out : List ℕ} {left i : ℕ} (w : Copied d out₀ e size out left i) (room : size ≤ length out₀) (p : i < e.count) (o : Offset) (n : ℕ)
      (at : o ≡ get_or (entries_of d e) i nowhere) (len : n ≡ segment_length left) where
    -- the segment's test, and those of the rest
    parts : (n ≤ length (data_at d o)) × (fault_over (segment_fault Header d []) (segments_from (data_at d e.cell) (i + 1) (left - n) (e.count - (i + 1))) ≡ Ok tt)
    unfolding fault_over segment_fault
    parts =
        let s = both _ _ (sym (ap (fault_over (segment_fault Header d [])) (segments-cons d e i left p o n at len)) ∙ w.sound) in
        (roomy Header d [] o n s.0, s.1)

    pub turn-room : (0 + n ≤ length (data_at d o)) × (size - left + n ≤ length out)
    turn-room = let t = takes left in (omega (arith, parts.0), omega (arith, w.within, w.kept))

    pub turn : Copied d out₀ e size (paste out (size - left) (data_at d o) n) (left - n) (i + 1)
    unfolding joined_bytes
    turn =
        let fits : n ≤ left = rw len (takes left).fits in
        let to = size - left in
        let s = data_at d o in
        let g = turn-room in
        let has = parts.0 in
        let c : e.count - i ≡ suc (e.count - (i + 1)) = omega arith in
        let q : to + n ≡ size - (left - n) = moved size left n fits w.within in
        let low : to ≤ length out = omega (arith, g.1) in
        record {
          before-end = omega arith;
          within = omega (arith, w.within);
          enough = still-enough left n (e.count - (i + 1)) len (rw c at w.enough);
          kept = length-paste out to s n g.1 has ∙ w.kept;
          sound = parts.1;
          done =
              w.done
              ∙ ap (λ (x : List Segment). take to out ++ joined_bytes d x) (segments-cons d e i left p o n at len)
              ∙ sym (append_assoc (take to out) (take n s) _)
              ∙ ap (λ (x : List ℕ). x ++ joined_bytes d (segments_from (data_at d e.cell) (i + 1) (left - n) (e.count - (i + 1))))
              (sym (take-paste out to s n low has) ∙ ap (λ (x : ℕ). take x (paste out to s n)) q);
          after =
              ap (λ (x : ℕ). drop x (paste out to s n)) (sym q)
              ∙ drop-paste out to s n low has
              ∙ sym (drop-drop n to out)
              ∙ ap (drop n) w.after
              ∙ drop-drop n to out₀
              ∙ ap (λ (x : ℕ). drop x out₀) q;
        }

  pub copied-end : {out : List ℕ} {left i : ℕ} → Copied d out₀ e size out left i → e.count ≤ i
      → out ≡ joined_bytes d (segments_in d e size) ++ drop size out₀
  unfolding joined_bytes
  copied-end {out} {left} {i} w p =
      let u = w.enough in
      let z : size - left ≡ size = omega arith in
      let j : joined_bytes d (segments_in d e size) ≡ take size out =
      w.done
      ∙ ap₂ (λ (x : ℕ) (y : List Segment). take x out ++ joined_bytes d y) z (segments-nil (data_at d e.cell) i left e.count p)
      ∙ append-nil (take size out) in
      let a : drop size out ≡ drop size out₀ = ap (λ (x : ℕ). drop x out) (sym z) ∙ w.after ∙ ap (λ (x : ℕ). drop x out₀) z in
      sym (take-append-drop size out) ∙ ap₂ ◌++◌ (sym j) a
