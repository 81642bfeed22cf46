-- What the crates above may use of the bytes in a cell: its numbers and parts are those of the bins data, further on, and stand in the file.
use Prim.Native.Nat.{ℕ, ◌+◌, ◌-◌, ◌<◌, ◌≤◌}
use native.Mathlib.Nat.{add_assoc}
use native.Mathlib.Omega.{arith}
use mathlib.Core.Path.{◌≡◌, refl, sym, ap, ◌∙◌}
use mathlib.Core.Bool.{Bool, true, false}
use mathlib.Core.List.{List}
use lib.Dec.{eqb}
use lib.ListN.{length, get_or, take, drop, length-take, length-drop}
use lib.Seq.{get_or-take, get_or-drop, ext_get_or}
use borrow.Author.Tests.{eq-eqb, ne_eqb, eqb-true, eqb-false}
use Rattle.fields.specs.declared.Offset.{Offset}
use Rattle.fields.specs.declared.Place.{Place}
use Rattle.fields.specs.Number.{u16_at, u32_at, u64_at, size_at}
use Rattle.fields.specs.Position.{place_of}
use Rattle.base.specs.Block.{sector, bins_of, bins_data, base_fault}
use Rattle.base.proofs.Laws.{base-facts}
use Rattle.cells.specs.Named.{data_at, data_of, part_in, part_place}
use Rattle.cells.specs.Terms.{PartIn}
use Rattle.std.specs.Prelude.{Ok}

pub part_length : (d : List ℕ) (at len : ℕ) → at + len ≤ length d → length (take len (drop at d)) ≡ len
part_length d at len h = simp (length-take, length-drop) (omega arith)

module _ (d : List ℕ) (at len : ℕ) where
  byte-part : (i : ℕ) → i < len → get_or (take len (drop at d)) i 0 ≡ get_or d (at + i) 0
  byte-part i h = get_or-take len (drop at d) i 0 h ∙ get_or-drop at d i 0

  pub u16-part : (i : ℕ) → i + 2 ≤ len → u16_at (take len (drop at d)) i ≡ u16_at d (at + i)
  unfolding u16_at
  u16-part i h = rw (byte-part i (omega arith), byte-part (i + 1) (omega arith), ← add_assoc at i 1)

  pub u32-part : (i : ℕ) → i + 4 ≤ len → u32_at (take len (drop at d)) i ≡ u32_at d (at + i)
  unfolding u32_at
  u32-part i h = rw (u16-part i (omega arith), u16-part (i + 2) (omega arith), ← add_assoc at i 2)

  pub u64-part : (i : ℕ) → i + 8 ≤ len → u64_at (take len (drop at d)) i ≡ u64_at d (at + i)
  unfolding u64_at
  u64-part i h = rw (u32-part i (omega arith), u32-part (i + 4) (omega arith), ← add_assoc at i 4)

-- a part of a part
part-part : (d : List ℕ) (at len i n : ℕ) → i + n ≤ length (take len (drop at d))
    → take n (drop i (take len (drop at d))) ≡ take n (drop (at + i) d)
part-part d at len i n h =
    let t = length-take len (drop at d) in
    let s = length-drop at d in
    let inner = part_length (take len (drop at d)) i n h in
    let direct : length (take n (drop (at + i) d)) ≡ n = simp (length-take, length-drop) (omega arith) in
    ext_get_or 0 _ _ (inner ∙ sym direct) (λ j lt.
    byte-part (take len (drop at d)) i n j (omega arith) ∙ byte-part d at len (i + j) (omega arith)
    ∙ sym (byte-part d (at + i) n j (omega arith) ∙ ap (λ (k : ℕ). get_or d k 0) (add_assoc at i j)))

-- where all bytes are below 256
u16-small : (s : List ℕ) (i : ℕ) → ((j : ℕ) → get_or s j 0 < 256) → u16_at s i < 65536
unfolding u16_at
u16-small s i h = omega (arith, h i, h (i + 1))

-- the data of the cell at an offset
module _ (d : List ℕ) (o : Offset) where
  is-part : data_at d o ≡ take ((size_at d o.0).bytes - 4) (drop (o.0 + 4) d)
  unfolding data_at data_of
  is-part = refl

  -- room for some bytes in the data is room in the cell and in the bins data
  rooms : (n : ℕ) → 0 < n → n ≤ length (data_at d o) → (n ≤ (size_at d o.0).bytes - 4) × (o.0 + 4 + n ≤ length d)
  rooms n some h =
      let e = ap length is-part in
      let t = length-take ((size_at d o.0).bytes - 4) (drop (o.0 + 4) d) in
      let s = length-drop (o.0 + 4) d in
      (omega arith, omega arith)

  -- they are no longer than the bins data
  pub data-short : length (data_at d o) ≤ length d
  data-short =
      let e = ap length is-part in
      let t = length-take ((size_at d o.0).bytes - 4) (drop (o.0 + 4) d) in
      let s = length-drop (o.0 + 4) d in
      omega arith

  -- what `part_in` and `word_in` read
  pub part_room : (at len : ℕ) → PartIn d o at len → o.0 + 4 + at + len ≤ length d
  part_room at len p = let r = rooms (at + len) p.some p.ends in omega arith

  pub part_bytes : (at len : ℕ) → PartIn d o at len → take len (drop (o.0 + 4 + at) d) ≡ part_in d o at len
  unfolding data_at data_of
  part_bytes at len p = sym (part-part d (o.0 + 4) ((size_at d o.0).bytes - 4) at len p.ends)

  pub word_room : (at : ℕ) → at + 4 ≤ length (data_at d o) → o.0 + 4 + at + 4 ≤ length d
  word_room at h = let r = rooms (at + 4) (omega arith) h in omega arith

  pub word-is : (at : ℕ) → at + 4 ≤ length (data_at d o) → u32_at d (o.0 + 4 + at) ≡ u32_at (data_at d o) at
  word-is at h =
      let r = rooms (at + 4) (omega arith) h in
      sym (ap (λ (r : List ℕ). u32_at r at) is-part ∙ u32-part d (o.0 + 4) ((size_at d o.0).bytes - 4) at r.0)

  -- a count of 16 bits
  pub data-small : (i : ℕ) → i + 2 ≤ length (data_at d o) → ((j : ℕ) → get_or d j 0 < 256) → u16_at (data_at d o) i < 65536
  data-small i h small =
      let r = rooms (i + 2) (omega arith) h in
      rw (ap (λ (r : List ℕ). u16_at r i) is-part ∙ u16-part d (o.0 + 4) ((size_at d o.0).bytes - 4) i r.0) (u16-small d (o.0 + 4 + i) small)

-- a part of a cell's data is the part of the hive at its place; what is no part has no bytes there either
module _ (o : Offset) (at len : ℕ) where
  pub place_none : len ≡ 0 → at ≡ 0 → part_place o at len ≡ record { 0 = 0 }
  unfolding part_place
  place_none p q = rw (eq-eqb (at + len) 0 (omega arith))

  pub place-some : (at + len ≡ 0 → ⊥) → part_place o at len ≡ record { 0 = (place_of o).0 + 4 + at }
  unfolding part_place
  place-some p = rw (ne_eqb (at + len) 0 p)

  module _ (h : List ℕ) (e : base_fault h ≡ Ok tt) (p : at + len ≤ length (data_at (bins_data h) o)) where
    pub place-room : (part_place o at len).0 + len ≤ length h
    place-room = by (eqb (at + len) 0) refl
      where
        by : (t : Bool) → eqb (at + len) 0 ≡ t → (part_place o at len).0 + len ≤ length h
        by true q = let z = eqb-true (at + len) 0 q in rw (place_none (omega arith) (omega arith)) (omega arith)
        by false q =
            let z = eqb-false (at + len) 0 q in
            let b = base-facts h e in
            let r = part_room (bins_data h) o at len (record { some = omega arith; ends = p }) in
            let l : length (bins_data h) ≡ bins_of (sector h) = simp (length-take, length-drop) (omega (arith, b.inside)) in
            rw (place-some z) (omega (arith, b.inside))

    pub place-bytes : take len (drop (part_place o at len).0 h) ≡ part_in (bins_data h) o at len
    place-bytes = by (eqb (at + len) 0) refl
      where
        by : (t : Bool) → eqb (at + len) 0 ≡ t → take len (drop (part_place o at len).0 h) ≡ part_in (bins_data h) o at len
        by true q =
            let z = eqb-true (at + len) 0 q in
            let n : len ≡ 0 = omega arith in
            ap (λ (k : ℕ). take k (drop (part_place o at len).0 h)) n ∙ sym (ap (λ (k : ℕ). take k (drop at (data_at (bins_data h) o))) n)
        by false q =
            let z = eqb-false (at + len) 0 q in
            let i : PartIn (bins_data h) o at len = record { some = omega arith; ends = p } in
            let r = part_room (bins_data h) o at len i in
            let k : o.0 + 4096 + 4 + at ≡ 4096 + (o.0 + 4 + at) = omega arith in
            ap (λ (x : Place). take len (drop x.0 h)) (place-some z)
            ∙ ap (λ (x : ℕ). take len (drop x h)) k
            ∙ sym (part-part h 4096 (bins_of (sector h)) (o.0 + 4 + at) len r)
            ∙ part_bytes (bins_data h) o at len i
