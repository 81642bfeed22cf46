-- The whole hive.
use Prim.Native.Nat.{ℕ, ◌+◌, ◌-◌, ◌*◌, ◌/◌, ◌%◌, ◌<◌, ◌≤◌}
use native.Mathlib.Omega.{arith}
use mathlib.Core.Path.{◌≡◌, refl, sym, ap, ◌∙◌}
use mathlib.Core.Bool.{true, false}
use mathlib.Core.List.{List, [], append-nil}
use lib.ListN.{length, drop}
use lib.Seq.{sets}
use Rattle.forest.specs.Forest.{Forest, count_of, key_count, forest_frames}
use Rattle.forest.specs.Faults.{opens, shape_of, is_there}
use Rattle.forest.specs.Allowed.{Allowed, allowed-none, allowed-more}
use Rattle.forest.proofs.Shapes.{key_fits, key-shape}
use Rattle.layout.specs.Layout.{cell_size, cell_bytes, row_bytes, size_of, cells_of, nothing, item_at, used_of, bins_for, free_bytes, stamp_of, item_record, bin_header, base_block, bins_of, built_hive}
use Rattle.layout.proofs.Sizes.{cell_room, cell-length, row-length, cells-size, item-length, bins-whole, left-eights}
use Rattle.layout.proofs.Base.{block-length, header-length}
use Rattle.layout.proofs.Bounds.{keys-hold}
use Rattle.build_frames.specs.declared.Opening.{Opening}
use Rattle.build_cells.specs.Terms.{item_bytes, header_bytes, base_bytes}
use Rattle.build_cells.proofs.Laws.{join2, join4}
use Rattle.build_cells.proofs.Frame.{item-is, header_is, base-is}
use Rattle.build_write.specs.Terms.{is_opening, Opened, Room, ForestHere, Planned}
use Rattle.build_write.proofs.Trees.{same-stamp}

-- the first frame of a stream of one root
first_frame : {n : ℕ} {f : Forest} → Allowed n f → count_of f ≡ 1 → (x : List ℕ) × (shape_of (forest_frames f) ≡ opens (stamp_of f) x)
unfolding forest_frames count_of
first_frame allowed-none e = absurd (omega (arith, e))
first_frame (allowed-more {s = s} {x = x} k a c) e = (x, key-shape s x (key_fits k.stamp-fits k.name) _)

nothing-opens : is_opening (shape_of []) ≡ false
unfolding is_opening shape_of is_there
nothing-opens = refl

-- what the library rounds up
pub round : (n : ℕ) → n + (4096 - n % 4096) % 4096 ≡ (n + 4095) / 4096 * 4096
round n = omega arith

-- the parts in a row
whole-put : (f : Forest) (sd l : List ℕ)
    → sets (sets (sets (sets (sets l 0 (base_bytes (stamp_of f) (bins_for f (length sd)))) 4096 (header_bytes (stamp_of f) (bins_for f (length sd)))) (4096 + 32)
    (row_bytes (cells_of f 32 nothing (item_at f)))) (4096 + item_at f) (cell_bytes (item_bytes (item_at f) (key_count f) sd))) (4096 + used_of f (length sd))
    (free_bytes (bins_for f (length sd) - used_of f (length sd)))
    ≡ sets l 0 (built_hive f sd)
unfolding built_hive bins_of
whole-put f sd l =
    let n = length sd in
    let a = block-length f n in
    let b = header-length f n in
    let c = row-length (cells_of f 32 nothing (item_at f)) ∙ cells-size f 32 nothing (item_at f) in
    let d = cell-length (item_record f sd) ∙ ap cell_size (item-length f sd) in
    rw (item-is f sd, header_is f n, base-is f n)
    (join4 (bin_header f n) (row_bytes (cells_of f 32 nothing (item_at f))) (cell_bytes (item_record f sd)) (free_bytes (bins_for f n - used_of f n))
    (sets l 0 (base_block f n)) 4096 (4096 + 32) (4096 + item_at f) (4096 + used_of f n) (omega arith) (omega arith) (omega arith)
    ∙ join2 (base_block f n) _ l 0 4096 (omega arith))

module _ (s sd : List ℕ) (keys total m : ℕ) (f : Forest) (k : Planned s sd keys total m f) where
  says : shape_of (drop 0 s) ≡ opens (stamp_of f) (first_frame k.root.allowed k.root.single).0
  says = ap shape_of k.frames ∙ (first_frame k.root.allowed k.root.single).1

  pub root-opens : is_opening (shape_of (drop 0 s)) ≡ true
  unfolding is_opening
  root-opens = ap is_opening says

  pub root-here : ForestHere s 0 513 f []
  root-here = record { starts = omega arith; frames = k.frames ∙ sym (append-nil (forest_frames f)); allowed = k.root.allowed; laid = λ p. absurd (omega (arith, p)); ends = nothing-opens }

  used_low : used_of f (length sd) ≤ bins_for f (length sd)
  used_low = (bins-whole f (length sd)).inside

  pub descriptor-fits : 20 + length sd < 2147483648
  descriptor-fits = let u = used_low in let l = k.low in let r = cell_room (20 + length sd) in omega arith

  pub total-fits : 32 + total + cell_size (20 + length sd) < 2147483648
  total-fits = let u = used_low in let l = k.low in let e = k.size in omega arith

  pub keys-fit : keys < 4294967296
  keys-fit = let a = keys-hold f in let b = k.counted in let c = k.size in let t = total-fits in omega arith

  pub keys-room : Room 32 (size_of f) m
  keys-room = let u = used_low in let l = k.low in let r = k.room in record { low = omega arith; inside = omega arith }

  module _ (cell : ℕ) (e : cell ≡ cell_size (20 + length sd)) where
    used-is : 32 + total + cell ≡ used_of f (length sd)
    used-is = let c = k.size in omega arith

    size_is : (32 + total + cell + 4095) / 4096 * 4096 ≡ bins_for f (length sd)
    unfolding bins_for
    size_is = ap (λ (u : ℕ). (u + 4095) / 4096 * 4096) used-is

    pub used-fits : 32 + total + cell < 2147483648
    used-fits = let t = total-fits in omega arith

    pub size_fits : ((32 + total + cell + 4095) / 4096 * 4096 < 2147483648) × (32 + total + cell ≤ (32 + total + cell + 4095) / 4096 * 4096)
        × (4096 + (32 + total + cell + 4095) / 4096 * 4096 ≤ m)
    size_fits = let a = size_is in let b = used-is in let u = used_low in let l = k.low in let r = k.room in (omega arith, omega arith, omega arith)

    pub left-whole : ((32 + total + cell + 4095) / 4096 * 4096 - (32 + total + cell)) % 8 ≡ 0
    left-whole = rw (size_is, used-is) (left-eights f (length sd))

    pub hive-put : (o : Opening) → Opened s 0 o → (l : List ℕ)
        → sets (sets (sets (sets (sets l 0 (base_bytes o.stamp ((32 + total + cell + 4095) / 4096 * 4096))) 4096
        (header_bytes o.stamp ((32 + total + cell + 4095) / 4096 * 4096))) (4096 + 32) (row_bytes (cells_of f 32 nothing (32 + total)))) (4096 + (32 + total))
        (cell_bytes (item_bytes (32 + total) keys sd))) (4096 + (32 + total + cell))
        (free_bytes ((32 + total + cell + 4095) / 4096 * 4096 - (32 + total + cell)))
        ≡ sets l 0 (built_hive f sd)
    hive-put o h l = let st = same-stamp (sym h.is ∙ says) in rw (size_is, used-is, st, k.size, k.counted) (whole-put f sd l)
