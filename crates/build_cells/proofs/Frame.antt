-- The base block, the bin header, the security item and the free cell.
use Prim.Native.Nat.{ℕ, zero, suc, ◌+◌, ◌-◌, ◌*◌, ◌<◌, ◌≤◌}
use native.Mathlib.Omega.{arith}
use mathlib.Core.Path.{◌≡◌, refl, sym, ap, ◌∙◌}
use mathlib.Core.List.{List, ◌∷◌, ◌++◌, append_assoc}
use lib.Dec.{eqb}
use lib.ListN.{length, take, drop, length-append}
use lib.Seq.{sets, sets-eq, take_at}
use Rattle.fields.specs.Number.{u32_at, le16, le32, le64}
use Rattle.fields.proofs.Little.{length-le32, length-le64}
use Rattle.base.specs.Block.{stored_checksum}
use Rattle.base.proofs.Sums.{checksum-same}
use Rattle.cells.proofs.Parts.{u32-part}
use Rattle.forest.specs.Forest.{Item, Forest, key_count}
use Rattle.layout.specs.Layout.{cell_size, zeros, is_narrow, stored, nothing, flag_of, key_flags, key_record, cell_bytes, free_bytes, item_at, item_record, stamp_of, bins_for, bin_header, block_front, base_block}
use Rattle.layout.proofs.Sizes.{zeros-length}
use Rattle.build_cells.specs.Terms.{pad, fixed_of, fields_of, item_bytes, header_bytes, front_bytes, base_bytes}
use Rattle.build_cells.proofs.Laws.{join2, join3, join4, join6, length_two, length-four, cell-put, short-put}

-- ---- what is written is what the layout has of a forest

pub key-is : (s : ℕ) (x : List ℕ) (vs : List Item) (b : Forest) (at parent S : ℕ)
    → fixed_of (fields_of s x vs b at parent S) (length (stored x)) ++ stored x ≡ key_record s x vs b at parent S
unfolding key_record
key-is s x vs b at parent S = refl

pub flags-are : (x : List ℕ) (parent : ℕ) → flag_of (is_narrow x) 32 + flag_of (eqb parent nothing) 12 ≡ key_flags x parent
unfolding key_flags
flags-are x parent = refl

module _ (f : Forest) where
  pub item-is : (sd : List ℕ) → item_bytes (item_at f) (key_count f) sd ≡ item_record f sd
  unfolding item_bytes item_record
  item-is sd = refl

  module _ (n : ℕ) where
    pub header_is : header_bytes (stamp_of f) (bins_for f n) ≡ bin_header f n
    unfolding header_bytes bin_header
    header_is = refl

    front-is : front_bytes (stamp_of f) (bins_for f n) ≡ block_front f n
    unfolding front_bytes block_front
    front-is = refl

    pub base-is : base_bytes (stamp_of f) (bins_for f n) ≡ base_block f n
    unfolding base_bytes base_block
    base-is = ap (λ (x : List ℕ). x ++ (le32 (stored_checksum x) ++ zeros 3584)) front-is

-- ---- the security item

item-mark : (x : List ℕ) → le16 27507 ++ x ≡ 115 ∷ 107 ∷ x
unfolding le16
item-mark x = refl

module _ (S keys : ℕ) (sd : List ℕ) where
  four-of : List ℕ
  four-of = le32 S ++ (le32 S ++ (le32 keys ++ le32 (length sd)))

  item-parts : le32 27507 ++ (four-of ++ sd) ≡ item_bytes S keys sd
  unfolding four-of item_bytes
  item-parts =
      ap (λ (x : List ℕ). x ++ (four-of ++ sd)) (short-put 27507 (omega arith))
      ∙ append_assoc (le16 27507) (le16 0) (four-of ++ sd)
      ∙ item-mark (le16 0 ++ (four-of ++ sd))
      ∙ ap (λ (x : List ℕ). 115 ∷ 107 ∷ (le16 0 ++ x)) (simp append_assoc)

  item-length : length (item_bytes S keys sd) ≡ 20 + length sd
  unfolding four-of
  item-length =
      let e = ap length item-parts in
      let a = length-append (le32 27507) (four-of ++ sd) in
      let b = length-append four-of sd in
      let c = length-le32 27507 in
      let d = length-four S S keys (length sd) in
      omega arith

  pub item-put : (l : List ℕ) (at : ℕ)
      → sets (sets (sets (sets (sets l at (le32 (4294967296 - cell_size (20 + length sd)))) (at + 4) (le32 27507)) (at + 8)
      (le32 S ++ (le32 S ++ (le32 keys ++ le32 (length sd))))) (at + 24) sd) (at + 4 + (20 + length sd)) (pad (20 + length sd))
      ≡ sets l at (cell_bytes (item_bytes S keys sd))
  unfolding four-of
  item-put l at =
      let m = sets l at (le32 (4294967296 - cell_size (20 + length sd))) in
      let c = length-le32 27507 in
      let d = length-four S S keys (length sd) in
      ap (λ (y : List ℕ). sets y (at + 4 + (20 + length sd)) (pad (20 + length sd)))
      (join3 (le32 27507) four-of sd m (at + 4) (at + 8) (at + 24) (omega arith) (omega arith) ∙ ap (sets m (at + 4)) item-parts)
      ∙ cell-put (item_bytes S keys sd) l at (20 + length sd) (sym item-length)

-- ---- the free cell

pub free-none : (l : List ℕ) (at n : ℕ) → n ≡ 0 → l ≡ sets l at (free_bytes n)
unfolding free_bytes
free-none l at n e = rw e

pub free-put : (l : List ℕ) (at n : ℕ) → (n ≡ 0 → ⊥) → sets (sets l at (le32 n)) (at + 4) (zeros (n - 4)) ≡ sets l at (free_bytes n)
unfolding free_bytes
free-put l at zero p = absurd (p refl)
free-put l at (suc n) p = let e = length-le32 (suc n) in join2 (le32 (suc n)) (zeros (suc n - 4)) l at (at + 4) (omega arith)

-- ---- the bin header

header-parts : (stamp size : ℕ)
    → (le32 1852400232 ++ (le32 0 ++ (le32 size ++ le32 0))) ++ (le32 0 ++ (le64 stamp ++ le32 0)) ≡ header_bytes stamp size
unfolding header_bytes le64 le32 le16
header-parts stamp size = refl

pub header-put : (l : List ℕ) (stamp size : ℕ)
    → sets (sets (sets (sets l 4096 (le32 1852400232 ++ (le32 0 ++ (le32 size ++ le32 0)))) 4112 (le32 0)) 4116 (le64 stamp)) 4124 (le32 0)
    ≡ sets l 4096 (header_bytes stamp size)
header-put l stamp size =
    let a = length-four 1852400232 0 size 0 in
    let b = length-le32 0 in
    let c = length-le64 stamp in
    join4 (le32 1852400232 ++ (le32 0 ++ (le32 size ++ le32 0))) (le32 0) (le64 stamp) (le32 0) l 4096 4112 4116 4124 (omega arith) (omega arith) (omega arith)
    ∙ ap (sets l 4096) (header-parts stamp size)

-- ---- the base block

front-parts : (stamp size : ℕ)
    → le32 1718052210 ++ ((le32 1 ++ le32 1) ++ (le64 stamp ++ ((le32 1 ++ (le32 5 ++ (le32 0 ++ le32 1))) ++ ((le32 32 ++ le32 size) ++ (le32 1 ++ zeros 460)))))
    ≡ front_bytes stamp size
unfolding front_bytes le64 le32 le16
front-parts stamp size = refl

pub front-put : (l : List ℕ) (stamp size : ℕ)
    → sets (sets (sets (sets (sets (sets (sets l 0 (le32 1718052210)) 4 (le32 1 ++ le32 1)) 12 (le64 stamp)) 20 (le32 1 ++ (le32 5 ++ (le32 0 ++ le32 1)))) 36
    (le32 32 ++ le32 size)) 44 (le32 1)) 48 (zeros 460)
    ≡ sets l 0 (front_bytes stamp size)
front-put l stamp size =
    let a = length-le32 1718052210 in
    let b = length_two 1 1 in
    let c = length-le64 stamp in
    let d = length-four 1 5 0 1 in
    let e = length_two 32 size in
    let f = length-le32 1 in
    join6 (le32 1 ++ le32 1) (le64 stamp) (le32 1 ++ (le32 5 ++ (le32 0 ++ le32 1))) (le32 32 ++ le32 size) (le32 1) (zeros 460) (sets l 0 (le32 1718052210))
    4 12 20 36 44 48 (omega arith) (omega arith) (omega arith) (omega arith) (omega arith)
    ∙ join2 (le32 1718052210) _ l 0 4 (omega arith)
    ∙ ap (sets l 0) (front-parts stamp size)

pub front_length : (stamp size : ℕ) → length (front_bytes stamp size) ≡ 508
unfolding front_bytes le64 le32 le16
front_length stamp size = let z = zeros-length 460 in omega arith

-- the checksum is that of the bytes before it, whatever stands behind them
pub sum_is : (l x : List ℕ) → length x ≡ 508 → 508 ≤ length l → stored_checksum (sets l 0 x) ≡ stored_checksum x
sum_is l x e p = checksum-same (sets l 0 x) x word
  where
    front : take 508 (sets l 0 x) ≡ x
    front =
        let s = sets-eq x l 0 (omega arith) in
        ap (take 508) s ∙ take_at x (drop (0 + length x) l) 508 e

    word : (k : ℕ) → k < 127 → u32_at (sets l 0 x) (k * 4) ≡ u32_at x (k * 4)
    word k h =
        let z : 0 + k * 4 ≡ k * 4 = omega arith in
        sym (ap (λ (y : List ℕ). u32_at y (k * 4)) (sym front) ∙ u32-part (sets l 0 x) 0 508 (k * 4) (omega arith) ∙ ap (u32_at (sets l 0 x)) z)

pub base-put : (l : List ℕ) (stamp size sum : ℕ) → 508 ≤ length l → sum ≡ stored_checksum (sets l 0 (front_bytes stamp size))
    → sets (sets (sets l 0 (front_bytes stamp size)) 508 (le32 sum)) 512 (zeros 3584) ≡ sets l 0 (base_bytes stamp size)
unfolding base_bytes
base-put l stamp size sum p e =
    let a = front_length stamp size in
    let b = length-le32 sum in
    join3 (front_bytes stamp size) (le32 sum) (zeros 3584) l 0 508 512 (omega arith) (omega arith)
    ∙ ap (λ (k : ℕ). sets l 0 (front_bytes stamp size ++ (le32 k ++ zeros 3584))) (e ∙ sum_is l (front_bytes stamp size) a p)
