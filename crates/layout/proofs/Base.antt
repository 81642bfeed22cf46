-- The base block of a built hive is clean, and names its bins and its root.
use Prim.Native.Nat.{ℕ, ◌+◌, ◌-◌, ◌*◌, ◌≤◌, ◌<◌}
use native.Mathlib.Nat.{zero-add}
use native.Mathlib.Omega.{arith}
use mathlib.Core.Path.{◌≡◌, refl, sym, ap, ap₂, ◌∙◌}
use mathlib.Core.Bool.{true}
use mathlib.Core.List.{List, [], ◌∷◌, ◌++◌, append_assoc, append-nil}
use lib.Dec.{lit<}
use lib.ListN.{length, take, drop, length-append}
use lib.Seq.{take_at, drop_at, take_all}
use borrow.Author.Tests.{eq-eqb}
use Rattle.fields.specs.Number.{u16_at, u32_at, le16, le32, le64}
use Rattle.fields.proofs.Little.{length-le32, length-le64, u32-le}
use Rattle.fields.proofs.Written.{stands-there}
use Rattle.base.specs.Block.{sector, is_regf, stored_checksum, is_summed, is_version, bins_of as bins_in, bins_limit, is_bins_size, clean, minor_of, root_of, base_fault, bins_data}
use Rattle.base.proofs.Laws.{sized-bins, facts-clean, facts-base}
use Rattle.base.proofs.Sums.{checksum-below, checksum-same}
use Rattle.base.proofs.Tests.{by-clustering}
use Rattle.cells.proofs.Parts.{u32-part}
use Rattle.tree.specs.Tree.{hive_of}
use Rattle.forest.specs.Forest.{Forest}
use Rattle.layout.specs.Layout.{cell_size, zeros, cells_of, nothing, item_at, used_of, bins_for, item_record, bin_header, block_front, base_block, bins_of, built_hive}
use Rattle.layout.proofs.Bytes.{Small, small-cons, small-zeros, small_word, small-long}
use Rattle.layout.proofs.Sizes.{zeros-length, cell-length, row-length, cells-size, item-length, bins-whole, left-eights, free-length}
use Rattle.std.specs.Prelude.{Ok}

-- ---- lengths

module _ (f : Forest) (n : ℕ) where
  pub front_length : length (block_front f n) ≡ 508
  unfolding block_front
  front_length = let z = zeros-length 460 in simp (length-append, length-le32, length-le64) (omega arith)

  pub block-length : length (base_block f n) ≡ 4096
  unfolding base_block
  block-length = let z = zeros-length 3584 in let e = front_length in simp (length-append, length-le32) (omega arith)

  pub header-length : length (bin_header f n) ≡ 32
  unfolding bin_header
  header-length = simp (length-append, length-le32, length-le64)

module _ (f : Forest) (sd : List ℕ) where
  pub bins-length : length (bins_of f sd) ≡ bins_for f (length sd)
  unfolding bins_of
  bins-length =
      let n = length sd in
      let w = bins-whole f n in
      let h = header-length f n in
      let r = row-length (cells_of f 32 nothing (item_at f)) in
      let s = cells-size f 32 nothing (item_at f) in
      let i = cell-length (item_record f sd) ∙ ap cell_size (item-length f sd) in
      let l = free-length (bins_for f n - used_of f n) (left-eights f n) in
      simp length-append (omega arith)

  pub built-length : length (built_hive f sd) ≡ 4096 + bins_for f (length sd)
  unfolding built_hive
  built-length = length-append (base_block f (length sd)) (bins_of f sd) ∙ ap₂ ◌+◌ (block-length f (length sd)) bins-length

-- ---- the first sector

abbrev sum_bytes : Forest → ℕ → List ℕ
sum_bytes f n = le32 (stored_checksum (block_front f n))

abbrev first_sector : Forest → ℕ → List ℕ
first_sector f n = block_front f n ++ sum_bytes f n

module _ (f : Forest) (n : ℕ) where
  sector-length : length (first_sector f n) ≡ 512
  sector-length =
      length-append (block_front f n) (sum_bytes f n) ∙ ap₂ ◌+◌ (front_length f n) (length-le32 (stored_checksum (block_front f n)))

  front-small : Small (block_front f n)
  unfolding block_front
  front-small =
      small-cons (lit< tt) (small-cons (lit< tt) (small-cons (lit< tt) (small-cons (lit< tt)
      (small_word _ (small_word _ (small-long _ (small_word _ (small_word _ (small_word _ (small_word _ (small_word _ (small_word _ (small_word _
      (small-zeros 460))))))))))))))

  -- the checksum is of the words before it
  front-word : (k : ℕ) → k < 127 → u32_at (first_sector f n) (k * 4) ≡ u32_at (block_front f n) (k * 4)
  front-word k h =
      sym (ap (λ (t : List ℕ). u32_at t (k * 4)) (sym (take_at (block_front f n) (sum_bytes f n) 508 (front_length f n)))
      ∙ u32-part (first_sector f n) 0 508 (k * 4) (omega arith) ∙ ap (u32_at (first_sector f n)) (zero-add (k * 4)))

  summed : is_summed (first_sector f n) ≡ true
  summed =
      let sum = stored_checksum (block_front f n) in
      let there : u32_at (first_sector f n) 508 ≡ sum =
      ap₂ u32_at (ap (λ (t : List ℕ). block_front f n ++ t) (sym (append-nil (sum_bytes f n)))) (sym (front_length f n))
      ∙ u32-le (block_front f n) sum (checksum-below (block_front f n) front-small.each) [] in
      eq-eqb (u32_at (first_sector f n) 508) (stored_checksum (first_sector f n))
      (there ∙ sym (checksum-same (first_sector f n) (block_front f n) front-word))

  regf : is_regf (first_sector f n) ≡ true
  unfolding block_front
  regf = stands-there [] (114 ∷ 101 ∷ 103 ∷ 102 ∷ []) _

  -- its words, as they are written
  word-1 : u32_at (first_sector f n) 4 ≡ 1
  unfolding block_front le16 le32 u32_at u16_at
  word-1 = refl

  word-2 : u32_at (first_sector f n) 8 ≡ 1
  unfolding block_front le16 le32 u32_at u16_at
  word-2 = refl

  word-5 : u32_at (first_sector f n) 20 ≡ 1
  unfolding block_front le16 le32 le64 u32_at u16_at
  word-5 = refl

  word-6 : u32_at (first_sector f n) 24 ≡ 5
  unfolding block_front le16 le32 le64 u32_at u16_at
  word-6 = refl

  word-7 : u32_at (first_sector f n) 28 ≡ 0
  unfolding block_front le16 le32 le64 u32_at u16_at
  word-7 = refl

  word-8 : u32_at (first_sector f n) 32 ≡ 1
  unfolding block_front le16 le32 le64 u32_at u16_at
  word-8 = refl

  word-9 : u32_at (first_sector f n) 36 ≡ 32
  unfolding block_front le16 le32 le64 u32_at u16_at
  word-9 = refl

  word-10 : bins_for f n < 4294967296 → u32_at (first_sector f n) 40 ≡ bins_for f n
  unfolding block_front le16 le32 le64 u32_at u16_at
  word-10 h = u32-le [] (bins_for f n) h []

  word-11 : u32_at (first_sector f n) 44 ≡ 1
  unfolding block_front le16 le32 le64 u32_at u16_at
  word-11 = refl

  version : is_version (first_sector f n) 0 ≡ true
  version =
      let a = word-6 in
      by-clustering (first_sector f n) 0 word-5 (omega arith) (omega arith) word-7 word-8 ∙ eq-eqb (u32_at (first_sector f n) 44) 1 word-11

  module _ (fits : bins_for f n ≤ bins_limit) where
    bins : bins_in (first_sector f n) ≡ bins_for f n
    bins = word-10 (omega arith)

    sector-clean : clean (first_sector f n) ≡ true
    sector-clean =
        let w = bins-whole f n in
        facts-clean (first_sector f n) regf summed version
        (ap is_bins_size bins ∙ sized-bins (record { some = w.some; pages = w.pages; limit = fits }))
        (eq-eqb (u32_at (first_sector f n) 4) (u32_at (first_sector f n) 8) (word-1 ∙ sym word-2))

-- ---- the built hive

module _ (f : Forest) (sd : List ℕ) where
  sector-is : sector (built_hive f sd) ≡ first_sector f (length sd)
  unfolding built_hive base_block
  sector-is =
      let n = length sd in
      ap (take 512)
      (append_assoc (block_front f n) (sum_bytes f n ++ zeros 3584) (bins_of f sd)
      ∙ ap (λ (t : List ℕ). block_front f n ++ t) (append_assoc (sum_bytes f n) (zeros 3584) (bins_of f sd))
      ∙ sym (append_assoc (block_front f n) (sum_bytes f n) (zeros 3584 ++ bins_of f sd)))
      ∙ take_at (first_sector f n) (zeros 3584 ++ bins_of f sd) 512 (sector-length f n)

  pub built-minor : minor_of (sector (built_hive f sd)) ≡ 5
  built-minor = ap (λ (s : List ℕ). u32_at s 24) sector-is ∙ word-6 f (length sd)

  pub built-root : root_of (sector (built_hive f sd)) ≡ record { 0 = 32 }
  built-root = rw (sector-is, word-9 f (length sd))

  pub built-hive : hive_of (built_hive f sd) ≡ record { minor = 5; root = record { 0 = 32 } }
  built-hive = rw (sector-is, word-6 f (length sd), word-9 f (length sd))

  module _ (fits : bins_for f (length sd) ≤ bins_limit) where
    pub built-clean : clean (sector (built_hive f sd)) ≡ true
    built-clean = ap clean sector-is ∙ sector-clean f (length sd) fits

    pub built-bins : bins_in (sector (built_hive f sd)) ≡ bins_for f (length sd)
    built-bins = ap bins_in sector-is ∙ bins f (length sd) fits

    pub built-inside : 4096 + bins_in (sector (built_hive f sd)) ≡ length (built_hive f sd)
    built-inside = ap (λ (n : ℕ). 4096 + n) built-bins ∙ sym (built-length f sd)

    pub built-data : bins_data (built_hive f sd) ≡ bins_of f sd
    unfolding built_hive
    built-data =
        ap (λ (n : ℕ). take n (drop 4096 (built_hive f sd))) built-bins
        ∙ ap (take (bins_for f (length sd))) (drop_at (base_block f (length sd)) (bins_of f sd) 4096 (block-length f (length sd)))
        ∙ (let e = bins-length f sd in take_all (bins_for f (length sd)) (bins_of f sd) (omega arith))

    pub built-base : base_fault (built_hive f sd) ≡ Ok tt
    built-base = let e = built-inside in facts-base (built_hive f sd) built-clean (omega arith)
