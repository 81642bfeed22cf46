-- The bins data of a built hive: one bin, which its cells tile, and each cell of the forest stands where the forest says, in use and with its data.
use Prim.Native.Nat.{ℕ, ◌+◌, ◌-◌, ◌≤◌}
use native.Mathlib.Omega.{arith}
use mathlib.Core.Path.{◌≡◌, refl, sym, ap, ◌∙◌, subst}
use mathlib.Core.Bool.{true}
use mathlib.Core.List.{List, [], ◌∷◌, ◌++◌, append_assoc, append-nil}
use lib.ListN.{length, take, length-append}
use lib.Seq.{take-append_seam}
use Rattle.fields.specs.Number.{u16_at, u32_at, le16, le32}
use Rattle.fields.specs.Bytes.{stands_at}
use Rattle.fields.proofs.Little.{u32-le}
use Rattle.fields.proofs.Written.{stands-there}
use Rattle.base.specs.Block.{bins_limit}
use Rattle.cells.specs.Tiling.{layout, survey_of}
use Rattle.cells.specs.Named.{data_at}
use Rattle.cells.specs.Tiled.{Header, CellsTile, BinsTile, InCells, InUse}
use Rattle.cells.proofs.Written.{Counts, one-bin, in-one-bin}
use Rattle.forest.specs.Forest.{Forest}
use Rattle.layout.specs.Layout.{cell_size, pad_of, cell_bytes, row_bytes, row_size, cells_of, nothing, item_at, used_of, bins_for, item_record, free_bytes, bin_header, bins_of}
use Rattle.layout.proofs.Sizes.{row-length, row-append, bytes-append, cells-size, item-length, bins-whole, left-eights}
use Rattle.layout.proofs.Base.{header-length, bins-length}
use Rattle.layout.proofs.Rows.{row_counts, row-there, free-counts}
use Rattle.layout.proofs.Splits.{Split, Part, split-here, split-left, split-right, part-all, part_left}
use Rattle.std.specs.Prelude.{Ok}

-- all cells in use: those of the forest, and the security item
abbrev pub row_of : Forest → List ℕ → List (List ℕ)
row_of f sd = cells_of f 32 nothing (item_at f) ++ (item_record f sd ∷ [])

-- the cell at an offset is in use, holds these data, and ends inside the bins data
pub record Placed (d : List ℕ) (o : ℕ) (x : List ℕ) : Type 0 where
  pub used : InUse d (record { 0 = o })
  pub holds : data_at d (record { 0 = o }) ≡ x ++ pad_of x
  pub ends : o + cell_size (length x) ≤ length d

module _ {d : List ℕ} {o : ℕ} {x : List ℕ} (c : Placed d o x) where
  pub placed-room : length x ≤ length (data_at d (record { 0 = o }))
  placed-room = let e = ap length c.holds in let a = length-append x (pad_of x) in omega arith

  pub placed-front : take (length x) (data_at d (record { 0 = o })) ≡ x
  placed-front = ap (take (length x)) c.holds ∙ take-append_seam x (pad_of x)

module _ (f : Forest) (sd : List ℕ) where
  pub row-size : 32 + row_size (row_of f sd) ≡ used_of f (length sd)
  unfolding row_size
  row-size =
      let a = row-append (cells_of f 32 nothing (item_at f)) (item_record f sd ∷ []) in
      let s = cells-size f 32 nothing (item_at f) in
      let i = ap cell_size (item-length f sd) in
      omega arith

  as_row : bins_of f sd ≡ bin_header f (length sd) ++ (row_bytes (row_of f sd) ++ free_bytes (bins_for f (length sd) - used_of f (length sd)))
  unfolding bins_of row_bytes
  as_row =
      let n = length sd in
      let cells = cells_of f 32 nothing (item_at f) in
      let item = cell_bytes (item_record f sd) in
      let free = free_bytes (bins_for f n - used_of f n) in
      let e : row_bytes (row_of f sd) ≡ row_bytes cells ++ item =
      bytes-append cells (item_record f sd ∷ []) ∙ ap (λ (t : List ℕ). row_bytes cells ++ t) (append-nil item) in
      ap (λ (t : List ℕ). bin_header f n ++ t) (sym (ap (λ (t : List ℕ). t ++ free) e ∙ append_assoc (row_bytes cells) item free))

  -- the cells of the forest, as a part of the row
  pub cells-part : Part (row_of f sd) 32 (cells_of f 32 nothing (item_at f)) 32
  cells-part = part_left (cells_of f 32 nothing (item_at f)) (item_record f sd ∷ []) (part-all (row_of f sd) 32)

  pub item-split : Split (row_of f sd) 32 (item_at f) (item_record f sd)
  item-split =
      split-right (cells_of f 32 nothing (item_at f)) (item_record f sd ∷ [])
      (ap (λ (n : ℕ). 32 + n) (sym (cells-size f 32 nothing (item_at f)))) (split-here (item_record f sd) [] (item_at f))

  header-hbin : stands_at (bins_of f sd) 0 (104 ∷ 98 ∷ 105 ∷ 110 ∷ []) ≡ true
  unfolding bins_of bin_header
  header-hbin = stands-there [] (104 ∷ 98 ∷ 105 ∷ 110 ∷ []) _

  header-own : u32_at (bins_of f sd) 4 ≡ 0
  unfolding bins_of bin_header le16 le32 u32_at u16_at
  header-own = refl

  module _ (fits : bins_for f (length sd) ≤ bins_limit) where
    header-size : u32_at (bins_of f sd) 8 ≡ bins_for f (length sd)
    unfolding bins_of bin_header le16 le32 u32_at u16_at
    header-size = u32-le [] (bins_for f (length sd)) (omega arith) []

    pub header : Header (bins_of f sd) 0 (length (bins_of f sd))
    header =
        let w = bins-whole f (length sd) in
        let l = bins-length f sd in
        record { hbin = header-hbin; own = header-own; size = header-size ∙ sym l; some = omega arith; pages = omega arith; inside = omega arith }

    counts : Counts (bins_of f sd) (length (bins_of f sd)) 32 (used_of f (length sd) - 32) (bins_for f (length sd) - used_of f (length sd))
    counts =
        let d = bins_of f sd in
        let n = length sd in
        let free = bins_for f n - used_of f n in
        let p = bin_header f n in
        let w = bins-whole f n in
        let l = bins-length f sd in
        let h = header-length f n in
        let r = row-size in
        let q = p ++ row_bytes (row_of f sd) in
        let e : d ≡ q ++ free_bytes free = as_row ∙ sym (append_assoc p (row_bytes (row_of f sd)) (free_bytes free)) in
        let k : length q ≡ length p + row_size (row_of f sd) =
        length-append p (row_bytes (row_of f sd)) ∙ ap (λ (m : ℕ). length p + m) (row-length (row_of f sd)) in
        let tail = free-counts d q free (length d) e (left-eights f n) (omega arith) (omega arith) in
        let row =
        row_counts d (length d) (row_of f sd) p (free_bytes free) as_row (omega arith) (omega arith) (subst (λ (at : ℕ). Counts d (length d) at 0 free) k tail) in
        let u : row_size (row_of f sd) + 0 ≡ used_of f n - 32 = omega arith in
        subst (λ (m : ℕ). Counts d (length d) 32 m free) u (subst (λ (m : ℕ). Counts d (length d) m (row_size (row_of f sd) + 0) free) h row)

    pub cells-tile : CellsTile (bins_of f sd) (length (bins_of f sd)) 32
    cells-tile = counts.tiles

    pub bins-tile : BinsTile (bins_of f sd) 0
    bins-tile = (one-bin (bins_of f sd) header counts).0

    pub bins-survey : survey_of (layout (bins_of f sd) 0) 0 0 0
        ≡ Ok (record { bins = 1; used = used_of f (length sd) - 32; free = bins_for f (length sd) - used_of f (length sd) })
    bins-survey = (one-bin (bins_of f sd) header counts).1

    -- every cell of the row stands where those before it end
    pub placed : {o : ℕ} {x : List ℕ} → Split (row_of f sd) 32 o x → Placed (bins_of f sd) o x
    unfolding row_size
    placed {o} {x} c =
        let d = bins_of f sd in
        let n = length sd in
        let p = bin_header f n in
        let free = free_bytes (bins_for f n - used_of f n) in
        let w = bins-whole f n in
        let l = bins-length f sd in
        let h = header-length f n in
        let r = row-size in
        let s = ap row_size c.row in
        let t = row-append c.before (x ∷ c.after) in
        let a = c.off in
        let there =
        row-there d (length d) c.before x c.after p free
        (as_row ∙ ap (λ (cs : List (List ℕ)). p ++ (row_bytes cs ++ free)) c.row) (omega arith) (omega arith) in
        let at : length p + row_size c.before ≡ o = omega arith in
        record {
          used = in-one-bin d header (subst (λ (m : ℕ). InCells d (length d) m 32) at (subst (λ (m : ℕ). InCells d (length d) (length p + row_size c.before) m) h there.starts));
          holds = subst (λ (m : ℕ). data_at d (record { 0 = m }) ≡ x ++ pad_of x) at there.holds;
          ends = omega arith;
        }

    pub item-placed : Placed (bins_of f sd) (item_at f) (item_record f sd)
    item-placed = placed item-split

    pub cell-placed : {o : ℕ} {x : List ℕ} → Split (cells_of f 32 nothing (item_at f)) 32 o x → Placed (bins_of f sd) o x
    cell-placed c = placed (split-left (cells_of f 32 nothing (item_at f)) (item_record f sd ∷ []) c)
