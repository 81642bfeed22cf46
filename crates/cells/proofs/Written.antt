-- Cells as they are written: what stands at an offset, its data, and the bytes in use and free bytes of cells that tile the one bin of a hive.
use Prim.Native.Nat.{ℕ, ◌+◌, ◌-◌, ◌≤◌, ◌<◌}
use native.Mathlib.Omega.{arith}
use mathlib.Core.Path.{◌≡◌, refl, sym, ap, ◌∙◌, subst}
use mathlib.Core.Bool.{true, false}
use mathlib.Core.List.{List, [], ◌∷◌, ◌++◌, append_assoc}
use lib.ListN.{length, take, drop, length-append}
use lib.Seq.{take_at, drop_at}
use Rattle.fields.specs.declared.Size.{Size}
use Rattle.fields.specs.Number.{u32_at, le32, size_at}
use Rattle.fields.proofs.Little.{length-le32, u32-le}
use Rattle.fields.proofs.Written.{size-used, size-free}
use Rattle.cells.specs.Tiling.{layout, survey_of}
use Rattle.cells.specs.Named.{data_at, data_of}
use Rattle.cells.specs.Tiled.{Good, CellsTile, cells-end, cell-on, Header, BinsTile, bins-end, bin-on, InCells, this-cell, later-cell, this-bin, InUse}
use Rattle.cells.specs.Counts.{cells_of, cells_in, bin_count, used_bytes, free_bytes}
use Rattle.cells.proofs.Tiles.{counts_same, used-append, free-append, survey-sums}
use Rattle.std.specs.Prelude.{Ok}

abbrev pub used_size : ℕ → Size
used_size n = record { used = true; bytes = n }

abbrev pub free_size : ℕ → Size
free_size n = record { used = false; bytes = n }

module _ (d : List ℕ) where
  -- a cell of n bytes in use, its data x, behind p; a free one
  module _ (p x s : List ℕ) (n : ℕ) (is : d ≡ p ++ (le32 (4294967296 - n) ++ (x ++ s))) (fills : 4 + length x ≡ n) (most : n ≤ 2147483648) where
    pub used-there : size_at d (length p) ≡ used_size n
    used-there =
        size-used d (length p) n
        (ap (λ (t : List ℕ). u32_at t (length p)) is ∙ u32-le p (4294967296 - n) (omega arith) (x ++ s)) (omega arith) most

    pub data-there : data_at d (record { 0 = length p }) ≡ x
    unfolding data_at data_of
    data-there =
        let w = le32 (4294967296 - n) in
        let long : length (p ++ w) ≡ length p + 4 = length-append p w ∙ ap (λ (k : ℕ). length p + k) (length-le32 (4294967296 - n)) in
        ap (λ (z : Size). take (z.bytes - 4) (drop (length p + 4) d)) used-there
        ∙ ap (λ (t : List ℕ). take (n - 4) (drop (length p + 4) t)) (is ∙ sym (append_assoc p w (x ++ s)))
        ∙ ap (take (n - 4)) (drop_at (p ++ w) (x ++ s) (length p + 4) long)
        ∙ take_at x s (n - 4) (omega arith)

  pub free-there : (p s : List ℕ) (n : ℕ) → d ≡ p ++ (le32 n ++ s) → n < 2147483648 → size_at d (length p) ≡ free_size n
  free-there p s n is most = size-free d (length p) n (ap (λ (t : List ℕ). u32_at t (length p)) is ∙ u32-le p n (omega arith) s) most

  -- cells tile a bin from an offset on, with so many bytes in use and so many free
  pub record Counts (end at used free : ℕ) : Type 0 where
    pub tiles : CellsTile d end at
    pub in_use : used_bytes (cells_of tiles) ≡ used
    pub spare : free_bytes (cells_of tiles) ≡ free

  pub counts_end : (end : ℕ) → Counts end end 0 0
  unfolding cells_of used_bytes free_bytes
  counts_end end = record { tiles = cells-end; in_use = refl; spare = refl }

  -- one more cell, by the size that its field says
  abbrev On : ℕ → ℕ → Size → Type 0
  On end at z = at < end → Good z.bytes (end - at) → (t : CellsTile d end (at + z.bytes)) → (r : CellsTile d end at) × (cells_of r ≡ z ∷ cells_of t)

  module _ {end at : ℕ} where
    one_on : On end at (size_at d at)
    unfolding cells_of
    one_on lt g t = (cell-on lt g t, refl)

    pub counts-used : {n used free : ℕ} → size_at d at ≡ used_size n → at < end → Good n (end - at)
        → Counts end (at + n) used free → Counts end at (n + used) free
    unfolding used_bytes free_bytes
    counts-used {n} e lt g c =
        let r = subst (On end at) e one_on lt g c.tiles in
        record {
          tiles = r.0;
          in_use = ap used_bytes r.1 ∙ ap (λ (k : ℕ). n + k) c.in_use;
          spare = ap free_bytes r.1 ∙ (let z = c.spare in omega arith);
        }

    pub counts-free : {n used free : ℕ} → size_at d at ≡ free_size n → at < end → Good n (end - at)
        → Counts end (at + n) used free → Counts end at used (n + free)
    unfolding used_bytes free_bytes
    counts-free {n} e lt g c =
        let r = subst (On end at) e one_on lt g c.tiles in
        record {
          tiles = r.0;
          in_use = ap used_bytes r.1 ∙ (let z = c.in_use in omega arith);
          spare = ap free_bytes r.1 ∙ ap (λ (k : ℕ). n + k) c.spare;
        }

    -- a cell in use here, or past a cell that stands here
    pub in-here : {n : ℕ} → size_at d at ≡ used_size n → at < end → Good n (end - at) → InCells d end at at
    in-here e lt g =
        this-cell lt (subst (λ (z : Size). Good z.bytes (end - at)) (sym e) g) (ap (λ (z : Size). z.used) e)

    pub in-later : {n o : ℕ} → size_at d at ≡ used_size n → at < end → Good n (end - at) → InCells d end o (at + n) → InCells d end o at
    in-later {n} {o} e lt g c =
        later-cell lt (subst (λ (z : Size). Good z.bytes (end - at)) (sym e) g)
        (subst (λ (z : Size). InCells d end o (at + z.bytes)) (sym e) c)

  -- one bin is the whole
  module _ (h : Header d 0 (length d)) where
    same_end : length d ≡ 0 + length d
    same_end = omega arith

    pub one-bin : {used free : ℕ} → Counts (length d) 32 used free
        → BinsTile d 0 × (survey_of (layout d 0) 0 0 0 ≡ Ok (record { bins = 1; used = used; free = free }))
    unfolding cells_in bin_count used_bytes free_bytes
    one-bin {used} {free} c =
        let k = subst (λ (e : ℕ). Counts e 32 used free) same_end c in
        let b : BinsTile d 0 = bin-on (length d) h k.tiles (bins-end (sym same_end)) in
        let u = k.in_use in
        let f = k.spare in (
          b,
          survey-sums d b 0 0 0
              ∙ ap Ok
              (counts_same (omega arith) (omega (arith, used-append (cells_of k.tiles) [])) (omega (arith, free-append (cells_of k.tiles) []))),
        )

    pub in-one-bin : {o : ℕ} → InCells d (length d) o 32 → InUse d (record { 0 = o })
    in-one-bin {o} c = this-bin (length d) h (subst (λ (e : ℕ). InCells d e o 32) same_end c)
