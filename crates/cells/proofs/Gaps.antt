-- The free cells of bins that are tiled, and the positions of one: what a turn of `next_free` keeps, and one of `next_with`.
use Prim.Native.Nat.{ℕ, ◌+◌, ◌-◌, ◌%◌, ◌≤◌, ◌<◌}
use native.Mathlib.Omega.{arith}
use mathlib.Core.Path.{◌≡◌, refl, sym, ap, ◌∙◌, subst}
use mathlib.Core.Bool.{Bool, true, false}
use mathlib.Core.Logic.{inl, inr, ⊎_elim}
use mathlib.Core.List.{List, [], ◌∷◌, ◌++◌}
use lib.Dec.{ltb}
use lib.ListN.{length, get_or}
use lib.Seq.{get_or-take, get_or-drop}
use borrow.Author.Tests.{lt-ltb, le-ltb, ltb-true, ltb-false}
use Rattle.fields.specs.Number.{u32_at, size_at}
use Rattle.cells.specs.Tiling.{layout}
use Rattle.cells.specs.Tiled.{Good, CellsTile, cells-end, cell-on, Header, BinsTile, bins-end, bin-on}
use Rattle.cells.proofs.Steps.{of-good, done, step}
use Rattle.cells.proofs.Turns.{done as bins-done, step as bins-step}
use Rattle.cells.proofs.Tiles.{of-header, of-header-some}
use Rattle.cells.specs.declared.Gap.{Gap}
use Rattle.cells.specs.Free.{Span, free_in, free_cells}
use Rattle.cells.specs.Named.{data_to}
use Rattle.cells.specs.Terms.{Bin, Without, Stands, free_from, gap_of, NextFree}

abbrev gap : ℕ → ℕ → ℕ → Gap
gap at end bin = record { at = at; end = end; bin = bin }

-- the free cell from an offset to another, and none
pub gap-some : {at end : ℕ} → at < end → gap_of at end ≡ record { from = at; to = end } ∷ []
unfolding gap_of
gap-some {at} {end} lt = rw (lt-ltb at end lt)

pub gap-none : (at : ℕ) → gap_of at at ≡ []
unfolding gap_of
gap-none at = rw (le-ltb at at (omega arith))

module _ (d : List ℕ) where
  -- what is left, by what comes next: a bin, a cell in use, a free cell, nothing
  free-bin : {at n : ℕ} → Header d at n → free_from d at at ≡ free_from d (at + 32) (at + n)
  unfolding free_from free_in free_cells
  free-bin {at} {n} h =
      rw (done d at at (omega arith), bins-step d at (omega (arith, h.some, h.inside)) (of-header-some d h), of-header d h)

  free-used : {cell bin : ℕ} → cell < bin → Good (size_at d cell).bytes (bin - cell) → (size_at d cell).used ≡ true
      → free_from d cell bin ≡ free_from d (cell + (size_at d cell).bytes) bin
  unfolding free_from free_in
  free-used {cell} {bin} lt g u = rw (step d cell bin lt (of-good g), u)

  free_one : {cell bin : ℕ} → cell < bin → Good (size_at d cell).bytes (bin - cell) → (size_at d cell).used ≡ false
      → free_from d cell bin ≡ gap_of cell (cell + (size_at d cell).bytes) ++ free_from d (cell + (size_at d cell).bytes) bin
  unfolding free_from free_in
  free_one {cell} {bin} lt g u = rw (gap-some (past g), step d cell bin lt (of-good g), u)
    where
      past : Good (size_at d cell).bytes (bin - cell) → cell < cell + (size_at d cell).bytes
      past g = omega (arith, g.some)

  pub free-end : free_from d (length d) (length d) ≡ []
  unfolding free_from free_in free_cells
  free-end = rw (done d (length d) (length d) (omega arith), bins-done d (length d) (omega arith))

  -- all of them, from the start on
  pub free-start : free_from d 0 0 ≡ free_cells (layout d 0)
  unfolding free_from free_in
  free-start = rw (done d 0 0 (omega arith))

  -- the next bin
  pub record NextBin (at n : ℕ) : Type 0 where
    pub header : Header d at n
    pub cells : CellsTile d (at + n) (at + 32)
    pub bins : BinsTile d (at + n)

  next-bin : {at : ℕ} → at < length d → BinsTile d at → NextBin at (u32_at d (at + 8))
  next-bin {at} lt (bins-end e) = absurd (omega arith)
  next-bin {at} lt (bin-on n h t b) = subst (λ (k : ℕ). NextBin at k) (sym h.size) (record { header = h; cells = t; bins = b })

  -- the next cell
  pub record NextCell (at end : ℕ) : Type 0 where
    pub good : Good (size_at d at).bytes (end - at)
    pub cells : CellsTile d end (at + (size_at d at).bytes)

  next-cell : {at end : ℕ} → at < end → CellsTile d end at → NextCell at end
  next-cell lt cells-end = absurd (omega arith)
  next-cell lt (cell-on l g t) = record { good = g; cells = t }

  -- a turn
  module _ {cell bin : ℕ} (s : Stands d cell bin) (lt : cell < length d) where
    pub bin-size : cell ≡ bin → NextBin bin (u32_at d (bin + 8))
    bin-size e = next-bin (omega arith) s.bins

    pub turn-bin : cell ≡ bin → Stands d (bin + 32) (bin + u32_at d (bin + 8))
    turn-bin e =
        let b = bin-size e in
        let h = b.header in
        record {
          cells = b.cells;
          bins = b.bins;
          eights = omega (arith, s.pages);
          pages = omega (arith, s.pages, h.pages);
          order = omega (arith, h.some, h.pages);
          inside = h.inside;
          small = s.small;
        }

    pub same_bin : cell ≡ bin → free_from d cell bin ≡ free_from d (bin + 32) (bin + u32_at d (bin + 8))
    same_bin e = ap (λ (x : ℕ). free_from d x bin) e ∙ free-bin (bin-size e).header

    module _ (ne : cell ≡ bin → ⊥) where
      before-end : cell < bin
      before-end = let o = s.order in le-ne cell bin o ne
        where
          le-ne : (a b : ℕ) → a ≤ b → (a ≡ b → ⊥) → a < b
          le-ne a b p q = omega arith

      pub cell-size : NextCell cell bin
      cell-size = next-cell before-end s.cells

      pub turn-cell : Stands d (cell + (size_at d cell).bytes) bin
      turn-cell =
          let c = cell-size in
          let g = c.good in
          record {
            cells = c.cells;
            bins = s.bins;
            eights = omega (arith, s.eights, g.eights);
            pages = s.pages;
            order = omega (arith, s.order, g.inside);
            inside = s.inside;
            small = s.small;
          }

      pub same-used : (size_at d cell).used ≡ true → free_from d cell bin ≡ free_from d (cell + (size_at d cell).bytes) bin
      same-used u = free-used before-end cell-size.good u

      pub at-free : (size_at d cell).used ≡ false → NextFree d cell bin (gap cell (cell + (size_at d cell).bytes) bin)
      at-free u =
          let g = cell-size.good in
          record {
            low = omega arith;
            order = omega arith;
            eights = s.eights;
            stands = turn-cell;
            same = free_one before-end g u;
            more = inl (omega (arith, g.some));
          }

  -- the end
  pub at-end : {cell bin : ℕ} → Stands d cell bin → length d ≤ cell → NextFree d cell bin (gap cell cell bin)
  at-end {cell} {bin} s le =
      let e : cell ≡ length d = omega (arith, s.order, s.inside) in
      record {
        low = omega arith;
        order = omega arith;
        eights = s.eights;
        stands = s;
        same = sym (ap (λ (l : List Span). l ++ free_from d cell bin) (gap-none cell));
        more = inr e;
      }

  -- what comes first is passed on
  pub farther : {cell bin cell' bin' : ℕ} {r : Gap} → cell ≤ cell' → free_from d cell bin ≡ free_from d cell' bin'
      → NextFree d cell' bin' r → NextFree d cell bin r
  farther {cell} {bin} {cell'} {bin'} {r} p e f =
      record {
        low = omega (arith, f.low);
        order = f.order;
        eights = f.eights;
        stands = f.stands;
        same = e ∙ f.same;
        more = ⊎_elim (λ h. inl (omega arith)) (λ h. inr h) f.more;
      }

-- positions without a byte
module _ {d : List ℕ} {at end i : ℕ} (bin : Bin d at end) (small : i < 4) (b : ℕ) where
  pub without-start : Without d at end i b at
  without-start =
      record { low = omega arith; high = bin.order; eights = bin.eights; none = λ o p q e w. absurd (omega arith) }

  module _ {o : ℕ} (w : Without d at end i b o) (lt : o < end) where
    pub with-room : o + 8 ≤ end
    with-room = omega (arith, w.eights, bin.ends)

    byte-is : get_or (data_to d o end) i 0 ≡ get_or d (o + 4 + i) 0
    byte-is =
        let r = with-room in
        let q : i < end - (o + 4) = omega arith in
        get_or-take (end - (o + 4)) _ i 0 q ∙ get_or-drop (o + 4) d i 0

    pub without_on : (get_or d (o + 4 + i) 0 ≡ b → ⊥) → Without d at end i b (o + 8)
    without_on ne =
        record { low = omega (arith, w.low); high = with-room; eights = omega (arith, w.eights); none = λ k p q e r. by k p q e r (ltb k o) refl }
      where
        by : (k : ℕ) → at ≤ k → k < o + 8 → k % 8 ≡ 0 → get_or (data_to d k end) i 0 ≡ b → (t : Bool) → ltb k o ≡ t → ⊥
        by k p q e r true x = w.none k p (ltb-true k o x) e r
        by k p q e r false x =
            let s : k ≡ o = omega (arith, ltb-false k o x, w.eights) in
            ne (sym byte-is ∙ ap (λ (j : ℕ). get_or (data_to d j end) i 0) (sym s) ∙ r)
