-- The free cells of the walk are those of the bins: each lies inside one bin, apart from all cells in use, and they ascend.
use Prim.Native.Nat.{ℕ, zero, suc, ◌+◌, ◌-◌, ◌%◌, ◌≤◌, ◌<◌}
use native.Mathlib.Omega.{arith}
use mathlib.Core.Path.{◌≡◌, refl, sym, subst}
use mathlib.Core.Bool.{Bool, true, false, cond}
use mathlib.Core.Logic.{◌⊎◌, inl, inr, ◌↔◌, ⊎_elim}
use mathlib.Core.List.Memᴰ
use mathlib.Core.List.{List, [], ◌∷◌, ◌++◌, Memᴰ}
use lib.Dec.{ltb, eqb}
use lib.ListN.{length}
use borrow.Author.Tests.{ltb-true, ltb-false, eqb-true, eqb-false}
use Rattle.fields.specs.declared.Offset.{Offset}
use Rattle.fields.specs.Number.{size_at}
use Rattle.fields.proofs.Bools.{never}
use Rattle.cells.specs.Tiling.{good_size, tiling, tiling_n, bin_size, layout, layout_n}
use Rattle.cells.specs.Tiled.{Good, Header, InCells, this-cell, later-cell, InBins, this-bin, later-bin, InUse}
use Rattle.cells.specs.Free.{Span, free_in, free_cells, FreeCell, this-free, later-free, FreeBin, in-bin, past-bin}
use Rattle.cells.proofs.Steps.{good, of-good, done, fault, step, at_n, fault_n, step_n_lem}
use Rattle.cells.proofs.Turns.{sized, done as bins-done, fault as bins-fault, step as bins-step, at_n as bins-at_n, fault_n as bins-fault_n, step_n_lem as bins-step_n}
use Rattle.cells.proofs.Tiles.{header_of, of-header, of-header-some, cell_in, in-bin as used-in-bin, same_size}

-- where a free cell lies
pub record Lies (d : List ℕ) (low high o : ℕ) : Type 0 where
  pub after : low ≤ o
  pub before : o + (size_at d o).bytes ≤ high
  pub some : 0 < (size_at d o).bytes
  pub whole : (size_at d o).bytes % 8 ≡ 0
  pub eights : o % 8 ≡ 0

abbrev pub the-span : ℕ → ℕ → Span
the-span o n = record { from = o; to = o + n }

-- one ends where the other starts, or before
abbrev pub Apart : List ℕ → ℕ → ℕ → Type 0
Apart d u o = (u + (size_at d u).bytes ≤ o) ⊎ (o + (size_at d o).bytes ≤ u)

-- one ends before the next starts, from an offset on and up to another
pub data Spread : ℕ → ℕ → List Span → Type 0 where
  spread_end : {low high : ℕ} → low ≤ high → Spread low high []
  spread-on : {low high : ℕ} {s : Span} {ss : List Span} → low ≤ s.from → s.from ≤ s.to → Spread s.to high ss → Spread low high (s ∷ ss)

lower : {low low' high : ℕ} {ss : List Span} → low' ≤ low → Spread low high ss → Spread low' high ss
lower {low} {low'} {high} p (spread_end q) = let r : low' ≤ high = omega arith in spread_end r
lower {low} {low'} {high} p (spread-on {s = s} a b t) = let r : low' ≤ s.from = omega arith in spread-on r b t

joined : {low mid high : ℕ} {ss ts : List Span} → Spread low mid ss → Spread mid high ts → Spread low high (ss ++ ts)
joined (spread_end p) t = lower p t
joined (spread-on a b s) t = spread-on a b (joined s t)

module _ (d : List ℕ) where
  pub cell_lies : {end o at : ℕ} → at % 8 ≡ 0 → FreeCell d end o at → Lies d at end o
  cell_lies a (this-free lt g u) =
      record { after = omega arith; before = omega (arith, g.inside); some = g.some; whole = g.eights; eights = a }
  cell_lies a (later-free lt g s) =
      let c = cell_lies (omega (arith, g.eights)) s in
      record { after = omega (arith, c.after); before = c.before; some = c.some; whole = c.whole; eights = c.eights }

  bin-lies : {o at : ℕ} → at % 4096 ≡ 0 → FreeBin d o at → Lies d at (length d) o
  bin-lies {at = at} a (in-bin n h c) =
      let i = cell_lies (omega arith) c in
      record { after = omega (arith, i.after); before = omega (arith, i.before, h.inside); some = i.some; whole = i.whole; eights = i.eights }
  bin-lies a (past-bin n h b) =
      let i = bin-lies (omega (arith, h.pages)) b in
      record { after = omega (arith, i.after); before = i.before; some = i.some; whole = i.whole; eights = i.eights }

  pub free-lies : {o : ℕ} → FreeBin d o 0 → Lies d 0 (length d) o
  free-lies b = bin-lies refl b

  -- the free cells of the walk are those of the bins
  cells_free : {end o at : ℕ} → FreeCell d end o at → Memᴰ (the-span o (size_at d o).bytes) (free_in (tiling d at end))
  unfolding free_in
  cells_free {end = end} {o = o} {at = at} (this-free lt g u) = rw (step d o end lt (of-good g), u) (Memᴰ.head refl)
  cells_free {end = end} {o = o} {at = at} (later-free lt g s) = rw (step d at end lt (of-good g)) (by (size_at d at).used (cells_free s))
    where
      by : (u : Bool) → Memᴰ (the-span o (size_at d o).bytes) (free_in (tiling d (at + (size_at d at).bytes) end))
          → Memᴰ (the-span o (size_at d o).bytes)
          (cond u (free_in (tiling d (at + (size_at d at).bytes) end)) (the-span at (size_at d at).bytes ∷ free_in (tiling d (at + (size_at d at).bytes) end)))
      by true m = m
      by false m = Memᴰ.tail m

  bins-free : {o at : ℕ} → FreeBin d o at → Memᴰ (the-span o (size_at d o).bytes) (free_cells (layout d at))
  unfolding free_cells
  bins-free {o = o} {at = at} (in-bin n h c) =
      rw (bins-step d at (omega (arith, h.some, h.inside)) (of-header-some d h), of-header d h) (Memᴰ.append_left (free_cells (layout d (at + n))) (cells_free c))
  bins-free {o = o} {at = at} (past-bin n h b) =
      rw (bins-step d at (omega (arith, h.some, h.inside)) (of-header-some d h), of-header d h) (Memᴰ.append_right (free_in (tiling d (at + 32) (at + n))) (bins-free b))

  -- a span is that of a free cell
  pub record IsFree (free : ℕ → Type 0) (s : Span) : Type 0 where
    pub at-start : free s.from
    pub ends : s.to ≡ s.from + (size_at d s.from).bytes

  free-cells : (k at end : ℕ) (s : Span) → end - at ≤ k → Memᴰ s (free_in (tiling d at end)) → IsFree (λ o. FreeCell d end o at) s
  unfolding free_in
  free-cells zero at end s p m = absurd (Memᴰ.not-nil (rw (done d at end (omega arith)) at m))
  free-cells (suc k) at end s p m =
      by (ltb at end) refl (good_size n (end - at)) refl (λ lt g r. free-cells k (at + n) end s (omega (arith, g.some)) r)
    where
      n : ℕ
      n = (size_at d at).bytes

      later : at < end → Good n (end - at) → IsFree (λ o. FreeCell d end o (at + n)) s → IsFree (λ o. FreeCell d end o at) s
      later lt g f = record { at-start = later-free lt g f.at-start; ends = f.ends }

      this : at < end → Good n (end - at) → (size_at d at).used ≡ false → s ≡ the-span at n → IsFree (λ o. FreeCell d end o at) s
      this lt g u e = subst (λ (t : Span). IsFree (λ o. FreeCell d end o at) t) (sym e) (record { at-start = this-free lt g u; ends = refl })

      pick : (u : Bool) → (size_at d at).used ≡ u → at < end → Good n (end - at)
          → (Memᴰ s (free_in (tiling d (at + n) end)) → IsFree (λ o. FreeCell d end o (at + n)) s)
          → Memᴰ s (cond u (free_in (tiling d (at + n) end)) (the-span at n ∷ free_in (tiling d (at + n) end))) → IsFree (λ o. FreeCell d end o at) s
      pick true u lt g ih m = later lt g (ih m)
      pick false u lt g ih m = ⊎_elim (λ e. this lt g u e) (λ q. later lt g (ih q)) (Memᴰ.cases_cons m)

      by : (t : Bool) → ltb at end ≡ t → (g : Bool) → good_size n (end - at) ≡ g
          → (at < end → Good n (end - at) → Memᴰ s (free_in (tiling d (at + n) end)) → IsFree (λ o. FreeCell d end o (at + n)) s)
          → IsFree (λ o. FreeCell d end o at) s
      by false x g y ih = absurd (Memᴰ.not-nil (rw (done d at end (ltb-false at end x)) at m))
      by true x false y ih = absurd (Memᴰ.not-nil (rw (fault d at end (ltb-true at end x) y) at m))
      by true x true y ih =
          let lt = ltb-true at end x in
          let g = good n (end - at) y in
          pick (size_at d at).used refl lt g (ih lt g) (rw (step d at end lt y) at m)

  free-bins : (k at : ℕ) (s : Span) → length d - at ≤ k → Memᴰ s (free_cells (layout d at)) → IsFree (λ o. FreeBin d o at) s
  unfolding free_cells
  free-bins zero at s p m = absurd (Memᴰ.not-nil (rw (bins-done d at (omega arith)) at m))
  free-bins (suc k) at s p m = by (ltb at (length d)) refl (eqb n 0) refl (λ h r. free-bins k (at + n) s (omega (arith, h.some)) r)
    where
      n : ℕ
      n = bin_size d at

      here : Header d at n → Memᴰ s (free_in (tiling d (at + 32) (at + n))) → IsFree (λ o. FreeBin d o at) s
      here h q =
          let f = free-cells (at + n) (at + 32) (at + n) s (omega arith) q in
          record { at-start = in-bin n h f.at-start; ends = f.ends }

      past : Header d at n → IsFree (λ o. FreeBin d o (at + n)) s → IsFree (λ o. FreeBin d o at) s
      past h f = record { at-start = past-bin n h f.at-start; ends = f.ends }

      by : (t : Bool) → ltb at (length d) ≡ t → (z : Bool) → eqb n 0 ≡ z
          → (Header d at n → Memᴰ s (free_cells (layout d (at + n))) → IsFree (λ o. FreeBin d o (at + n)) s) → IsFree (λ o. FreeBin d o at) s
      by false x z e ih = absurd (Memᴰ.not-nil (rw (bins-done d at (ltb-false at (length d) x)) at m))
      by true x true e ih = absurd (Memᴰ.not-nil (rw (bins-fault d at (ltb-true at (length d) x) (eqb-true n 0 e)) at m))
      by true x false e ih =
          let lt = ltb-true at (length d) x in
          let h = header_of d at (eqb-false n 0 e) lt in
          ⊎_elim (here h) (λ q. past h (ih h q))
          (Memᴰ.append_cases (free_in (tiling d (at + 32) (at + n))) (rw (bins-step d at lt (eqb-false n 0 e)) at m))

  pub free-exactly : (s : Span) → Memᴰ s (free_cells (layout d 0)) ↔ IsFree (λ o. FreeBin d o 0) s
  free-exactly s = (free-bins (length d) 0 s (omega arith), λ f. of-free f)
    where
      of-free : IsFree (λ o. FreeBin d o 0) s → Memᴰ s (free_cells (layout d 0))
      of-free f = subst (λ (e : ℕ). Memᴰ (record { from = s.from; to = e }) (free_cells (layout d 0))) (sym f.ends) (bins-free f.at-start)

  -- no cell in use reaches into a free one
  cells-apart : {end u o at : ℕ} → at % 8 ≡ 0 → InCells d end u at → FreeCell d end o at → Apart d u o
  cells-apart a (this-cell l g s) (this-free l' g' s') = absurd (never _ s s')
  cells-apart a (this-cell l g s) (later-free l' g' f) = inl (cell_lies (omega (arith, g.eights)) f).after
  cells-apart a (later-cell l g c) (this-free l' g' s) = inr (cell_in d (omega (arith, g.eights)) c).after
  cells-apart a (later-cell l g c) (later-free l' g' f) = cells-apart (omega (arith, g.eights)) c f

  bins-apart : {u o at : ℕ} → at % 4096 ≡ 0 → InBins d u at → FreeBin d o at → Apart d u o
  bins-apart {u = u} {o = o} {at = at} a (this-bin n h c) (in-bin n' h' f) =
      cells-apart (omega arith) c (subst (λ (k : ℕ). FreeCell d (at + k) o (at + 32)) (same_size d h' h) f)
  bins-apart a (this-bin n h c) (past-bin n' h' f) =
      let e = same_size d h h' in
      let l = bin-lies (omega (arith, h'.pages)) f in
      inl (omega (arith, (cell_in d (omega arith) c).before, l.after))
  bins-apart a (later-bin n h b) (in-bin n' h' f) =
      let e = same_size d h h' in
      let l = cell_lies (omega arith) f in
      inr (omega (arith, (used-in-bin d (omega (arith, h.pages)) b).1, l.before))
  bins-apart {u = u} {o = o} {at = at} a (later-bin n h b) (past-bin n' h' f) =
      bins-apart (omega (arith, h.pages)) b (subst (λ (k : ℕ). FreeBin d o (at + k)) (same_size d h' h) f)

  pub free-apart : (u : Offset) {o : ℕ} → InUse d u → FreeBin d o 0 → Apart d u.0 o
  free-apart u i f = bins-apart refl i f

  -- they ascend
  tiling-spread : (k at end : ℕ) → at ≤ end → Spread at end (free_in (tiling_n k d at end))
  unfolding tiling_n free_in
  tiling-spread zero at end p = spread_end p
  tiling-spread (suc k) at end p =
      by (ltb at end) refl (good_size n (end - at)) refl (size_at d at).used refl (λ g lt. tiling-spread k (at + n) end (omega (arith, g.inside)))
    where
      n : ℕ
      n = (size_at d at).bytes

      by : (t : Bool) → ltb at end ≡ t → (g : Bool) → good_size n (end - at) ≡ g → (u : Bool) → (size_at d at).used ≡ u
          → (Good n (end - at) → at < end → Spread (at + n) end (free_in (tiling_n k d (at + n) end))) → Spread at end (free_in (tiling_n (suc k) d at end))
      by false x g y u z ih = rw (at_n (suc k) d at end (ltb-false at end x)) (spread_end p)
      by true x false y u z ih = rw (fault_n k d at end (ltb-true at end x) y) (spread_end p)
      by true x true y true z ih =
          let a : at ≤ at + n = omega arith in
          rw (step_n_lem k d at end (ltb-true at end x) y, z) (lower a (ih (good n (end - at) y) (ltb-true at end x)))
      by true x true y false z ih =
          let a : at ≤ at + n = omega arith in
          let b : at ≤ at = omega arith in
          rw (step_n_lem k d at end (ltb-true at end x) y, z) (spread-on b a (ih (good n (end - at) y) (ltb-true at end x)))

  layout-spread : (k at : ℕ) → at ≤ length d → Spread at (length d) (free_cells (layout_n k d at))
  unfolding layout_n free_cells tiling
  layout-spread zero at p = spread_end p
  layout-spread (suc k) at p = by (ltb at (length d)) refl (eqb n 0) refl (λ lt. layout-spread k (at + n) (omega (arith, (sized d at).inside)))
    where
      n : ℕ
      n = bin_size d at

      by : (t : Bool) → ltb at (length d) ≡ t → (z : Bool) → eqb n 0 ≡ z
          → (at < length d → Spread (at + n) (length d) (free_cells (layout_n k d (at + n)))) → Spread at (length d) (free_cells (layout_n (suc k) d at))
      by false x z e ih = rw (bins-at_n (suc k) d at (ltb-false at (length d) x)) (spread_end p)
      by true x true e ih = rw (bins-fault_n k d at (ltb-true at (length d) x) (eqb-true n 0 e)) (spread_end p)
      by true x false e ih =
          let lt = ltb-true at (length d) x in
          let ne = eqb-false n 0 e in
          let a : at + 32 ≤ at + n = omega (arith, (sized d at).pages) in
          let b : at ≤ at + 32 = omega arith in
          rw (bins-step_n k d at lt ne) (joined (lower b (tiling-spread (at + n - (at + 32)) (at + 32) (at + n) a)) (ih lt))

  pub free-spread : Spread 0 (length d) (free_cells (layout d 0))
  unfolding layout
  free-spread = layout-spread (length d - 0) 0 (omega arith)
