-- The survey accepts exactly the bins data that bins and cells tile, and counts them; where a cell in use starts, and where it lies.
use Prim.Native.Nat.{ℕ, zero, suc, ◌+◌, ◌-◌, ◌*◌, ◌%◌, ◌≤◌, ◌<◌}
use native.Mathlib.Omega.{arith}
use mathlib.Core.Path.{◌≡◌, refl, sym, ap, ap₂, ◌∙◌, subst}
use mathlib.Core.Bool.{Bool, true, false, cond, ◌&&◌, ◌||◌}
use mathlib.Core.Logic.{◌⊎◌, inl, inr, ◌↔◌}
use mathlib.Core.List.{List, [], ◌∷◌, ◌++◌}
use lib.Dec.{eqb, leb, ltb}
use lib.ListN.{length}
use borrow.Author.Tests.{ltb-true, ltb-false, leb-true, le-leb, eqb-true, eqb-false, eq-eqb}
use Rattle.fields.specs.declared.Offset.{Offset}
use Rattle.fields.specs.declared.Size.{Size}
use Rattle.fields.specs.Number.{u32_at, size_at}
use Rattle.fields.specs.Bytes.{stands_at}
use Rattle.fields.proofs.Bools.{and-inv}
use Rattle.cells.specs.declared.Tally.{Tally}
use Rattle.cells.specs.Tiling.{good_size, tiling, row_of, bin_size, layout, add_row, survey_of}
use Rattle.cells.specs.Map.{starts, starts_in}
use Rattle.cells.specs.Tiled.{Good, CellsTile, cells-end, cell-on, Header, BinsTile, bins-end, bin-on, InCells, this-cell, later-cell, InBins, this-bin, later-bin, InUse, CellIn, InBin}
use Rattle.cells.specs.Counts.{cells_of, cells_in, bin_count, used_bytes, free_bytes}
use Rattle.cells.proofs.Steps.{good, of-good, done, fault, step}
use Rattle.cells.proofs.Turns.{done as bins-done, fault as bins-fault, step as bins-step}
use Rattle.fields.specs.declared.Flaw.{Flaw}
use Rattle.std.specs.Prelude.{Err, Ok, Result}

or_cases : (a b : Bool) → a || b ≡ true → (a ≡ true) ⊎ (b ≡ true)
or_cases true b e = inl refl
or_cases false b e = inr e

or_right : (a : Bool) {b : Bool} → b ≡ true → a || b ≡ true
or_right true e = refl
or_right false e = e

-- a cell's bytes count where it belongs, and nowhere else
add-used : (b : Bool) (u n rest : ℕ) → cond b (u + n) u + rest ≡ u + (cond b n 0 + rest)
add-used true u n rest = omega arith
add-used false u n rest = omega arith

add_free : (b : Bool) (f n rest : ℕ) → cond b f (f + n) + rest ≡ f + (cond b 0 n + rest)
add_free true f n rest = omega arith
add_free false f n rest = omega arith

used-or-free : (b : Bool) (n : ℕ) → cond b n 0 + cond b 0 n ≡ n
used-or-free true n = omega arith
used-or-free false n = omega arith

pub used-append : (xs ys : List Size) → used_bytes (xs ++ ys) ≡ used_bytes xs + used_bytes ys
unfolding used_bytes
used-append [] ys = omega arith
used-append (z ∷ xs) ys = let e = used-append xs ys in omega arith

pub free-append : (xs ys : List Size) → free_bytes (xs ++ ys) ≡ free_bytes xs + free_bytes ys
unfolding free_bytes
free-append [] ys = omega arith
free-append (z ∷ xs) ys = let e = free-append xs ys in omega arith

pub counts_same : {n u f n' u' f' : ℕ} → n ≡ n' → u ≡ u' → f ≡ f'
    → ◌≡◌ {A = Tally} (record { bins = n; used = u; free = f }) (record { bins = n'; used = u'; free = f' })
counts_same p q r = rw (p, q, r)

module _ (d : List ℕ) where
  -- cells that are counted tile their bin, by as many steps as are enough
  pub tile-by : (k at end u f u' f' : ℕ) → end - at ≤ k → at ≤ end → row_of (tiling d at end) u f ≡ Ok (u', f') → CellsTile d end at
  unfolding row_of
  tile-by zero at end u f u' f' p q e = let s : end ≡ at = omega arith in subst (λ (x : ℕ). CellsTile d end x) s cells-end
  tile-by (suc k) at end u f u' f' p q e =
      by (ltb at end) refl (good_size n (end - at)) refl
      (λ lt g r. tile-by k (at + n) end _ _ u' f' (omega arith) (omega arith) r)
    where
      n : ℕ
      n = (size_at d at).bytes

      by : (t : Bool) → ltb at end ≡ t → (g : Bool) → good_size n (end - at) ≡ g
          → (at < end → Good n (end - at)
          → row_of (tiling d (at + n) end) (cond (size_at d at).used (u + n) u) (cond (size_at d at).used f (f + n)) ≡ Ok (u', f')
          → CellsTile d end (at + n))
          → CellsTile d end at
      by false x g y ih =
          let l = ltb-false at end x in
          let s : end ≡ at = omega arith in
          subst (λ (z : ℕ). CellsTile d end z) s cells-end
      by true x false y ih =
          let r = rw (fault d at end (ltb-true at end x) y) at e in
          let w : ◌≡◌ {A = ℕ} 0 1 = cc in
          absurd (omega arith)
      by true x true y ih =
          let lt = ltb-true at end x in
          let g = good n (end - at) y in
          cell-on lt g (ih lt g (rw (step d at end lt y) at e))

  -- and cells that tile a bin are counted: those in use and the free ones
  pub row-sums : {end at : ℕ} (t : CellsTile d end at) (u f : ℕ)
      → row_of (tiling d at end) u f ≡ Ok (u + used_bytes (cells_of t), f + free_bytes (cells_of t))
  unfolding row_of cells_of used_bytes free_bytes
  row-sums {end = end} {at = at} cells-end u f = rw (done d end end (omega arith)) (ap₂ (λ (x : ℕ) (y : ℕ). Ok (x, y)) (omega arith) (omega arith))
  row-sums {end = end} {at = at} (cell-on lt g t) u f =
      let z = size_at d at in
      rw (step d at end lt (of-good g))
      (row-sums t (cond z.used (u + z.bytes) u) (cond z.used f (f + z.bytes))
      ∙ ap₂ (λ (x : ℕ) (y : ℕ). Ok (x, y)) (add-used z.used u z.bytes (used_bytes (cells_of t))) (add_free z.used f z.bytes (free_bytes (cells_of t))))

  cells-order : {at end : ℕ} → CellsTile d end at → at ≤ end
  cells-order cells-end = omega arith
  cells-order (cell-on lt g t) = omega arith

  -- a header that is good, and one that is not
  pub header_of : (at : ℕ) → (bin_size d at ≡ 0 → ⊥) → at < length d → Header d at (bin_size d at)
  unfolding bin_size
  header_of at ne lt =
      by (stands_at d at (104 ∷ 98 ∷ 105 ∷ 110 ∷ [])) refl (eqb (u32_at d (at + 4)) at) refl (eqb (s % 4096) 0) refl (leb s (length d - at)) refl ne
    where
      s : ℕ
      s = u32_at d (at + 8)

      by : (p : Bool) → stands_at d at (104 ∷ 98 ∷ 105 ∷ 110 ∷ []) ≡ p → (q : Bool) → eqb (u32_at d (at + 4)) at ≡ q
          → (x : Bool) → eqb (s % 4096) 0 ≡ x → (y : Bool) → leb s (length d - at) ≡ y
          → (cond p (cond q (cond x (cond y s 0) 0) 0) 0 ≡ 0 → ⊥)
          → Header d at (cond p (cond q (cond x (cond y s 0) 0) 0) 0)
      by false e₁ q e₂ x e₃ y e₄ n = absurd (n refl)
      by true e₁ false e₂ x e₃ y e₄ n = absurd (n refl)
      by true e₁ true e₂ false e₃ y e₄ n = absurd (n refl)
      by true e₁ true e₂ true e₃ false e₄ n = absurd (n refl)
      by true e₁ true e₂ true e₃ true e₄ n =
          let l = leb-true s (length d - at) e₄ in
          record { hbin = e₁; own = eqb-true _ _ e₂; size = refl; some = omega arith; pages = eqb-true _ _ e₃; inside = omega arith }

  pub of-header : {at n : ℕ} → Header d at n → bin_size d at ≡ n
  unfolding bin_size
  of-header {at} {n} h =
      let i = h.inside in
      rw (h.hbin, eq-eqb (u32_at d (at + 4)) at h.own, h.size, eq-eqb (n % 4096) 0 h.pages, le-leb n (length d - at) (omega arith))

  pub of-header-some : {at n : ℕ} → Header d at n → bin_size d at ≡ 0 → ⊥
  of-header-some h e = let s = h.some in let z = of-header h in omega arith

  bins-by : (k at c u f : ℕ) {t : Tally} → length d - at ≤ k → at ≤ length d → at % 4096 ≡ 0 → length d % 4096 ≡ 0
      → survey_of (layout d at) c u f ≡ Ok t → BinsTile d at
  unfolding survey_of add_row
  bins-by zero at c u f p q a l e = let s : at ≡ length d = omega arith in bins-end s
  bins-by (suc k) at c u f {t} p q a l e =
      by (ltb at (length d)) refl (eqb n 0) refl (row_of (tiling d (at + 32) (at + n)) 0 0) refl
      (λ lt s u' f' r. bins-by k (at + n) _ _ _ (omega arith) (omega arith) (omega arith) l r)
    where
      n : ℕ
      n = bin_size d at

      by : (x : Bool) → ltb at (length d) ≡ x → (y : Bool) → eqb n 0 ≡ y → (r : Result (ℕ × ℕ) Flaw) → row_of (tiling d (at + 32) (at + n)) 0 0 ≡ r
          → (at < length d → Header d at n → (u' f' : ℕ) → survey_of (layout d (at + n)) (c + 1) (u + u') (f + f') ≡ Ok t → BinsTile d (at + n))
          → BinsTile d at
      by false x y g r s ih = let z = ltb-false at (length d) x in let w : at ≡ length d = omega arith in bins-end w
      by true x true g r s ih =
          let w = rw (bins-fault d at (ltb-true at (length d) x) (eqb-true n 0 g)) at e in
          let z : ◌≡◌ {A = ℕ} 0 1 = cc in
          absurd (omega arith)
      by true x false g (Err flaw) s ih =
          let w = rw (bins-step d at (ltb-true at (length d) x) (eqb-false n 0 g), s) at e in
          let z : ◌≡◌ {A = ℕ} 0 1 = cc in
          absurd (omega arith)
      by true x false g (Ok (u', f')) s ih =
          let lt = ltb-true at (length d) x in
          let h = header_of at (eqb-false n 0 g) lt in
          bin-on n h (tile-by n (at + 32) (at + n) 0 0 u' f' (omega arith) (omega (arith, h.some, h.pages)) s)
          (ih lt h u' f' (rw (bins-step d at lt (eqb-false n 0 g), s) at e))

  -- bins that tile are counted, and so are all their cells
  pub survey-sums : {at : ℕ} (b : BinsTile d at) (c u f : ℕ)
      → survey_of (layout d at) c u f ≡ Ok (record { bins = c + bin_count b; used = u + used_bytes (cells_in b); free = f + free_bytes (cells_in b) })
  unfolding survey_of add_row cells_in bin_count used_bytes free_bytes
  survey-sums {at} (bins-end e) c u f = rw (bins-done d at (omega arith)) (ap Ok (counts_same (omega arith) (omega arith) (omega arith)))
  survey-sums {at} (bin-on n h t b) c u f =
      let lt : at < length d = omega (arith, h.some, h.inside) in
      rw (bins-step d at lt (of-header-some h), of-header h, row-sums t 0 0)
      (survey-sums b (c + 1) (u + (0 + used_bytes (cells_of t))) (f + (0 + free_bytes (cells_of t)))
      ∙ ap Ok
      (counts_same (omega arith) (omega (arith, used-append (cells_of t) (cells_in b))) (omega (arith, free-append (cells_of t) (cells_in b)))))

  -- bins and cells pass the tests 9 and 10 exactly when they tile the bins data
  pub tiled-exactly : length d % 4096 ≡ 0 → ((t : Tally) × (survey_of (layout d 0) 0 0 0 ≡ Ok t)) ↔ BinsTile d 0
  tiled-exactly l = (λ x. bins-by (length d) 0 0 0 0 (omega arith) (omega arith) refl l x.1, λ b. (_, survey-sums b 0 0 0))

  -- so the counts of a survey that accepts are those of the tiling
  pub counts-are : {t : Tally} (b : BinsTile d 0) → survey_of (layout d 0) 0 0 0 ≡ Ok t
      → (t.bins ≡ bin_count b) × (t.used ≡ used_bytes (cells_in b)) × (t.free ≡ free_bytes (cells_in b))
  counts-are {t} b e =
      let s = sym (survey-sums b 0 0 0) ∙ e in
      let q : ◌≡◌ {A = Tally} (record { bins = 0 + bin_count b; used = 0 + used_bytes (cells_in b); free = 0 + free_bytes (cells_in b) }) t = cc in
      rw (← q) (omega arith, omega arith, omega arith)

  -- "32 x bins + used + free = bins size"
  cells-add : {end at : ℕ} (t : CellsTile d end at) → used_bytes (cells_of t) + free_bytes (cells_of t) + at ≡ end
  unfolding cells_of used_bytes free_bytes
  cells-add cells-end = omega arith
  cells-add {at = at} (cell-on lt g t) =
      let s = cells-add t in
      let z = size_at d at in
      omega (arith, used-or-free z.used z.bytes)

  bins-add : {at : ℕ} (b : BinsTile d at) → 32 * bin_count b + used_bytes (cells_in b) + free_bytes (cells_in b) + at ≡ length d
  unfolding cells_in bin_count used_bytes free_bytes
  bins-add (bins-end e) = omega arith
  bins-add (bin-on n h t b) =
      let s = bins-add b in
      omega (arith, cells-add t, used-append (cells_of t) (cells_in b), free-append (cells_of t) (cells_in b))

  pub total : {t : Tally} → BinsTile d 0 → survey_of (layout d 0) 0 0 0 ≡ Ok t → 32 * t.bins + t.used + t.free ≡ length d
  total b e = let s = bins-add b in let c = counts-are b e in omega (arith, c.0, c.1, c.2)

  -- ---- the cells in use

  -- the walk's function says of an offset what the tiling says
  cells-starts : {end o at : ℕ} → InCells d end o at → starts (tiling d at end) o ≡ true
  unfolding starts
  cells-starts {end = end} {o = o} {at = at} (this-cell lt g u) = rw (step d o end lt (of-good g), u, eq-eqb o o refl)
  cells-starts {end = end} {o = o} {at = at} (later-cell lt g s) = rw (step d at end lt (of-good g)) (or_right ((size_at d at).used && eqb at o) (cells-starts s))

  starts-cells : (k at end o : ℕ) → end - at ≤ k → starts (tiling d at end) o ≡ true → InCells d end o at
  unfolding starts
  starts-cells zero at end o p e =
      let r = rw (done d at end (omega arith)) at e in
      let z : ◌≡◌ {A = ℕ} 0 1 = cc in
      absurd (omega arith)
  starts-cells (suc k) at end o p e =
      by (ltb at end) refl (good_size n (end - at)) refl (λ lt g r. starts-cells k (at + n) end o (omega (arith, g.some)) r)
    where
      n : ℕ
      n = (size_at d at).bytes

      pick : at < end → Good n (end - at) → (starts (tiling d (at + n) end) o ≡ true → InCells d end o (at + n))
          → ((size_at d at).used && eqb at o ≡ true) ⊎ (starts (tiling d (at + n) end) o ≡ true) → InCells d end o at
      pick lt g ih (inl q) =
          let u = and-inv (size_at d at).used _ q in
          subst (λ (x : ℕ). InCells d end x at) (eqb-true at o u.1) (this-cell lt g u.0)
      pick lt g ih (inr q) = later-cell lt g (ih q)

      by : (t : Bool) → ltb at end ≡ t → (g : Bool) → good_size n (end - at) ≡ g
          → (at < end → Good n (end - at) → starts (tiling d (at + n) end) o ≡ true → InCells d end o (at + n)) → InCells d end o at
      by false x g y ih =
          let r = rw (done d at end (ltb-false at end x)) at e in
          let z : ◌≡◌ {A = ℕ} 0 1 = cc in
          absurd (omega arith)
      by true x false y ih =
          let r = rw (fault d at end (ltb-true at end x) y) at e in
          let z : ◌≡◌ {A = ℕ} 0 1 = cc in
          absurd (omega arith)
      by true x true y ih =
          let lt = ltb-true at end x in
          let g = good n (end - at) y in
          pick lt g (ih lt g) (or_cases _ _ (rw (step d at end lt y) at e))

  bins-starts : {o at : ℕ} → InBins d o at → starts_in (layout d at) o ≡ true
  unfolding starts_in
  bins-starts {o = o} {at = at} (this-bin n h c) =
      rw (bins-step d at (omega (arith, h.some, h.inside)) (of-header-some h), of-header h, cells-starts c)
  bins-starts {o = o} {at = at} (later-bin n h b) =
      rw (bins-step d at (omega (arith, h.some, h.inside)) (of-header-some h), of-header h) (or_right (starts (tiling d (at + 32) (at + n)) o) (bins-starts b))

  starts-bins : (k at o : ℕ) → length d - at ≤ k → starts_in (layout d at) o ≡ true → InBins d o at
  unfolding starts_in
  starts-bins zero at o p e =
      let r = rw (bins-done d at (omega arith)) at e in
      let z : ◌≡◌ {A = ℕ} 0 1 = cc in
      absurd (omega arith)
  starts-bins (suc k) at o p e = by (ltb at (length d)) refl (eqb n 0) refl (λ lt h r. starts-bins k (at + n) o (omega (arith, h.some)) r)
    where
      n : ℕ
      n = bin_size d at

      pick : Header d at n → (starts_in (layout d (at + n)) o ≡ true → InBins d o (at + n))
          → (starts (tiling d (at + 32) (at + n)) o ≡ true) ⊎ (starts_in (layout d (at + n)) o ≡ true) → InBins d o at
      pick h ih (inl q) = this-bin n h (starts-cells (at + n) (at + 32) (at + n) o (omega arith) q)
      pick h ih (inr q) = later-bin n h (ih q)

      by : (x : Bool) → ltb at (length d) ≡ x → (y : Bool) → eqb n 0 ≡ y
          → (at < length d → Header d at n → starts_in (layout d (at + n)) o ≡ true → InBins d o (at + n)) → InBins d o at
      by false x y g ih =
          let r = rw (bins-done d at (ltb-false at (length d) x)) at e in
          let z : ◌≡◌ {A = ℕ} 0 1 = cc in
          absurd (omega arith)
      by true x true g ih =
          let r = rw (bins-fault d at (ltb-true at (length d) x) (eqb-true n 0 g)) at e in
          let z : ◌≡◌ {A = ℕ} 0 1 = cc in
          absurd (omega arith)
      by true x false g ih =
          let lt = ltb-true at (length d) x in
          let h = header_of at (eqb-false n 0 g) lt in
          pick h (ih lt h) (or_cases _ _ (rw (bins-step d at lt (eqb-false n 0 g)) at e))

  -- a cell in use starts at an offset exactly when the walk finds one there
  pub starts-exactly : (o : Offset) → (starts_in (layout d 0) o.0 ≡ true) ↔ InUse d o
  starts-exactly o = (starts-bins (length d) 0 o.0 (omega arith), bins-starts)

  pub cell_in : {end o at : ℕ} → at % 8 ≡ 0 → InCells d end o at → CellIn d at end o
  cell_in a (this-cell lt g u) =
      record { after = omega arith; before = omega (arith, g.inside); some = g.some; whole = g.eights; eights = a; used = u }
  cell_in a (later-cell lt g s) =
      let c = cell_in (omega (arith, g.eights)) s in
      record { after = omega (arith, c.after); before = c.before; some = c.some; whole = c.whole; eights = c.eights; used = c.used }

  pub in-bin : {o at : ℕ} → at % 4096 ≡ 0 → InBins d o at → InBin d o × (at ≤ o)
  in-bin {at = at} a (this-bin n h c) =
      let i = cell_in (omega arith) c in
      (record { bin = at; size = n; header = h; inside = i }, omega (arith, i.after))
  in-bin a (later-bin n h b) = let r = in-bin (omega (arith, h.pages)) b in (r.0, omega (arith, r.1))

  -- a cell in use lies wholly inside one bin
  pub wholly-inside : (o : Offset) → InUse d o → InBin d o.0
  wholly-inside o u = (in-bin refl u).0

  -- a bin has one size
  pub same_size : {at n n' : ℕ} → Header d at n → Header d at n' → n ≡ n'
  same_size h h' = sym h.size ∙ h'.size

  same_bin : {at n n' o : ℕ} → Header d at n → Header d at n' → InCells d (at + n') o (at + 32) → InCells d (at + n) o (at + 32)
  same_bin {at} {n} {n'} {o} h h' c = subst (λ (k : ℕ). InCells d (at + k) o (at + 32)) (same_size h' h) c

  same_rest : {at n n' o : ℕ} → Header d at n → Header d at n' → InBins d o (at + n') → InBins d o (at + n)
  same_rest {at} {n} {n'} {o} h h' b = subst (λ (k : ℕ). InBins d o (at + k)) (same_size h' h) b

  cells-apart : {end o p at : ℕ} → at % 8 ≡ 0 → InCells d end o at → InCells d end p at → o < p → o + (size_at d o).bytes ≤ p
  cells-apart a (this-cell l g u) (this-cell l' g' u') lt = absurd (omega arith)
  cells-apart a (this-cell l g u) (later-cell l' g' s) lt = (cell_in (omega (arith, g.eights)) s).after
  cells-apart a (later-cell l g s) (this-cell l' g' u) lt = absurd (let c = (cell_in (omega (arith, g.eights)) s).after in omega arith)
  cells-apart a (later-cell l g s) (later-cell l' g' s') lt = cells-apart (omega (arith, g.eights)) s s' lt

  bins-apart : {o p at : ℕ} → at % 4096 ≡ 0 → InBins d o at → InBins d p at → o < p → o + (size_at d o).bytes ≤ p
  bins-apart a (this-bin n h c) (this-bin n' h' c') lt = cells-apart (omega arith) c (same_bin h h' c') lt
  bins-apart a (this-bin n h c) (later-bin n' h' b) lt =
      let e = same_size h h' in
      omega (arith, (cell_in (omega arith) c).before, (in-bin (omega (arith, h'.pages)) b).1)
  bins-apart a (later-bin n h b) (this-bin n' h' c) lt =
      let e = same_size h h' in
      let i = cell_in (omega arith) c in
      absurd (omega (arith, (in-bin (omega (arith, h.pages)) b).1, i.before, i.some))
  bins-apart a (later-bin n h b) (later-bin n' h' b') lt =
      bins-apart (omega (arith, h.pages)) b (same_rest h h' b') lt

  -- cells in use do not overlap
  pub no-overlap : (o p : Offset) → InUse d o → InUse d p → o.0 < p.0 → o.0 + (size_at d o.0).bytes ≤ p.0
  no-overlap o p u v lt = bins-apart refl u v lt
