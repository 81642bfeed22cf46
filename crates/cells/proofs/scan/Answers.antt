use Rattle.std.proofs.Common.{◌≡◌, ◌/◌, refl, ap, ◌∙◌, List, ℕ, length, Result, Ok, Err, true, false, is_err, arith}
use Rattle.fields.specs.declared.Flaw.{Flaw}
use Rattle.bitmap.specs.Bits.{zeros}
use Rattle.cells.specs.declared.Tally.{Tally}
use Rattle.cells.specs.Tiling.{layout}
use Rattle.cells.specs.Map.{marks_all, map_after}
use Rattle.cells.proofs.Cleared.{cleared}
use Rattle.cells.proofs.scan.Goals as goal

good : (d m : List ℕ) (r : Result Tally Flaw) → is_err r ≡ false → map_after d r m ≡ marks_all (layout d 0) (zeros (length d / 64) m)
unfolding map_after
good d m (Ok t) e = refl
good d m (Err f) e = cc

bad : (d m : List ℕ) (r : Result Tally Flaw) → is_err r ≡ true → map_after d r m ≡ zeros (length d / 64) m
unfolding map_after
bad d m (Ok t) e = cc
bad d m (Err f) e = refl

pub returns-then-is_err-clause-map_after : goal.returns-then-is_err-clause-map_after
returns-then-is_err-clause-map_after c =
    let d = c.args.bins.now in
    let w = c.tile_bins-r.ensures in
    rw (bad d c.args.map.now c.tile_bins-r.result cc)
    (c.clear-then-is_err.ensures ∙ ap (zeros (length d / 64)) (w.map_after ∙ ap (marks_all _) c.clear.ensures)
    ∙ cleared (length d / 64) d c.args.map.now (omega (arith, c.requires.whole.pages)))

pub returns-else-is_err-clause-map_after : goal.returns-else-is_err-clause-map_after
returns-else-is_err-clause-map_after c =
    rw (good c.args.bins.now c.args.map.now c.tile_bins-r.result cc) (c.tile_bins-r.ensures.map_after ∙ ap (marks_all _) c.clear.ensures)
