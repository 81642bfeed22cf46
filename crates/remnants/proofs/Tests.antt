-- The tests 1 to 7, 9 and 10, and what they say.
use Prim.Native.Nat.{ℕ}
use native.Mathlib.Omega.{arith}
use mathlib.Core.Path.{◌≡◌, refl, ◌∙◌}
use mathlib.Core.List.{List}
use Rattle.fields.proofs.Firsts.{on, stop, both}
use Rattle.base.specs.Block.{base_fault, bins_data}
use Rattle.cells.specs.declared.Tally.{Tally}
use Rattle.cells.specs.Tiling.{layout, survey_of}
use Rattle.cells.specs.Tiled.{BinsTile, cells-end}
use Rattle.cells.specs.Terms.{Stands}
use Rattle.cells.proofs.Fronts.{base-pages}
use Rattle.cells.proofs.Tiles.{tiled-exactly}
use Rattle.remnants.specs.Remnants.{flaw_in, tiles_fault}
use Rattle.fields.specs.declared.Flaw.{Flaw}
use Rattle.std.specs.Prelude.{Err, Ok, Result}

module _ (h : List ℕ) where
  -- what the pass over the bins answers
  pub tiled : (r : Result Tally Flaw) {d : List ℕ} → base_fault h ≡ Ok tt → d ≡ bins_data h → r ≡ survey_of (layout d 0) 0 0 0 → tiles_fault h ≡ flaw_in r
  unfolding tiles_fault
  tiled r e p q = on _ _ e ∙ rw (q, p)

  -- nor is it asked where the base is refused
  pub unbased : {f : Flaw} → base_fault h ≡ Err f → tiles_fault h ≡ Err f
  unfolding tiles_fault
  unbased e = stop _ _ e

  module _ (e : tiles_fault h ≡ Ok tt) where
    pub base-sound : base_fault h ≡ Ok tt
    unfolding tiles_fault
    base-sound = (both (base_fault h) _ e).0

    counted : (s : Result Tally Flaw) → flaw_in s ≡ Ok tt → (t : Tally) × (s ≡ Ok t)
    counted (Ok t) p = (t, refl)
    counted (Err f) p = absurd (let z : ◌≡◌ {A = ℕ} 0 1 = cc in omega arith)

    -- bins and cells that pass tile the bins data
    pub tiles : BinsTile (bins_data h) 0
    unfolding tiles_fault
    tiles = (tiled-exactly (bins_data h) (base-pages h base-sound).pages).0 (counted _ (both (base_fault h) _ e).1)

    pub stands : Stands (bins_data h) 0 0
    stands =
        record {
          cells = cells-end;
          bins = tiles;
          eights = refl;
          pages = refl;
          order = omega arith;
          inside = omega arith;
          small = (base-pages h base-sound).small;
        }

-- what the tests of bins and cells answer
pub ruleset tiles_ways = (tiled, unbased, base-pages)

-- what they leave to read
pub ruleset sound_ways = (base-sound, stands)
