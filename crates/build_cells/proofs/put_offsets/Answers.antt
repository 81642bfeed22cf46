use Rattle.build_cells.proofs.Segments.{offsets-none, offsets-next}
use Rattle.build_cells.specs.Terms.{offsets_n}
use lib.Seq.{sets}
use mathlib.Core.Path.{◌≡◌, refl, ap, ◌∙◌}
use native.Mathlib.Omega.{arith}
use Prim.Native.Nat.{ℕ, ◌+◌, ◌*◌}
use mathlib.Core.List.{List}
use Rattle.fields.specs.Number.{le32}
use Rattle.build_cells.proofs.put_offsets.Goals as goal

pub loop-i-init : goal.loop-i-init
loop-i-init c = (refl, offsets-none c.args.out.now c.args.at c.args.first)

pub loop-i-preserved : goal.loop-i-preserved
loop-i-preserved c = (
  omega (arith, c.loop-i.invariant.0),
  c.put_u32.ensures
      ∙ ap
      (λ (o : List ℕ). sets o (c.args.at + 4 * c.loop-i.i)
      (le32 (c.args.first + 16352 * c.loop-i.i)))
      c.loop-i.invariant.1
      ∙ offsets-next c.args.out.now
      c.args.at c.args.first
      c.loop-i.i,
)

pub returns : goal.returns
returns c =
    let e : c.loop-i.i ≡ c.args.n = omega arith in
    c.loop-i.invariant.1
    ∙ ap
    (λ (k : ℕ). sets c.args.out.now c.args.at (offsets_n k c.args.first))
    e
