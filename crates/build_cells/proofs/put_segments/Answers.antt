use Rattle.build_cells.proofs.Segments.{segments-none, segments-next, segments-last, count-more, count-few, end-facts, part-is, part_room}
use Rattle.layout.specs.Layout.{cell_bytes}
use lib.Seq.{sets}
use lib.ListN.{length}
use mathlib.Core.Path.{refl, ap₂, ◌∙◌}
use mathlib.Core.List.{List}
use native.Mathlib.Omega.{arith}
use Prim.Native.Nat.{ℕ, ◌*◌, ◌+◌}
use Rattle.build_cells.proofs.put_segments.Goals as goal

pub loop-i-init : goal.loop-i-init
loop-i-init c = (refl, omega arith, refl, segments-none c.args.body.now c.args.out.now c.args.at)

pub overflow_mul-i : goal.overflow_mul-i
overflow_mul-i c = omega (arith, count-few _ c.requires.body_len_bound, c.loop-i.invariant.1)

pub slice_bounds-put_bytes-count : goal.slice_bounds-put_bytes-count
slice_bounds-put_bytes-count c =
    let f =
    end-facts c.args.body.now (16344 * c.loop-i.i) c.segment_end-stop.result
    c.segment_end-stop.ensures (omega arith) in
    omega (arith, f.0, f.1)

pub slice_bounds-put_bytes-start : goal.slice_bounds-put_bytes-start
slice_bounds-put_bytes-start c =
    let f =
    end-facts c.args.body.now (16344 * c.loop-i.i) c.segment_end-stop.result
    c.segment_end-stop.ensures (omega arith) in
    omega (arith, f.0, f.1)

pub slice_bounds-put_bytes-end : goal.slice_bounds-put_bytes-end
slice_bounds-put_bytes-end c =
    let f =
    end-facts c.args.body.now (16344 * c.loop-i.i) c.segment_end-stop.result
    c.segment_end-stop.ensures (omega arith) in
    omega (arith, f.0, f.1)

pub put_bytes-requires : goal.put_bytes-requires
put_bytes-requires c =
    let f =
    part_room c.args.body.now (16344 * c.loop-i.i)
    c.segment_end-stop.result c.segment_end-stop.ensures (omega arith) c.loop-i.i refl
    (omega arith) in
    (f.0, omega (arith, f.1, c.requires.body_in_bounds))

pub loop-i-smaller : goal.loop-i-smaller
loop-i-smaller c =
    omega (
      arith,
      count-more (length c.args.body.now)
          c.loop-i.i (omega arith),
    )

pub loop-i-preserved : goal.loop-i-preserved
loop-i-preserved c = (
  refl,
  count-more (length c.args.body.now)
      c.loop-i.i (omega arith),
  omega (arith, c.loop-i.invariant.2),
  c.put_bytes.ensures
      ∙ ap₂
      (λ (o p : List ℕ). sets o
      (c.args.at + 16352 *
      c.loop-i.i)
      (cell_bytes p))
      c.loop-i.invariant.3
      (part-is c.args.body.now
      (16344 * c.loop-i.i) c.segment_end-stop.result
      c.segment_end-stop.ensures (omega arith))
      ∙ segments-next c.args.body.now
      c.args.out.now
      c.args.at
      c.loop-i.i (omega arith),
)

pub returns : goal.returns
returns c =
    c.loop-i.invariant.3
    ∙ segments-last c.args.body.now c.args.out.now
    c.args.at c.loop-i.i c.loop-i.invariant.1 (omega arith)
