use native.Mathlib.Omega.{arith}
use Rattle.build_frames.proofs.Frames.{laid}
use Rattle.build_frames.proofs.frame_end.Goals as goal

pub overflow_add-result : goal.overflow_add-result
overflow_add-result c = let l = laid c.args.s.now c.args.at c.requires in omega arith

pub u32_at-requires : goal.u32_at-requires
u32_at-requires c = let l = laid c.args.s.now c.args.at c.requires in omega arith

pub overflow_add-result-2 : goal.overflow_add-result-2
overflow_add-result-2 c = let l = laid c.args.s.now c.args.at c.requires in omega arith

pub returns : goal.returns
returns c =
    let l = laid c.args.s.now c.args.at c.requires in
    record { is = omega arith; inside = omega arith; further = omega arith }
