use native.Mathlib.Omega.{arith}
use Rattle.build_namesakes.proofs.Rows.{held-room, name-made}
use Rattle.build_namesakes.proofs.name_at.Goals as goal

pub overflow_add-result : goal.overflow_add-result
overflow_add-result c = let a = c.args in let r = held-room a.s.now a.p c.requires in omega arith

pub overflow_add-p : goal.overflow_add-p
overflow_add-p c = let a = c.args in let r = held-room a.s.now a.p c.requires in omega arith

pub u32_at-requires : goal.u32_at-requires
u32_at-requires c = let a = c.args in let r = held-room a.s.now a.p c.requires in omega arith

pub returns : goal.returns
returns c = let a = c.args in name-made a.s.now a.p c.requires c.u32_at.ensures
