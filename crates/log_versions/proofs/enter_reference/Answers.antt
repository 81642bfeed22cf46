use Prim.Native.Nat.{◌+◌, ◌*◌}
use native.Mathlib.Omega.{arith}
use mathlib.Core.Path.{◌≡◌}
use Rattle.log_versions.specs.Terms.{RefLies}
use Rattle.log_versions.proofs.Steps.{ref-here, in-reference}
use Rattle.log_versions.proofs.enter_reference.Goals.{Start}
use Rattle.log_versions.proofs.enter_reference.Goals as goal

-- where the reference and its bytes lie
here : (s : Start) → RefLies s.args.log.now s.args.c.at s.args.c.index s.args.c.place
here s = ref-here s.args.log.now s.args.c s.requires.0 s.requires.1 s.requires.2

pub overflow_add-field : goal.overflow_add-field
overflow_add-field c = omega (arith, (here (goal.at.overflow_add-field c).Start).head)

pub overflow_mul-field : goal.overflow_mul-field
overflow_mul-field c = omega (arith, (here (goal.at.overflow_mul-field c).Start).head)

pub overflow_add-field-2 : goal.overflow_add-field-2
overflow_add-field-2 c = omega (arith, (here (goal.at.overflow_add-field-2 c).Start).head)

pub overflow_add-result : goal.overflow_add-result
overflow_add-result c = omega (arith, (here (goal.at.overflow_add-result c).Start).head)

pub u32_at-requires : goal.u32_at-requires
u32_at-requires c = omega (arith, (here (goal.at.u32_at-requires c).Start).head)

pub overflow_add-field-3 : goal.overflow_add-field-3
overflow_add-field-3 c = omega (arith, (here (goal.at.overflow_add-field-3 c).Start).head)

pub u32_at-requires-2 : goal.u32_at-requires-2
u32_at-requires-2 c = omega (arith, (here (goal.at.u32_at-requires-2 c).Start).head)

pub returns : goal.returns
returns c =
    let a = c.args.c.at in
    let i = c.args.c.index in
    let e : a + 40 + 8 * i + 4 ≡ a + 44 + 8 * i = omega arith in
    simp (c.u32_at.ensures, c.u32_at-2.ensures, e) (in-reference c.args.log.now c.args.c c.requires.0 c.requires.1 c.requires.2)
