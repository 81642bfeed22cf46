use native.Mathlib.Omega.{arith}
use Rattle.log_versions.specs.Terms.{EntryLies}
use Rattle.log_versions.proofs.Steps.{entry_here, in_entry_lem}
use Rattle.log_versions.proofs.enter_entry.Goals.{Start}
use Rattle.log_versions.proofs.enter_entry.Goals as goal

-- where the entry lies
here : (s : Start) → EntryLies s.args.log.now s.args.c.end
here s = entry_here s.args.log.now s.args.c s.requires.0 s.requires.1 s.requires.2 s.requires.3

pub overflow_add-at : goal.overflow_add-at
overflow_add-at c = omega (arith, (here (goal.at.overflow_add-at c).Start).head)

pub u32_at-count-requires : goal.u32_at-count-requires
u32_at-count-requires c = omega (arith, (here (goal.at.u32_at-count-requires c).Start).head)

pub overflow_add-at-2 : goal.overflow_add-at-2
overflow_add-at-2 c = omega (arith, (here (goal.at.overflow_add-at-2 c).Start).head)

pub u32_at-requires : goal.u32_at-requires
u32_at-requires c = omega (arith, (here (goal.at.u32_at-requires c).Start).head)

pub returns : goal.returns
returns c =
    rw (c.u32_at-count.ensures, c.u32_at.ensures) (in_entry_lem c.args.log.now c.args.c c.requires.0 c.requires.1 c.requires.2 c.requires.3)
