use mathlib.Core.Path.{◌≡◌}
use mathlib.Core.Bool.{false}
use Rattle.namesake_laws.specs.Repeats.{met_in}
use Rattle.build_frames.specs.Terms.{name_in}
use Rattle.build_namesakes.specs.Rows.{start_of, called}
use Rattle.build_namesakes.proofs.is_repeat.Given as goal

-- none of those passed has the name
abbrev pub invariant-loop-i : goal.invariant-loop-i
invariant-loop-i l = (l.p ≡ start_of l.s l.at l._i) × (met_in (called l.s l.at) l._i (name_in l.s l.x) ≡ false)
