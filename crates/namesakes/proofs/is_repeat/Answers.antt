use native.Mathlib.Omega.{arith}
use mathlib.Core.Path.{◌≡◌, refl, sym, ap, ◌∙◌}
use Rattle.namesake_laws.specs.Repeats.{met_in}
use Rattle.namesake_laws.proofs.Searches.{none-met, met-on, met-here}
use Rattle.records.specs.Keys.{codes_of}
use Rattle.values.specs.Entries.{entries_of}
use Rattle.namesakes.specs.Terms.{called}
use Rattle.namesakes.proofs.Readings.{read_name, read-compared}
use Rattle.namesakes.proofs.is_repeat.Goals as goal

pub name_of-x-requires : goal.name_of-x-requires
name_of-x-requires c =
    record { names_lie = c.requires.names_lie; i_lt_count = c.requires.j_lt_count }

pub loop-i-init : goal.loop-i-init
loop-i-init c =
    none-met _ _ refl

pub name_of-requires : goal.name_of-requires
name_of-requires c = record { names_lie = c.requires.names_lie; i_lt_count = omega (arith, c.requires.j_lt_count, c.loop-i-test.true) }

pub is_namesake-requires : goal.is_namesake-requires
is_namesake-requires c = (
  rw c.name_of.ensures
      (c.requires.names_lie.lie _
      (omega (arith, c.requires.j_lt_count, c.loop-i-test.true))),
  rw c.name_of-x.ensures
      (c.requires.names_lie.lie _ c.requires.j_lt_count),
)

pub returns-then-is_namesake : goal.returns-then-is_namesake
returns-then-is_namesake c =
    let l = c.loop-i in
    let a = c.args in
    let x = c.name_of-x in
    let vs = entries_of a.bins.now a.e in
    sym (ap (met_in (called a.bins.now vs) a.j) (sym (read_name a.bins.now vs a.j x.ensures))
    ∙ met-here (called a.bins.now vs) (codes_of a.bins.now x.result) a.j l.i c.loop-i-test.true
    (read-compared a.bins.now vs l.i _ c.name_of.ensures c.is_namesake.ensures ∙ c.if-is_namesake.true))

pub loop-i-preserved : goal.loop-i-preserved
loop-i-preserved c =
    let a = c.args in
    met-on (called a.bins.now (entries_of a.bins.now a.e)) _ c.loop-i.i c.loop-i.invariant
    (read-compared a.bins.now (entries_of a.bins.now a.e) c.loop-i.i _ c.name_of.ensures c.is_namesake.ensures ∙ c.if-is_namesake.false)

pub returns : goal.returns
returns c =
    let l = c.loop-i in
    let a = c.args in
    let vs = entries_of a.bins.now a.e in
    let e : l.i ≡ a.j = omega (arith, c.loop-i-test.false) in
    sym (ap (met_in (called a.bins.now vs) a.j) (sym (read_name a.bins.now vs a.j c.name_of-x.ensures)) ∙ rw e at l.invariant)
