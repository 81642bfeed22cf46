use native.Mathlib.Omega.{arith}
use Prim.Native.Nat.{◌+◌, ◌-◌}
use mathlib.Core.Path.{refl, sym, ◌∙◌}
use Rattle.namesake_laws.specs.Repeats.{later}
use Rattle.namesake_laws.proofs.Searches.{hit, none-met, seek-start, seek-on, seek-chain, seek-falls}
use Rattle.values.specs.Entries.{entries_of}
use Rattle.namesakes.specs.Terms.{called}
use Rattle.namesakes.proofs.Readings.{read-compared}
use Rattle.namesakes.proofs.is_met.Goals as goal

pub find-p-requires : goal.find-p-requires
find-p-requires c =
    c.requires.table

pub loop-p-init : goal.loop-p-init
loop-p-init c =
    let a = c.args in
    let vs = entries_of a.bins.now a.e in
    seek-start (later (called a.bins.now vs) a.s) _ _ _ _ _ c.requires.telling c.find-p.ensures

pub overflow_add-s : goal.overflow_add-s
overflow_add-s c = omega (arith, c.requires.inside, c.loop-p.invariant.chain.within)

pub name_of-y-requires : goal.name_of-y-requires
name_of-y-requires c = record { names_lie = c.requires.names; i_lt_count = omega (arith, c.requires.inside, c.loop-p.invariant.chain.within, c.loop-p-test.true) }

pub is_namesake-requires : goal.is_namesake-requires
is_namesake-requires c = (
  rw c.name_of-y.ensures
      (c.requires.names.lie _
      (omega (
        arith,
        c.requires.inside,
        c.loop-p.invariant.chain.within,
        c.loop-p-test.true,
      ))),
  c.requires.name,
)

pub returns-then-is_namesake : goal.returns-then-is_namesake
returns-then-is_namesake c =
    let a = c.args in
    let vs = entries_of a.bins.now a.e in
    let l = c.loop-p in
    sym (l.invariant.left ∙ hit (later (called a.bins.now vs) a.s) _ l.p c.loop-p-test.true
    (read-compared a.bins.now vs (a.s + (l.p - 1)) _ c.name_of-y.ensures c.is_namesake.ensures ∙ c.if-is_namesake.true))

pub offset_bounds-older-p : goal.offset_bounds-older-p
offset_bounds-older-p c =
    omega (
      arith,
      c.requires.table.linked.links,
      c.loop-p.invariant.chain.within,
    )

pub bounds-older-p : goal.bounds-older-p
bounds-older-p c =
    omega (
      arith,
      c.requires.table.linked.links,
      c.loop-p.invariant.chain.within,
      c.loop-p-test.true,
    )

pub overflow_cast-q : goal.overflow_cast-q
overflow_cast-q c =
    omega (
      arith,
      c.type_inv.older (c.loop-p.p - 1),
    )

pub find_from-p-requires : goal.find_from-p-requires
find_from-p-requires c =
    let a = c.args in
    let vs = entries_of a.bins.now a.e in
    let p = c.requires in
    record {
      linked = p.table.linked;
      on_chain = seek-chain (later (called a.bins.now vs) a.s) _ _ _ _ _ p.telling _ p.table.linked c.loop-p.invariant
          c.loop-p-test.true refl;
    }

pub loop-p-smaller : goal.loop-p-smaller
loop-p-smaller c =
    let a = c.args in
    let vs = entries_of a.bins.now a.e in
    let p = c.requires in
    seek-falls (later (called a.bins.now vs) a.s) _ _ _ _ _ p.telling _ p.table.linked c.loop-p.invariant c.loop-p-test.true refl
    c.find_from-p.ensures

pub loop-p-preserved : goal.loop-p-preserved
loop-p-preserved c =
    let a = c.args in
    let vs = entries_of a.bins.now a.e in
    let p = c.requires in
    let l = c.loop-p in
    seek-on (later (called a.bins.now vs) a.s) _ _ _ _ _ p.telling _ p.table.linked l.invariant c.loop-p-test.true
    (read-compared a.bins.now vs (a.s + (l.p - 1)) _ c.name_of-y.ensures
    c.is_namesake.ensures
    ∙ c.if-is_namesake.false)
    refl c.find_from-p.ensures

pub returns : goal.returns
returns c =
    let a = c.args in
    let vs = entries_of a.bins.now a.e in
    sym (c.loop-p.invariant.left ∙ none-met (later (called a.bins.now vs) a.s) _ c.loop-p-test.false)
