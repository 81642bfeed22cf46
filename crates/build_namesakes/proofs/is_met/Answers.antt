use Prim.Native.Nat.{◌-◌}
use mathlib.Core.Path.{refl, sym, ◌∙◌}
use lib.ListN.{get_or}
use Rattle.namesake_laws.proofs.Searches.{hit, none-met, seek-start, seek-on, seek-chain, seek-falls}
use Rattle.build_frames.specs.Terms.{name_in}
use Rattle.build_namesakes.specs.Terms.{starts_called}
use Rattle.build_namesakes.proofs.Rows.{read-compared}
use Rattle.build_namesakes.proofs.is_met.Goals as goal

pub loop-p-init : goal.loop-p-init
loop-p-init c =
    let a = c.args in seek-start (starts_called a.s.now a.starts.now) _ _ _ _ _ c.requires.telling c.find-p.ensures

pub returns-then-is_namesake : goal.returns-then-is_namesake
returns-then-is_namesake c =
    let a = c.args in
    let l = c.loop-p in
    let q = get_or a.starts.now (l.p - 1) 0 in
    sym (l.invariant.left ∙ hit (starts_called a.s.now a.starts.now) _ l.p c.loop-p-test.true
    (read-compared a.s.now q q (name_in a.s.now a.x) c.name_at.ensures.0 refl c.is_namesake.ensures ∙ c.if-is_namesake.true))

pub find_from-p-requires : goal.find_from-p-requires
find_from-p-requires c =
    let a = c.args in
    let p = c.requires in record {
      linked = p.table.linked;
      on_chain = seek-chain (starts_called a.s.now a.starts.now) _ _ _ _ _ p.telling _ p.table.linked c.loop-p.invariant c.loop-p-test.true refl;
    }

pub loop-p-smaller : goal.loop-p-smaller
loop-p-smaller c =
    let a = c.args in
    let p = c.requires in
    seek-falls (starts_called a.s.now a.starts.now) _ _ _ _ _ p.telling _ p.table.linked c.loop-p.invariant c.loop-p-test.true
    refl c.find_from-p.ensures

pub loop-p-preserved : goal.loop-p-preserved
loop-p-preserved c =
    let a = c.args in
    let p = c.requires in
    let l = c.loop-p in
    let q = get_or a.starts.now (l.p - 1) 0 in
    seek-on (starts_called a.s.now a.starts.now) _ _ _ _ _ p.telling _ p.table.linked l.invariant c.loop-p-test.true
    (read-compared a.s.now q q (name_in a.s.now a.x) c.name_at.ensures.0 refl c.is_namesake.ensures
    ∙ c.if-is_namesake.false)
    refl c.find_from-p.ensures

pub returns : goal.returns
returns c =
    let a = c.args in sym (c.loop-p.invariant.left ∙ none-met (starts_called a.s.now a.starts.now) _ c.loop-p-test.false)
