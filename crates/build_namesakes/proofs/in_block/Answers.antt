use mathlib.Core.Path.{ap, ◌∙◌}
use Rattle.names.specs.Hashing.{hash_of}
use Rattle.namesake_laws.proofs.Scans.{scan-found}
use Rattle.build_namesakes.specs.Rows.{called}
use Rattle.build_namesakes.proofs.Rows.{start-on, row-held, held-laid, read_name}
use Rattle.build_namesakes.proofs.Scans.{go-start, go-ready, go-met, go_on}
use Rattle.build_namesakes.proofs.in_block.Goals as goal

pub loop-j-init : goal.loop-j-init
loop-j-init c = go-start _ _ _ _ _ _ c.requires.empty.0

pub name_at-x-requires : goal.name_at-x-requires
name_at-x-requires c =
    let a = c.args in
    row-held a.s.now a.at c.requires.row c.loop-j-test.true c.loop-j.invariant.here

pub is_met-requires : goal.is_met-requires
is_met-requires c =
    let q = c.requires in
    let l = c.loop-j in
    let x = c.name_at-x in
    go-ready _ _ _ _ _ _ _ _ _ _ _ _ _ l.invariant q.row q.empty.1 c.loop-j-test.true x.result x.ensures.1
    c.hash_of-g.ensures

pub returns-then-is_met : goal.returns-then-is_met
returns-then-is_met c =
    let a = c.args in
    let l = c.loop-j in
    let x = c.name_at-x in
    let i = read_name a.s.now l.p x.ensures.0 l.invariant.here in
    scan-found (called a.s.now a.at) 0 _ _ _ _ _ _ l.j l.k l.invariant.scan _ c.loop-j-test.true
    (go-met _ _ _ _ _ _ _ _ _ _ _ _ _ l.invariant x.result i c.is_met.ensures ∙ c.if-is_met.true)

pub frame_end-p-requires : goal.frame_end-p-requires
frame_end-p-requires c =
    let a = c.args in
    let l = c.loop-j in
    held-laid a.s.now l.p (row-held a.s.now a.at c.requires.row c.loop-j-test.true l.invariant.here)

pub loop-j-preserved : goal.loop-j-preserved
loop-j-preserved c =
    let a = c.args in
    let l = c.loop-j in
    let x = c.name_at-x in
    let i = read_name a.s.now l.p x.ensures.0 l.invariant.here in
    let n = go-met _ _ _ _ _ _ _ _ _ _ _ _ _ l.invariant x.result i c.is_met.ensures ∙ c.if-is_met.false in
    let t = c.take_in-k.ensures in
    go_on _ _ _ _ _ _ _ _ _ _ _ _ _ l.invariant n c.requires.empty.1 (c.hash_of-g.ensures ∙ ap hash_of i) _ _ _ _ t.taken t.taken_2 t.chained_2
    c.take_in-k.auto.keys c.take_in-k.auto.older c.take_in-k.auto.heads c.take_in-k.auto.starts
    (start-on a.s.now a.at l.j l.invariant.here c.frame_end-p.ensures.is)
