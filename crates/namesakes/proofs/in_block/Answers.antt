use native.Mathlib.Omega.{arith}
use mathlib.Core.Path.{sym, ap, ◌∙◌}
use Rattle.names.specs.Hashing.{hash_of}
use Rattle.namesake_laws.specs.Repeats.{met_in, later}
use Rattle.namesake_laws.proofs.Scans.{scan-start, scan-end, scan-tells, scan-found, scan-on}
use Rattle.values.specs.Entries.{entries_of}
use Rattle.namesakes.specs.Terms.{called}
use Rattle.namesakes.proofs.Readings.{read_name}
use Rattle.namesakes.proofs.in_block.Goals as goal

pub loop-j-init : goal.loop-j-init
loop-j-init c =
    let a = c.args in
    scan-start (called a.bins.now (entries_of a.bins.now a.e)) a.s _ _ _ c.requires.empty

pub name_of-x-requires : goal.name_of-x-requires
name_of-x-requires c =
    record { names_lie = c.requires.names_lie; i_lt_count = omega (arith, c.requires.best_le_count, c.loop-j-test.true) }

pub hash_of-g-requires : goal.hash_of-g-requires
hash_of-g-requires c =
    rw c.name_of-x.ensures
    (c.requires.names_lie.lie _
    (omega (arith, c.requires.best_le_count, c.loop-j-test.true)))

pub is_met-requires : goal.is_met-requires
is_met-requires c =
    let a = c.args in
    let q = c.requires in
    let k = c.loop-j.invariant in
    let x = c.name_of-x in
    let l = c.loop-j-test.true in
    record {
      names = q.names_lie;
      inside = omega (arith, k.taken, l, q.best_le_count);
      name = rw x.ensures (q.names_lie.lie _ (omega (arith, l, q.best_le_count)));
      table = k.table;
      telling = scan-tells (called a.bins.now (entries_of a.bins.now a.e)) a.s _ _ _ _ _ _ _ _ k _ c.hash_of-g.ensures;
    }

pub shape_of-keys-then-is_met : goal.shape_of-keys-then-is_met
shape_of-keys-then-is_met c =
    c.loop-j.invariant.keys-same

pub shape_of-older-then-is_met : goal.shape_of-older-then-is_met
shape_of-older-then-is_met c =
    c.loop-j.invariant.older-same

pub shape_of-heads-then-is_met : goal.shape_of-heads-then-is_met
shape_of-heads-then-is_met c =
    c.loop-j.invariant.heads-same

pub returns-then-is_met : goal.returns-then-is_met
returns-then-is_met c =
    let a = c.args in
    let vs = entries_of a.bins.now a.e in
    let l = c.loop-j in
    let x = c.name_of-x in
    scan-found (called a.bins.now vs) a.s _ _ _ _ _ _ l.j l.n l.invariant _ c.loop-j-test.true
    (ap (met_in (later (called a.bins.now vs) a.s) l.n) (sym (read_name a.bins.now vs l.j x.ensures))
    ∙ sym c.is_met.ensures
    ∙ c.if-is_met.true)

pub take_in-n-requires : goal.take_in-n-requires
take_in-n-requires c =
    let k = c.loop-j.invariant in
    let p = c.requires.empty in
    record { chained = k.table; keys_in_bounds = (omega (arith, k.keys-same, k.older-same, p.links), omega (arith, k.keys-same, p.few)) }

pub loop-j-preserved : goal.loop-j-preserved
loop-j-preserved c =
    let a = c.args in
    let vs = entries_of a.bins.now a.e in
    let l = c.loop-j in
    let i = read_name a.bins.now vs l.j c.name_of-x.ensures in
    let n = ap (met_in (later (called a.bins.now vs) a.s) l.n) (sym i) ∙ sym c.is_met.ensures ∙ c.if-is_met.false in
    let t = c.take_in-n.ensures in
    scan-on (called a.bins.now vs) a.s _ _ _ _ _ _ l.j l.n l.invariant n (c.hash_of-g.ensures ∙ ap hash_of i) _ _ _ t.taken t.chained_2
    c.take_in-n.auto.keys c.take_in-n.auto.older c.take_in-n.auto.heads

pub shape_of-keys : goal.shape_of-keys
shape_of-keys c =
    c.loop-j.invariant.keys-same

pub shape_of-older : goal.shape_of-older
shape_of-older c =
    c.loop-j.invariant.older-same

pub shape_of-heads : goal.shape_of-heads
shape_of-heads c =
    c.loop-j.invariant.heads-same

pub returns : goal.returns
returns c =
    let a = c.args in
    scan-end (called a.bins.now (entries_of a.bins.now a.e)) a.s _ _ _ _ _ _ _ _ c.loop-j.invariant _ (omega (arith, c.loop-j-test.false))
