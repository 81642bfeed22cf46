use Rattle.std.proofs.Common.{replicate, refl, rules, sym, ◌∙◌, arith}
use Rattle.chains.proofs.Laws.{none_yet, zeros-are}
use Rattle.security_check.proofs.Batches.{rows, batch-turn}
use Rattle.security_check.proofs.run_batch.Goals as goal

pub gather-b-requires : goal.gather-b-requires
gather-b-requires c = record { from_value = c.requires.item; empty = record { table = none_yet _ _ _ (omega arith) (λ b. zeros-are 2039 b); links = omega arith; few = omega arith } }

pub count_key-requires : goal.count_key-requires
count_key-requires c =
    let t = c.gather-b.ensures.chained in
    let n = c.size_of-n.ensures in record { legible = c.requires.walk.legible; ready = record { chained = rw n t; room = rw n (omega (arith, t.linked.room)) } }

pub compare-requires : goal.compare-requires
compare-requires c =
    let g = c.gather-b.ensures in
    rows _ _ _ _ _ 2048 c.requires g.value c.size_of-n.ensures _ g.holds_from g.chained _ (omega arith)

pub returns-in_err-compare : goal.returns-in_err-compare
returns-in_err-compare c =
    let g = c.gather-b.ensures in
    let n = c.size_of-n.ensures in
    let t =
    batch-turn _ _ _ _ _ 2048 c.requires g.value n _ g.holds_from (replicate 2048 0) _ _ (λ i. zeros-are 2048 i)
    (rw n (omega (arith, g.chained.linked.room))) refl refl
    c.count_key.ensures.counts_after (sym c.in_err-compare.was ∙ c.compare.ensures) in
    search rules

pub returns : goal.returns
returns c =
    let g = c.gather-b.ensures in
    let n = c.size_of-n.ensures in
    c.turn_of.ensures
    ∙ batch-turn _ _ _ _ _ 2048 c.requires g.value n _ g.holds_from (replicate 2048 0) _ _ (λ i. zeros-are 2048 i)
    (rw n (omega (arith, g.chained.linked.room))) refl refl
    c.count_key.ensures.counts_after (sym c.in_ok-compare.was ∙ c.compare.ensures)
