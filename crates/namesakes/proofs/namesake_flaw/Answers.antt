use native.Mathlib.Omega.{arith}
use mathlib.Core.Path.{refl, sym, ◌∙◌, subst}
use Rattle.values.specs.declared.Entries.{Entries}
use Rattle.values.specs.Terms.{Room}
use Rattle.namesakes.proofs.Laws.{flaw-at, none-at, too_few, entries-are, entries-few}
use Rattle.namesakes.proofs.namesake_flaw.Goals as goal

pub returns-then-count-lt2 : goal.returns-then-count-lt2
returns-then-count-lt2 c =
    sym (too_few _ _ _ refl (entries-few _ c.if-count-lt2.true))

pub first_repeated-j-requires : goal.first_repeated-j-requires
first_repeated-j-requires c =
    rw (← entries-are c.args.k (λ e. let z = e in let y = c.if-count-lt2.false in omega arith))
    c.requires

pub entry-requires : goal.entry-requires
entry-requires c = record {
  room = subst (λ (x : Entries). Room c.args.bins.now x)
      (entries-are c.args.k
      (λ e. let z = e in let y = c.if-count-lt2.false in omega arith))
      c.requires.room;
  i_lt_count = c.if-j-count.true;
}

pub returns-then-j-count : goal.returns-then-j-count
returns-then-j-count c =
    let i =
    entries-are c.args.k
    (λ e. let z = e in let y = c.if-count-lt2.false in omega arith) in
    c.flawed.ensures
    ∙ sym (flaw-at _ _ _ i _ c.first_repeated-j.ensures c.if-j-count.true c.entry.ensures)

pub returns : goal.returns
returns c =
    let i =
    entries-are c.args.k (λ e. let z = e in let y = c.if-count-lt2.false in omega arith) in
    sym (none-at _ _ _ i _ c.first_repeated-j.ensures c.if-j-count.false)
