use Rattle.tree.specs.Terms.{last_of}
use Rattle.records.specs.Terms.{no_child}
use Rattle.records.proofs.LawsPlaces.{leaf-count, leaf-tested, leaf-some, elements_lie, child-at}
use Rattle.records.specs.Terms.{leaf_of, child_named}
use Rattle.records.specs.Lists.{leaf_children}
use Rattle.records.specs.declared.Leaf.{Leaf}
use Rattle.records.specs.declared.Child.{Child}
use Rattle.cells.specs.Named.{data_at}
use Rattle.cells.specs.Rule.{Map}
use Rattle.std.proofs.Common.{ℕ, ◌-◌, get_or, ap, ◌∙◌, arith}
use Rattle.tree.proofs.last_of.Goals as goal

pub leaf_fields-leaf-requires : goal.leaf_fields-leaf-requires
leaf_fields-leaf-requires c = let t = leaf-tested Map _ _ _ c.requires in omega (arith, t.holds.room)

pub overflow_sub-leaf : goal.overflow_sub-leaf
overflow_sub-leaf c =
    let n = leaf-some Map _ _ _ c.requires in
    let k = leaf-count c.args.bins.now c.args.o in
    rw c.leaf_fields-leaf.ensures (omega arith)

pub child_offset-requires : goal.child_offset-requires
child_offset-requires c =
    let n = leaf-some Map _ _ _ c.requires in
    let k = leaf-count c.args.bins.now c.args.o in
    rw c.leaf_fields-leaf.ensures (omega arith, elements_lie Map _ _ _ c.requires)

pub returns : goal.returns
unfolding last_of
returns c =
    let d = c.args.bins.now in
    let o = c.args.o in
    let n = leaf-some Map _ _ _ c.requires in
    let k = leaf-count d o in
    c.child_offset.ensures
    ∙ ap (λ (x : Child). x.at)
    (ap (λ (l : Leaf). child_named d l (l.count - 1)) c.leaf_fields-leaf.ensures
    ∙ child-at d o ((leaf_of d o).count - 1) _ (omega arith)
    ∙ ap (λ (i : ℕ). get_or (leaf_children (data_at d o)) (i - 1) no_child) k)
