-- The cycle of calls {count_leaf, count_list}. A leaf has twice the levels left, a list one more than its leaves; along a list and along a
-- leaf the loops go on by themselves. Assumes nothing.
use Rattle.std.proofs.Common.{◌-◌, length, sym, refl, ap, ◌∙◌, arith}
use Rattle.records.proofs.LawsPlaces.{named-length}
use Rattle.records.proofs.LawsElements.{elements-length, elements-are}
use Rattle.records.proofs.Elements.{leaf-there, leaf-in}
use Rattle.records.specs.Listed.{keys_in}
use Rattle.records.specs.Terms.{leaves_named, elements_of}
use Rattle.security_pass.proofs.Laws.{length-visited, ready-still, Over, none_left, part-on, part-stop, key-alone, key_below, key-stop, leaf-parts, leaf-over, list-parts, list_over, no_keys}
use Rattle.security_pass.proofs.Rooms.{some_level, key-room, level-again, list-none, list-lies, list-is, list-leaf, leaf_room, leaf-lies, leaf-child, offset_at, offset-legible}
use Rattle.security_pass.proofs.+count_leaf_count_list.Goals.{count_leaf-then-k-ne0+in_default, count_leaf-else-k-ne0}
use Rattle.security_pass.proofs.+count_leaf_count_list.Goals as goal
use Rattle.std.specs.Prelude.{None}

-- count_leaf
pub count_leaf-leaf_fields-leaf-requires : goal.count_leaf-leaf_fields-leaf-requires
count_leaf-leaf_fields-leaf-requires t c = leaf_room c.requires.legible_leaf

pub count_leaf-child_offset-at-requires : goal.count_leaf-child_offset-at-requires
count_leaf-child_offset-at-requires t c = (c.loop-i-test.true, leaf-lies c.requires.legible_leaf c.leaf_fields-leaf.ensures)

pub count_leaf-visit-requires-clause-in_bounds : goal.count_leaf-visit-requires-clause-in_bounds
count_leaf-visit-requires-clause-in_bounds t c =
    let f = leaf-child c.requires.legible_leaf c.leaf_fields-leaf.ensures in
    key-room (offset-legible _ _ c.loop-i.i c.loop-i-test.true f c.child_offset-at.ensures)

pub count_leaf-returns-then-visit : goal.count_leaf-returns-then-visit
count_leaf-returns-then-visit t c =
    let a = c.args in
    let o = c.loop-i in
    let l = c.leaf_fields-leaf in
    let p = c.loop-i-test.true in
    let h = c.child_offset-at.ensures in
    let v = c.visit.ensures in
    let n = elements-length a.bins.now l.result in
    let g = offset-legible _ _ o.i p (leaf-child c.requires.legible_leaf l.ensures) h in
    let k = key-stop _ _ _ _ a.levels _ _ _ (some_level g) v.counts_after (sym v.value ∙ c.if-visit.true) in
    let s =
    part-stop _ _ _ _ o.invariant _ _
    (leaf-parts a.bins.now a.levels (elements_of a.bins.now l.result) o.i (omega arith) (offset_at _ _ o.i p h)) k.sought
    k.counts refl in
    rw (elements-are _ _ l.ensures) record { value = s.sought; counts_after = s.counts }

pub count_leaf-key_fields-k-requires : goal.count_leaf-key_fields-k-requires
count_leaf-key_fields-k-requires t c =
    let f = leaf-child c.requires.legible_leaf c.leaf_fields-leaf.ensures in
    key-room (offset-legible _ _ c.loop-i.i c.loop-i-test.true f c.child_offset-at.ensures)

pub count_leaf-overflow_sub-levels : goal.count_leaf-overflow_sub-levels
count_leaf-overflow_sub-levels t c =
    let f = leaf-child c.requires.legible_leaf c.leaf_fields-leaf.ensures in
    let z = some_level (offset-legible _ _ c.loop-i.i c.loop-i-test.true f c.child_offset-at.ensures) in
    omega arith

pub count_leaf-count_list-requires : goal.count_leaf-count_list-requires
count_leaf-count_list-requires t c =
    let f = leaf-child c.requires.legible_leaf c.leaf_fields-leaf.ensures in
    let g = offset-legible _ _ c.loop-i.i c.loop-i-test.true f c.child_offset-at.ensures in
    let z = some_level g in (
      omega (arith, c.decreases),
      (level-again g, ready-still c.requires.ready (ap length c.visit.ensures.counts_after ∙ length-visited _ _ _ _ _ ∙ omega arith)),
    )

pub count_leaf-returns-in-Some : goal.count_leaf-returns-in-Some
count_leaf-returns-in-Some t c =
    let a = c.args in
    let o = c.loop-i in
    let l = c.leaf_fields-leaf in
    let p = c.loop-i-test.true in
    let h = c.child_offset-at.ensures in
    let v = c.visit.ensures in
    let e = c.in-Some.ensures in
    let n = elements-length a.bins.now l.result in
    let g = offset-legible _ _ o.i p (leaf-child c.requires.legible_leaf l.ensures) h in
    let k =
    key_below _ _ _ _ a.levels _ _ _ (some_level g) v.counts_after
    (sym v.value ∙ c.if-visit.false) e.value e.counts_after in
    let s =
    part-stop _ _ _ _ o.invariant _ _
    (leaf-parts a.bins.now a.levels (elements_of a.bins.now l.result) o.i (omega arith) (offset_at _ _ o.i p h)) k.sought
    k.counts refl in
    rw (elements-are _ _ l.ensures) record { value = s.sought; counts_after = s.counts }

pub count_leaf-loop-i-preserved : goal.count_leaf-loop-i-preserved
count_leaf-loop-i-preserved t c =
    let a = c.args in
    let o = c.loop-i in
    let l = c.leaf_fields-leaf in
    let p = c.loop-i-test.true in
    let h = c.child_offset-at.ensures in
    let v = c.visit.ensures in
    let g = offset-legible _ _ o.i p (leaf-child c.requires.legible_leaf l.ensures) h in
    let n = elements-length a.bins.now l.result in
    let k : Over a.bins.now a.table.now a.w a.map.now o.counts (keys_in a.bins.now a.levels c.child_offset-at.result) None c.if-k-ne0.counts =
    elim c.if-k-ne0.branch [
      | count_leaf-then-k-ne0+in_default w ↦ rw w.counts-is
          (key_below _ _ _ _ a.levels _ _ _ (some_level g) v.counts_after (sym v.value ∙ c.if-visit.false)
          w.in_default.ensures.value w.in_default.ensures.counts_after)
      | count_leaf-else-k-ne0 w ↦ rw w.counts-is
          (key-alone _ _ _ _ a.levels _ _ _ (some_level g) v.counts_after (sym v.value ∙ c.if-visit.false)
          (list-none (a.levels - 1) (level-again g) c.key_fields-k.ensures w.if-k-ne0.false))
    ] in
    part-on _ _ _ _ o.invariant _ _
    (leaf-parts a.bins.now a.levels (elements_of a.bins.now l.result) o.i (omega arith) (offset_at _ _ o.i p h)) k.sought k.counts refl

pub count_leaf-returns : goal.count_leaf-returns
count_leaf-returns t c =
    let a = c.args in
    let o = c.loop-i in
    let l = c.leaf_fields-leaf in
    let n = elements-length a.bins.now l.result in
    let s = none_left _ _ _ _ o.invariant (leaf-over a.bins.now a.levels (elements_of a.bins.now l.result) o.i (omega arith)) in
    rw (elements-are _ _ l.ensures) record { value = s.sought; counts_after = s.counts }

-- count_list
pub count_list-returns-then-k-eq0 : goal.count_list-returns-then-k-eq0
count_list-returns-then-k-eq0 t c =
    let a = c.args in
    let s = no_keys _ _ _ _ a.levels _ _ (list-none a.levels c.requires.legible c.key_fields-k.ensures c.if-k-eq0.true) in
    record { value = s.sought; counts_after = s.counts }

pub count_list-count_leaf-requires : goal.count_list-count_leaf-requires
count_list-count_leaf-requires t c =
    let g = c.requires.legible in
    let q = c.key_fields-k.ensures in
    let r = c.leaves_fields-ls.ensures in
    let i = list-lies c.args.levels g q c.if-k-eq0.false r in (
      omega (arith, c.decreases),
      (
        list-leaf c.args.levels g q c.if-k-eq0.false r _ (leaf-in _ _ i c.loop-j.j c.loop-j-test.true c.leaf_offset-o.ensures),
        ready-still c.requires.ready (omega arith),
      ),
    )

pub count_list-returns-in-Some : goal.count_list-returns-in-Some
count_list-returns-in-Some t c =
    let a = c.args in
    let o = c.loop-j in
    let l = c.leaves_fields-ls.result in
    let e = c.in-Some.ensures in
    let i = list-lies a.levels c.requires.legible c.key_fields-k.ensures c.if-k-eq0.false c.leaves_fields-ls.ensures in
    let n = named-length a.bins.now l i in
    let s =
    part-stop _ _ _ _ o.invariant _ _
    (list-parts a.bins.now a.levels (leaves_named a.bins.now l) o.j (omega arith)
    (leaf-there _ _ i o.j c.loop-j-test.true c.leaf_offset-o.ensures))
    e.value e.counts_after refl in
    rw (list-is a.levels c.requires.legible c.key_fields-k.ensures c.if-k-eq0.false c.leaves_fields-ls.ensures)
    record { value = s.sought; counts_after = s.counts }

pub count_list-loop-j-preserved : goal.count_list-loop-j-preserved
count_list-loop-j-preserved t c =
    let a = c.args in
    let o = c.loop-j in
    let l = c.leaves_fields-ls.result in
    let i = list-lies a.levels c.requires.legible c.key_fields-k.ensures c.if-k-eq0.false c.leaves_fields-ls.ensures in
    let n = named-length a.bins.now l i in
    part-on _ _ _ _ o.invariant _ _
    (list-parts a.bins.now a.levels (leaves_named a.bins.now l) o.j (omega arith)
    (leaf-there _ _ i o.j c.loop-j-test.true c.leaf_offset-o.ensures))
    c.in_default.ensures.value c.in_default.ensures.counts_after refl

pub count_list-returns : goal.count_list-returns
count_list-returns t c =
    let a = c.args in
    let o = c.loop-j in
    let l = c.leaves_fields-ls.result in
    let i = list-lies a.levels c.requires.legible c.key_fields-k.ensures c.if-k-eq0.false c.leaves_fields-ls.ensures in
    let n = named-length a.bins.now l i in
    let s = none_left _ _ _ _ o.invariant (list_over a.bins.now a.levels (leaves_named a.bins.now l) o.j (omega arith)) in
    rw (list-is a.levels c.requires.legible c.key_fields-k.ensures c.if-k-eq0.false c.leaves_fields-ls.ensures)
    record { value = s.sought; counts_after = s.counts }
