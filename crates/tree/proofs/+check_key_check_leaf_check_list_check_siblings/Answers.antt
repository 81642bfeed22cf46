-- The proof of the cycle of calls {check_key, check_leaf, check_list, check_siblings}. Assumes nothing.
use Rattle.std.proofs.Common.{sym, refl, ◌∙◌, arith}
use Rattle.std.proofs.lemmas.Result.{err_from_is_err_and}
use Rattle.cells.specs.Rule.{Map}
use Rattle.records.specs.Terms.{leaves_named}
use Rattle.records.proofs.LawsPlaces.{leaf-tested, leaf-some, elements_lie, leaves-lie, named-length}
use Rattle.records.proofs.LawsElements.{elements-are}
use Rattle.records.proofs.Elements.{leaf-there, leaf-in, no-children, head-sound, head-room, as-list, each-sound}
use Rattle.tree.specs.Terms.{row_children}
use Rattle.tree.proofs.Charges.{key-parts}
use Rattle.tree.proofs.Rows.{row-length, leaf-row, leaf-children}
use Rattle.tree.proofs.Subtrees.{key-refused, level-left, key-on, end-nil, leaf-stop, leaf-on, leaf-end, leaves-stop, leaves-on, leaves-end, key_fits, leaf-fits}
use Rattle.tree.proofs.+check_key_check_leaf_check_list_check_siblings.Goals as goal

-- check_key
pub check_key-overflow_sub-levels : goal.check_key-overflow_sub-levels
check_key-overflow_sub-levels t c = level-left _ _ _ _ _ _ c.in_ok-k.ensures.1

pub check_key-check_list-requires : goal.check_key-check_list-requires
check_key-check_list-requires t c =
    let l = level-left _ _ _ _ _ _ c.in_ok-k.ensures.1 in
    let p = key-parts _ _ _ _ _ _ c.in_ok-k.ensures.1 in
    (omega arith, rw c.in_ok-k.ensures.0 p.1.lists)

pub check_key-returns-in_err-k : goal.check_key-returns-in_err-k
check_key-returns-in_err-k t c =
    let p = err_from_is_err_and c.from_residual.result c.from_residual.ensures.1 in
    rw (p.1, p.2) (sym (key-refused _ _ _ _ _ _ _ c.in_err-k.ensures))

pub check_key-returns : goal.check_key-returns
check_key-returns t c =
    c.check_list.ensures ∙ sym (key-on _ _ _ _ _ _ _ _ _ c.in_ok-k.ensures.0 c.in_ok-k.ensures.1 c.tally.ensures)

-- check_leaf
pub check_leaf-leaf_fields-leaf-requires : goal.check_leaf-leaf_fields-leaf-requires
check_leaf-leaf_fields-leaf-requires t c = let p = leaf-tested Map _ _ _ c.requires.o_value in omega (arith, p.holds.room)

pub check_leaf-check_siblings-requires : goal.check_leaf-check_siblings-requires
check_leaf-check_siblings-requires t c = (
  omega arith,
  (leaf-row _ _ (rw c.leaf_fields-leaf.ensures (elements_lie Map _ _ _ c.requires.o_value)), c.requires.arrival_fits),
)

pub check_leaf-returns : goal.check_leaf-returns
check_leaf-returns t c =
    let q = c.leaf_fields-leaf.ensures in
    let s = leaf-children c.args.bins.now c.leaf_fields-leaf.result (rw q (elements_lie Map _ _ _ c.requires.o_value)) in
    rw (elements-are _ _ q, ← s) c.check_siblings.ensures

-- check_siblings
pub check_siblings-returns-in_err-t : goal.check_siblings-returns-in_err-t
check_siblings-returns-in_err-t t c =
    let a = c.args in
    let o = c.loop-i in
    let n = row-length a.bins.now a.row o.invariant.1 in
    let p = err_from_is_err_and c.from_residual.result c.from_residual.ensures.1 in
    let q =
    leaf-stop _ _ _ _ _ _ _ (row_children a.bins.now a.row) o.i _ _ o.invariant.3 _ (omega arith)
    c.row_child-c.ensures (sym c.check_key.ensures ∙ c.in_err-t.was) in
    rw (p.1, p.2, q)

pub check_siblings-loop-i-preserved : goal.check_siblings-loop-i-preserved
check_siblings-loop-i-preserved t c =
    let a = c.args in
    let o = c.loop-i in
    let n = row-length a.bins.now a.row o.invariant.1 in
    let w = sym c.check_key.ensures ∙ c.in_ok-t.was in (
      omega arith,
      o.invariant.1,
      key_fits _ _ _ _ a.key _ _ _ w,
      leaf-on _ _ _ _ _ _ _ (row_children a.bins.now a.row) o.i _ _ o.invariant.3 _ (omega arith)
          c.row_child-c.ensures w,
    )

pub check_siblings-returns : goal.check_siblings-returns
check_siblings-returns t c =
    let a = c.args in
    let o = c.loop-i in
    let n = row-length a.bins.now a.row o.invariant.1 in
    sym (leaf-end _ _ _ _ _ _ _ (row_children a.bins.now a.row) o.i _ _ o.invariant.3 (omega arith))

-- check_list
pub check_list-returns-then-k-eq0 : goal.check_list-returns-then-k-eq0
check_list-returns-then-k-eq0 t c =
    rw (no-children c.args.bins.now c.args.k c.if-k-eq0.true) (sym (end-nil _ _ _ _ _ _ _))

pub check_list-leaves_fields-ls-requires : goal.check_list-leaves_fields-ls-requires
check_list-leaves_fields-ls-requires t c = head-room _ _ _ c.requires c.if-k-eq0.false

pub check_list-loop-j-init : goal.check_list-loop-j-init
check_list-loop-j-init t c =
    let h = head-sound _ _ _ c.requires c.if-k-eq0.false in (
      omega arith,
      rw c.leaves_fields-ls.ensures (leaves-lie Map _ _ _ h),
      each-sound _ _ _ c.requires c.if-k-eq0.false c.leaves_fields-ls.ensures,
      tt,
      refl,
    )

pub check_list-check_leaf-requires : goal.check_list-check_leaf-requires
check_list-check_leaf-requires t c =
    let o = c.loop-j in (
      omega arith,
      (o.invariant.2 _ (leaf-in _ _ o.invariant.1 o.j c.loop-j-test.true c.leaf_offset-o.ensures), o.invariant.3),
    )

pub check_list-returns-in_err-t : goal.check_list-returns-in_err-t
check_list-returns-in_err-t t c =
    let a = c.args in
    let o = c.loop-j in
    let n = named-length a.bins.now c.leaves_fields-ls.result o.invariant.1 in
    let p = err_from_is_err_and c.from_residual.result c.from_residual.ensures.1 in
    rw
    (p.1, p.2, as-list _ _ _ c.requires c.if-k-eq0.false c.leaves_fields-ls.ensures)
    (sym
    (leaves-stop _ _ _ _ _ _ _ (leaves_named a.bins.now c.leaves_fields-ls.result) o.j _ _ o.invariant.4 _ (omega arith)
    (leaf-there _ _ o.invariant.1 o.j c.loop-j-test.true c.leaf_offset-o.ensures)
    (sym c.check_leaf.ensures ∙ c.in_err-t.was)))

pub check_list-last_of-requires : goal.check_list-last_of-requires
check_list-last_of-requires t c =
    let o = c.loop-j in
    o.invariant.2 _ (leaf-in _ _ o.invariant.1 o.j c.loop-j-test.true c.leaf_offset-o.ensures)

pub check_list-loop-j-preserved : goal.check_list-loop-j-preserved
check_list-loop-j-preserved t c =
    let a = c.args in
    let o = c.loop-j in
    let n = named-length a.bins.now c.leaves_fields-ls.result o.invariant.1 in
    let s = o.invariant.2 _ (leaf-in _ _ o.invariant.1 o.j c.loop-j-test.true c.leaf_offset-o.ensures) in
    let w = sym c.check_leaf.ensures ∙ c.in_ok-t.was in (
      omega arith,
      o.invariant.1,
      o.invariant.2,
      rw c.last_of.ensures (leaf-fits _ _ _ _ a.key _ _ _ (leaf-some Map _ _ _ s) w),
      leaves-on _ _ _ _ _ _ _ (leaves_named a.bins.now c.leaves_fields-ls.result)
          o.j _ _ o.invariant.4 _ _ (omega arith)
          (leaf-there _ _ o.invariant.1 o.j c.loop-j-test.true c.leaf_offset-o.ensures)
          (leaf-some Map _ _ _ s) c.last_of.ensures w,
    )

pub check_list-returns : goal.check_list-returns
check_list-returns t c =
    let a = c.args in
    let o = c.loop-j in
    let n = named-length a.bins.now c.leaves_fields-ls.result o.invariant.1 in
    rw
    (as-list _ _ _ c.requires c.if-k-eq0.false c.leaves_fields-ls.ensures)
    (sym (leaves-end _ _ _ _ _ _ _ (leaves_named a.bins.now c.leaves_fields-ls.result) o.j _ _ o.invariant.4 (omega arith)))
