-- The measures of the cycle of calls {check_key, check_leaf, check_list, check_siblings}. A key has four times the levels left, a row one more than its keys, a
-- leaf one more than its row, a list one more than its leaves.
use Rattle.std.proofs.Common.{◌≡◌, ◌+◌, ◌*◌, ◌≤◌, drop}
use mathlib.Core.List.{Memᴰ}
use Rattle.fields.specs.declared.Offset.{Offset}
use Rattle.cells.specs.Rule.{Map}
use Rattle.records.specs.Lists.{leaf_fault, children_in}
use Rattle.records.specs.Terms.{leaves_named, LeavesLie}
use Rattle.tree.specs.Tree.{list_answer}
use Rattle.tree.specs.Terms.{ArrivalFits, RowLies, row_children}
use Rattle.tree.proofs.+check_key_check_leaf_check_list_check_siblings.Given as goal
use Rattle.std.specs.Prelude.{Ok}

abbrev pub decreases-check_key : goal.decreases-check_key
decreases-check_key l = 4 * l.levels

abbrev pub decreases-check_leaf : goal.decreases-check_leaf
decreases-check_leaf l = 4 * l.levels + 2

abbrev pub decreases-check_list : goal.decreases-check_list
decreases-check_list l = 4 * l.levels + 3

abbrev pub decreases-check_siblings : goal.decreases-check_siblings
decreases-check_siblings l = 4 * l.levels + 1

-- what is left of the leaves answers as the whole does, and the sibling before was tested
abbrev pub invariant-check_list-loop-j : goal.invariant-check_list-loop-j
invariant-check_list-loop-j l =
    (l.j ≤ l.ls.count) × LeavesLie l.bins l.ls × ((o : Offset) → Memᴰ o (leaves_named l.bins l.ls) → leaf_fault Map l.bins l.map o ≡ Ok tt)
    × ArrivalFits l.bins l.l
    × (list_answer l.bins l.map l.hive l.levels l.key l.initial.l (children_in l.bins (leaves_named l.bins l.ls)) l.initial.t
    ≡ list_answer l.bins l.map l.hive l.levels l.key l.l (children_in l.bins (drop l.j (leaves_named l.bins l.ls))) l.t)

-- what is left of a row answers as the whole does, and the sibling before was tested
abbrev pub invariant-check_siblings-loop-i : goal.invariant-check_siblings-loop-i
invariant-check_siblings-loop-i l =
    (l.i ≤ l.row.count) × RowLies l.bins l.row × ArrivalFits l.bins l.l
    × (list_answer l.bins l.map l.hive l.levels l.key l.initial.l (row_children l.bins l.row) l.initial.t
    ≡ list_answer l.bins l.map l.hive l.levels l.key l.l (drop l.i (row_children l.bins l.row)) l.t)
