use Rattle.std.proofs.Common.{◌+◌, ◌*◌, drop}
use Rattle.records.specs.Lists.{children_in}
use Rattle.records.specs.Listed.{joined, keys_in}
use Rattle.records.specs.Terms.{leaves_named, elements_of}
use Rattle.security_pass.proofs.Laws.{OnTo}
use Rattle.security_pass.proofs.+count_leaf_count_list.Given as goal

-- a leaf has twice the levels left
abbrev pub decreases-count_leaf : goal.decreases-count_leaf
decreases-count_leaf l = 2 * l.levels

-- and a list one more than its leaves
abbrev pub decreases-count_list : goal.decreases-count_list
decreases-count_list l = 2 * l.levels + 1

-- what is left of a leaf comes to what the whole does
abbrev pub invariant-count_leaf-loop-i : goal.invariant-count_leaf-loop-i
invariant-count_leaf-loop-i l =
    OnTo l.bins l.table l.w l.map l.initial.counts (joined (keys_in l.bins l.levels) (elements_of l.bins l.leaf)) l.counts
    (joined (keys_in l.bins l.levels) (drop l.i (elements_of l.bins l.leaf)))

abbrev pub invariant-count_list-loop-j : goal.invariant-count_list-loop-j
invariant-count_list-loop-j l =
    OnTo l.bins l.table l.w l.map l.initial.counts (joined (keys_in l.bins l.levels) (children_in l.bins (leaves_named l.bins l.ls))) l.counts
    (joined (keys_in l.bins l.levels) (children_in l.bins (drop l.j (leaves_named l.bins l.ls))))
