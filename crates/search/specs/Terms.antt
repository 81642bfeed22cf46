-- A key is asked by its offset, and a leaf in two steps.
use Rattle.std.specs.Prelude.{ℕ, false, cond, List, []}
use Rattle.fields.specs.declared.Offset.{Offset}
use Rattle.cells.specs.Rule.{Header}
use Rattle.names.specs.Comparison.{compare}
use Rattle.records.specs.declared.Child.{Child}
use Rattle.records.specs.Keys.{key_fault}
use Rattle.tree.specs.Tree.{name_at, is_before}
use Rattle.search.specs.declared.Turn.{Turn}
use Rattle.search.specs.declared.Turn.TheVariants.{Right, Stop}
use Rattle.search.specs.Quick.{on_sound_turn, last_child, quick_keys}

-- what stands beside the offset of an element is not asked for, and not read
abbrev pub by_offset : Offset → Child
by_offset o = record { at = o; hashed = false; hinted = false; beside = 0 }

-- by its last key, where its first key does not stand behind the name
abbrev pub asked_last : List ℕ → List ℕ → List Child → Turn
asked_last d x cs =
    on_sound_turn (key_fault Header d [] (last_child cs).at)
    (cond (is_before (compare (name_at d (last_child cs).at) x)) Right (Stop (quick_keys d x cs)))
