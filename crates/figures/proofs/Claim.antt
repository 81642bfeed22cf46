-- The table's one claim: a test that is computed over the whole table, and a law that turns the test into the claim for each figure.
use mathlib.Core.Path.{◌≡◌, refl, sym, subst}
use mathlib.Core.Bool.{Bool, true, ◌&&◌}
use mathlib.Core.Logic.{⊎_elim}
use mathlib.Core.List.Memᴰ
use mathlib.Core.List.{List, [], ◌∷◌, Memᴰ}
use Rattle.fields.specs.Number.{u16_at, u32_at, u64_at, size_at}
use Rattle.fields.specs.Bytes.{same_bytes, stands_at}
use Rattle.fields.specs.Faults.{◌next◌, fault_over}
use Rattle.fields.proofs.Bools.{and-inv}
use Rattle.base.specs.Block.{xors, as_stored, stored_checksum, is_version, is_bins_size, usable, clean, block_fault, base_fault}
use Rattle.cells.specs.Tiling.{good_size, tiling_n, tiling, row_of, bin_size, layout_n, layout, add_row, survey_of}
use Rattle.cells.specs.Map.{mark_at, marks, is_bad, marks_all, map_after, is_marked}
use Rattle.cells.specs.Survey.{front_fault, survey_answer, map_left}
use Rattle.cells.specs.Named.{is_named, by_header, cell_of, cell_fault, data_of, data_at}
use Rattle.names.specs.Codes.{codes, characters_in, has_code}
use Rattle.names.specs.Upper_case.{upper, uppers}
use Rattle.names.specs.Comparison.{by_code, compare}
use Rattle.names.specs.Hashing.{mixed, mixed_all, hash_of}
use Rattle.records.specs.Keys.{is_key_name, is_key, key_fault, key_in, key_of, security_of, codes_of}
use Rattle.records.specs.Lists.{children_in, leaves_below, children_below, lists_fault}
use Rattle.values.specs.Lists.{values_of, value_list_fault, values_fault}
use Rattle.fields.specs.Charges.{◌after◌}
use Rattle.records.specs.Listed.{joined, keys_in}
use Rattle.security.specs.Items.{is_item, item_in, item_of, has_room, is_linked, named_by, is_joined, link_fault, count_fault, item_fault, closes_at, ring_fault, ring_of, is_among, off_charge, security_charge}
use Rattle.namesakes.specs.Namesakes.{repeat_fault, namesake_fault}
use Rattle.tree.specs.Tree.{place_fault, hash_fault, hint_fault, beside_fault, level_fault, total_fault, rest_fault, own_fault, key_charge, list_charge, tree_charge, values_in, check_answer}
use Rattle.sectors.specs.Sector.{page}
use Rattle.sectors.proofs.Logged.{same_true}
use Rattle.bitmap.specs.Bits.{bits_before, next_among, zeros}
use Rattle.old_log.specs.Layout.{bitmap, logged}
use Rattle.old_log.specs.Tests as old
use Rattle.logs.specs.Logs.{is_new, log_fault, log_bins, logged_count, next_logged, logged_place, applies}
use Rattle.recovery.specs.Calls.{hive_fault, test_fault, start_answer, next_answer}
use Rattle.figures.specs.Inputs.{bare, lone, header, lowest, highest, used, sized, base_block, root_cell, minimal, root_with_item, item_cell, with_item}
use Rattle.figures.specs.Table.{survey_numbers, check_numbers, start_numbers, next_numbers, order_number, test_number, Figure, table, Figures}
use Rattle.logs.specs.Small.{head, log, hive}

-- the test over a table
right : List Figure → Bool
right [] = true
right (f ∷ fs) = same_bytes f.computed f.stated && right fs

-- the law
rule : (fs : List Figure) → right fs ≡ true → (f : Figure) → Memᴰ f fs → f.computed ≡ f.stated
unfolding right
rule [] e f i = absurd (Memᴰ.not-nil i)
rule (g ∷ fs) e f i =
    let p = and-inv (same_bytes g.computed g.stated) _ e in
    ⊎_elim (λ q. subst (λ (x : Figure). x.computed ≡ x.stated) (sym q) (same_true g.computed g.stated p.0)) (λ j. rule fs p.1 f j)
    (Memᴰ.cases_cons i)

computed : right table ≡ true
unfolding is_new right table same_bytes stands_at u16_at u32_at u64_at size_at ◌next◌ fault_over stored_checksum as_stored xors is_version is_bins_size usable clean block_fault base_fault codes characters_in has_code upper uppers by_code compare mixed mixed_all hash_of good_size tiling_n tiling row_of bin_size layout_n layout add_row survey_of mark_at marks is_bad marks_all zeros map_after is_marked front_fault survey_answer map_left is_named by_header cell_of cell_fault data_of data_at is_key_name is_key key_fault key_in key_of codes_of children_in leaves_below children_below lists_fault values_of value_list_fault values_fault ◌after◌ place_fault hash_fault hint_fault beside_fault repeat_fault namesake_fault level_fault total_fault rest_fault own_fault key_charge list_charge tree_charge joined keys_in values_in security_of is_item item_in item_of has_room is_linked named_by is_joined link_fault count_fault item_fault closes_at ring_fault ring_of is_among off_charge security_charge check_answer page bits_before next_among bitmap logged old.is_log_base old.head_fault old.log_fault old.stamps_agree log_fault log_bins logged_count next_logged logged_place applies hive_fault test_fault start_answer next_answer head log hive bare lone header lowest highest used sized base_block root_cell minimal root_with_item item_cell with_item survey_numbers check_numbers start_numbers next_numbers order_number test_number
computed = refl

pub figures : Figures
figures f i = rule table computed f i
