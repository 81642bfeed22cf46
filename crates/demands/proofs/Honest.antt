-- No program that meets its promise commits one of the five frauds.
use Prim.Native.Nat.{ℕ}
use native.Mathlib.Omega.{arith}
use mathlib.Core.Path.{◌≡◌, refl, sym, ap, ◌∙◌}
use mathlib.Core.List.{List, []}
use lib.ListN.{get_or, replicate}
use Rattle.fields.specs.declared.Fault.TheVariants.{HiveShort}
use Rattle.fields.specs.Number.{u16_at, u32_at, size_at}
use Rattle.fields.specs.Bytes.{same_bytes, stands_at}
use Rattle.fields.specs.Faults.{◌next◌, fault_over, flaw, nowhere, no_key, refusal_of}
use Rattle.base.specs.Block.{xors, as_stored, stored_checksum, is_version, is_bins_size, block_fault, base_fault}
use Rattle.cells.specs.Tiling.{good_size, tiling_n, tiling, row_of, bin_size, layout_n, layout, add_row, survey_of}
use Rattle.bitmap.specs.Bits.{zeros}
use Rattle.cells.specs.Map.{mark_at, marks, is_bad, marks_all, map_after, is_marked}
use Rattle.cells.specs.Survey.{front_fault, survey_answer, map_left}
use Rattle.cells.specs.Named.{is_named, by_header, cell_of, cell_fault, data_of, data_at}
use Rattle.names.specs.Codes.{codes, characters_in, has_code}
use Rattle.records.specs.Keys.{is_key_name, is_key, key_fault, key_in, key_of, security_of, codes_of}
use Rattle.records.specs.Lists.{children_in, leaves_below, children_below, lists_fault}
use Rattle.values.specs.Lists.{values_of, value_list_fault, values_fault}
use Rattle.fields.specs.Charges.{◌after◌}
use Rattle.records.specs.Listed.{joined, keys_in}
use Rattle.security.specs.Items.{is_item, item_in, item_of, has_room, is_linked, named_by, is_joined, link_fault, count_fault, item_fault, closes_at, ring_fault, ring_of, is_among, off_charge, security_charge}
use Rattle.namesakes.specs.Namesakes.{repeat_fault, namesake_fault}
use Rattle.tree.specs.Tree.{place_fault, hash_fault, hint_fault, beside_fault, level_fault, total_fault, rest_fault, own_fault, key_charge, list_charge, tree_charge, values_in, check_answer}
use Rattle.tree.proofs.Exactly.{accepted-as}
use Rattle.paths.specs.Paths.{split, parts_of, is_part, are_parts, is_path, path_fault}
use Rattle.paths.specs.Descent.{descend_by, lookup_key_by}
use Rattle.paths.specs.Answers.{open_fault, key_look_by, find_by, find_answer}
use Rattle.sectors.specs.Sector.{page}
use Rattle.logs.specs.Small.{log, hive}
use Rattle.logs.proofs.Small.{small-zero, small-fifteen, zero-logged, fifteen-logged}
use Rattle.recovery.specs.Calls.{page_hive}
use Rattle.recovery.proofs.Accepts.{start-accepted}
use Rattle.recovery.proofs.Small.{small-accepted}
use Rattle.recovery.proofs.Within.{within-self, page-is, page-stays}
use Rattle.figures.specs.Inputs.{header, base_block, root_cell, minimal, root_with_item, item_cell, with_item}
use Rattle.demands.specs.Frauds.{NoFraud}
use Rattle.std.specs.Prelude.{Err, Ok}

-- "with an empty item after the key, linked to itself, it gives used 112 free 3952"
item-accepted : check_answer with_item (replicate 64 0) ≡ Ok (record { bins = 1; keys = 1; values = 0; used = 112; free = 3952 })
unfolding check_answer survey_answer map_left front_fault base_fault block_fault is_version is_bins_size stored_checksum as_stored xors u32_at u16_at size_at stands_at same_bytes ◌next◌ good_size tiling_n tiling row_of bin_size layout_n layout add_row survey_of mark_at marks is_bad marks_all zeros map_after is_marked is_named by_header cell_of cell_fault data_of data_at codes characters_in has_code is_key_name is_key key_fault key_in key_of codes_of children_in leaves_below children_below lists_fault values_of value_list_fault values_fault fault_over ◌after◌ place_fault hash_fault hint_fault beside_fault repeat_fault namesake_fault level_fault total_fault rest_fault own_fault key_charge list_charge tree_charge joined keys_in values_in security_of is_item item_in item_of has_room is_linked named_by is_joined link_fault count_fault item_fault closes_at ring_fault ring_of is_among off_charge security_charge header base_block root_with_item item_cell with_item
item-accepted = refl

minimal-root : find_answer minimal [] ≡ Ok (record { 0 = 32 })
unfolding find_by key_look_by open_fault lookup_key_by descend_by path_fault is_path are_parts is_part parts_of split base_fault block_fault is_version is_bins_size stored_checksum as_stored xors u32_at u16_at size_at stands_at same_bytes ◌next◌ good_size is_named by_header cell_of cell_fault data_of data_at codes characters_in has_code is_key_name is_key key_fault header base_block root_cell minimal
minimal-root = refl

nothing-checked : check_answer [] [] ≡ Err (refusal_of no_key (flaw HiveShort nowhere))
unfolding check_answer survey_answer front_fault base_fault ◌next◌
nothing-checked = refl

nothing-found : find_answer [] [] ≡ Err (refusal_of no_key (flaw HiveShort nowhere))
unfolding find_by key_look_by open_fault base_fault ◌next◌
nothing-found = refl

-- the first call of the small repair: page 0 is then the log's, and page 15 still the hive's
page-zero : get_or (page (page_hive hive (log 512) 0) 0) 28 0 ≡ 7
page-zero =
    ap (λ (x : List ℕ). get_or x 28 0) (page-is hive (log 512) 2 small-accepted hive (within-self hive (log 512)) 0 zero-logged) ∙ small-zero

page-fifteen : get_or (page (page_hive hive (log 512) 0) 15) 0 0 ≡ 0
unfolding page hive
page-fifteen = ap (λ (x : List ℕ). get_or x 0 0) (page-stays hive (log 512) 2 small-accepted hive (within-self hive (log 512)) 0 15 (λ z. omega arith))

pub no-fraud : NoFraud
unfolding page hive
no-fraud =
    record {
      refuse-hives = λ check p f. let r = f with_item (replicate 64 0) in let e = sym r.1 ∙ p with_item (replicate 64 0) ∙ item-accepted in let z : ◌≡◌ {A = ℕ} 0 1 = cc in omega arith;
      refuse-logs = λ start p f. let r = f hive (log 512) in let e = sym r.1 ∙ p hive (log 512) ∙ small-accepted in let z : ◌≡◌ {A = ℕ} 0 1 = cc in omega arith;
      constant-key = λ find p a f. let e = sym nothing-found ∙ sym (p [] []) ∙ f [] [] ∙ sym (f minimal []) ∙ p minimal [] ∙ minimal-root in let z : ◌≡◌ {A = ℕ} 0 1 = cc in omega arith;
      constant-check = λ check p a f. let e = sym nothing-checked ∙ sym (p [] []) ∙ f [] [] ∙ sym (f with_item (replicate 64 0)) ∙ p with_item (replicate 64 0) ∙ item-accepted in let z : ◌≡◌ {A = ℕ} 0 1 = cc in omega arith;
      do-nothing = λ left p f. let e = sym page-zero ∙ ap (λ (x : List ℕ). get_or (page x 0) 28 0) (sym (p hive (log 512) 0) ∙ f hive (log 512) 0) in let z : ◌≡◌ {A = ℕ} 7 0 = e in omega arith;
      install-all = λ left p f. let e = sym page-fifteen ∙ ap (λ (x : List ℕ). get_or x 0 0) (ap (λ (x : List ℕ). page x 15) (sym (p hive (log 512) 0)) ∙ f hive (log 512) 0 15 fifteen-logged) ∙ small-fifteen in let z : ◌≡◌ {A = ℕ} 0 9 = e in omega arith;
      invent-report = λ check p h m r e. let a = accepted-as h m (sym (p h m) ∙ e) in (a.tally, a.surveys, a.report);
      invent-pages = λ start p h l n e. sym (start-accepted h l n (sym (p h l) ∙ e)).1;
    }
