-- Demand 1. "Any bytes given as hive, log, path or name get an answer, and every entry point tests its own input."
--
-- Every public call's contract is an equation, for all lists of bytes and with no condition on them: what it answers is `check_answer h m`, `find_answer h us`,
-- `info_answer h us x`, `view_answer h us x`, `copy_answer h us x n`, `quick_answer h us`, `quick_info h us x`, `quick_view h us x`, `quick_copy h us x n`,
-- `child_answer h o x`, `quick_child h o x`, `spot_answer h o x`,
-- `subkey_answer h o n`, `value_answer h o n`, `info_at h v`, `copy_at h v n`, `facts_answer h o`, `class_answer h o`, `security_answer h o`, `begin_answer h ws`, `step_answer h ws n`, `step_answer h m n room`,
-- `begin_answer h m ws` and `run_answer h ws c room` of an export, `measure_answer s n` and `build_answer s sd room` of a stream, `remnant_answer h from`,
-- `rows_answer h from n`,
-- `settle_answer h`, `compare a b` of two names,
-- `start_answer h l`, `page_answer h l p`, `close_answer h l`, `next_answer l from`, `all_answer h l`, `mark_answer l from`, `marked_answer l n` and
-- `facts_answer l` of a log. These are total functions, so there is an answer. What is left to say is what a refusal is.
use Rattle.std.specs.Prelude.{ℕ, ◌/◌, ◌≤◌, ◌≡◌, ◌↔◌, List, length, take, drop, replicate, Err, Ok}
use Rattle.fields.specs.declared.Fault.{Fault}
use Rattle.fields.specs.declared.Flaw.{Flaw}
use Rattle.fields.specs.declared.Offset.{Offset}
use Rattle.fields.specs.declared.Refusal.{Refusal}
use Rattle.fields.specs.Faults.{number_of, Because, Keyless}
use Rattle.base.specs.Block.{sector, bins_of, bins_data}
use Rattle.cells.specs.Survey.{survey_answer, map_left}
use Rattle.cells.specs.Tiled.{Mapped}
use Rattle.cells.specs.Refused.{OfSurvey}
use Rattle.tree.specs.declared.Report.{Report}
use Rattle.tree.specs.Tree.{check_answer}
use Rattle.tree.specs.Told.{Told, Examined, map_bytes}
use Rattle.search.specs.declared.How.TheVariants.{Halving}
use Rattle.paths.specs.Answers.{find_answer, quick_answer}
use Rattle.paths.specs.Children.{child_answer, quick_child}
use Rattle.paths.specs.Refused.{OfKey, OfKeyBy, OfChild, OfChildBy}
use Rattle.lookup.specs.Answers.{info_answer, view_answer, copy_answer, copy_out, quick_info, quick_view, quick_copy, quick_out}
use Rattle.lookup.specs.Spots.{spot_answer}
use Rattle.lookup.specs.Refused.{OfValue, OfView, OfCopy, OfValueBy, OfViewBy, OfCopyBy, OfSpot}
use Rattle.listing.specs.Members.{subkey_answer, value_answer, info_at, copy_at, out_at, facts_answer}
use Rattle.listing.specs.Pieces.{class_answer, security_answer}
use Rattle.listing.specs.Refused.{OfSubkey, OfNth, OfInfo, OfCopied, OfFacts, OfClass, OfSecurity}
use Rattle.walk.specs.declared.Walked.TheVariants as walked
use Rattle.walk.specs.Answers.{begin_answer, begin_levels, step_answer, step_levels}
use Rattle.walk.specs.Refused.{OfBegin, OfStep}
use Rattle.export.specs.declared.Cursor.{Cursor}
use Rattle.export.specs.Answers.{step_answer as frame_answer, step_out, begin_answer as export_answer, begin_levels as export_levels, run_answer, run_out, run_levels}
use Rattle.export.specs.Refused.{OfFrame, OfBegun, OfRun}
use Rattle.build_answers.specs.declared.Unbuilt.{Unbuilt}
use Rattle.build_answers.specs.Answers.{measure_answer, build_answer, build_out}
use Rattle.build_answers.specs.Refused.{InStream, OfMeasure, OfBuild}
use Rattle.remnants.specs.Remnants.{remnant_answer, rows_answer, rows_out}
use Rattle.remnants.specs.Refused.{OfTiles, OfRows}
use Rattle.recovery.specs.declared.Started.TheVariants as started
use Rattle.recovery.specs.declared.Stepped.TheVariants as stepped
use Rattle.recovery.specs.Calls.{start_answer, page_answer, page_hive, close_answer, close_hive, next_answer}
use Rattle.logs.specs.Refused.{OfHead, OfLog}
use Rattle.recovery.specs.Refused.{OfStart, OfPage, OfClose, OfMarked}
use Rattle.recovery.specs.AtOnce.{all_answer, all_hive, mark_answer, marked_answer, marked_map, facts_answer as log_answer}
use Rattle.recovery.specs.Settling.{settle_answer, settle_hive, OfSettle}

pub record Demand1 : Type 0 where
  -- "A refusal is a number from the listed set": the table has 1 to 27, request 2 adds 28, request 8 adds 29 and request 11 adds 30 to 39
  pub listed : (f : Fault) → (1 ≤ number_of f) × (number_of f ≤ 39)
  -- "with a place": as the table says, each with the reason that its row gives, and with the key under examination (`Because`), or none (`Keyless`)
  pub survey-place : (h : List ℕ) (room : ℕ) (f : Flaw) → survey_answer h room ≡ Err f → OfSurvey h room f
  pub check-place : (h m : List ℕ) (r : Refusal) → check_answer h m ≡ Err r → Because (Told h (length m)) r
  -- the check's key by the number: none for 1 to 10 and while the root is no key, the place for 13 to 15, else a key that the walk has reached
  pub check-key : (h m : List ℕ) (r : Refusal) → check_answer h m ≡ Err r → Examined h r
  pub find-place : (h us : List ℕ) (r : Refusal) → find_answer h us ≡ Err r → Because (OfKey h us) r
  pub info-place : (h us x : List ℕ) (r : Refusal) → info_answer h us x ≡ Err r → Because (OfValue h us x) r
  pub view-place : (h us x : List ℕ) (r : Refusal) → view_answer h us x ≡ Err r → Because (OfView h us x) r
  pub copy-place : (h us x : List ℕ) (n : ℕ) (r : Refusal) → copy_answer h us x n ≡ Err r → Because (OfCopy h us x n) r
  -- the same where the keys of the way are searched by halving
  pub quick-key-place : (h us : List ℕ) (r : Refusal) → quick_answer h us ≡ Err r → Because (OfKeyBy Halving h us) r
  pub quick-info-place : (h us x : List ℕ) (r : Refusal) → quick_info h us x ≡ Err r → Because (OfValueBy Halving h us x) r
  pub quick-view-place : (h us x : List ℕ) (r : Refusal) → quick_view h us x ≡ Err r → Because (OfViewBy Halving h us x) r
  pub quick-copy-place : (h us x : List ℕ) (n : ℕ) (r : Refusal) → quick_copy h us x n ≡ Err r → Because (OfCopyBy Halving h us x n) r
  -- one step of a path, and the first value of a name, from a key's offset
  pub child-place : (h : List ℕ) (o : Offset) (x : List ℕ) (r : Refusal) → child_answer h o x ≡ Err r → Because (OfChild h o x) r
  pub quick-child-place : (h : List ℕ) (o : Offset) (x : List ℕ) (r : Refusal) → quick_child h o x ≡ Err r → Because (OfChildBy Halving h o x) r
  pub spot-place : (h : List ℕ) (o : Offset) (x : List ℕ) (r : Refusal) → spot_answer h o x ≡ Err r → Because (OfSpot h o x) r
  pub subkey-place : (h : List ℕ) (o : Offset) (n : ℕ) (r : Refusal) → subkey_answer h o n ≡ Err r → Because (OfSubkey h o) r
  pub nth-place : (h : List ℕ) (o : Offset) (n : ℕ) (r : Refusal) → value_answer h o n ≡ Err r → Because (OfNth h o) r
  pub at_place : (h : List ℕ) (v : Offset) (r : Refusal) → info_at h v ≡ Err r → Keyless (OfInfo h v) r
  pub copy-at-place : (h : List ℕ) (v : Offset) (n : ℕ) (r : Refusal) → copy_at h v n ≡ Err r → Keyless (OfCopied h v n) r
  pub facts-place : (h : List ℕ) (o : Offset) (r : Refusal) → facts_answer h o ≡ Err r → Keyless (OfFacts h o) r
  pub class-place : (h : List ℕ) (o : Offset) (r : Refusal) → class_answer h o ≡ Err r → Because (OfClass h o) r
  pub security-place : (h : List ℕ) (o : Offset) (r : Refusal) → security_answer h o ≡ Err r → Because (OfSecurity h o) r
  pub begin-place : (h ws : List ℕ) (r : Refusal) → begin_answer h ws ≡ Err r → Keyless (OfBegin h ws) r
  pub step-place : (h ws : List ℕ) (n : ℕ) (r : Refusal) → step_answer h ws n ≡ Err r → Because (OfStep h ws n) r
  pub frame-place : (h m : List ℕ) (n room : ℕ) (r : Refusal) → frame_answer h m n room ≡ Err r → Because (OfFrame h m n room) r
  pub export-place : (h m ws : List ℕ) (r : Refusal) → export_answer h m ws ≡ Err r → Because (OfBegun h m ws) r
  pub run-place : (h ws : List ℕ) (c : Cursor) (room : ℕ) (r : Refusal) → run_answer h ws c room ≡ Err r → Because (OfRun h ws c room) r
  -- of a stream with "the frame's start in the stream" as its place, or 0 for the sizes
  pub measure-place : (s : List ℕ) (n : ℕ) (u : Unbuilt) → measure_answer s n ≡ Err u → InStream (OfMeasure s n) u
  pub build-place : (s sd : List ℕ) (room : ℕ) (u : Unbuilt) → build_answer s sd room ≡ Err u → InStream (OfBuild s (length sd) room) u
  pub remnant-place : (h : List ℕ) (from : ℕ) (r : Refusal) → remnant_answer h from ≡ Err r → Keyless (OfTiles h) r
  pub rows-place : (h : List ℕ) (from n : ℕ) (r : Refusal) → rows_answer h from n ≡ Err r → Keyless (OfRows h from n) r
  -- "1 to 7, 9 and 10 apply": with a map that is large enough, exactly as the check refuses, with the same number and place
  pub refuses-as-check : (h m : List ℕ) (from : ℕ) → bins_of (sector h) / 64 ≤ length m → (r : Refusal)
      → (remnant_answer h from ≡ Err r) ↔ ((check_answer h m ≡ Err r) × (number_of r.fault ≤ 10))
  pub start-place : (h l : List ℕ) (r : Refusal) → start_answer h l ≡ Err r → Keyless (OfStart h l) r
  pub page-place : (h l : List ℕ) (p : ℕ) (r : Refusal) → page_answer h l p ≡ Err r → Keyless (OfPage h l p) r
  pub close-place : (h l : List ℕ) (r : Refusal) → close_answer h l ≡ Err r → Keyless (OfClose h l) r
  pub next_place : (l : List ℕ) (from : ℕ) (r : Refusal) → next_answer l from ≡ Err r → Keyless (OfLog l) r
  pub all-place : (h l : List ℕ) (r : Refusal) → all_answer h l ≡ Err r → Keyless (OfStart h l) r
  pub mark-place : (l : List ℕ) (from : ℕ) (r : Refusal) → mark_answer l from ≡ Err r → Keyless (OfHead l) r
  pub marked-place : (l : List ℕ) (room : ℕ) (r : Refusal) → marked_answer l room ≡ Err r → Keyless (OfMarked l room) r
  pub log-place : (l : List ℕ) (r : Refusal) → log_answer l ≡ Err r → Keyless (OfLog l) r
  pub settle-place : (h : List ℕ) (r : Refusal) → settle_answer h ≡ Err r → Keyless (OfSettle h) r
  -- "It changes no byte of hive or output"
  pub copy-stays : (h us x out : List ℕ) (r : Refusal) → copy_answer h us x (length out) ≡ Err r → copy_out h us x out ≡ out
  pub quick-copy-stays : (h us x out : List ℕ) (r : Refusal) → quick_copy h us x (length out) ≡ Err r → quick_out h us x out ≡ out
  pub copy-at-stays : (h : List ℕ) (v : Offset) (out : List ℕ) (r : Refusal) → copy_at h v (length out) ≡ Err r → out_at h v out ≡ out
  pub begin-stays : (h ws : List ℕ) (r : Refusal) → begin_answer h ws ≡ Err r → begin_levels h ws ≡ ws
  pub step_stays : (h ws : List ℕ) (n : ℕ) (r : Refusal) → step_answer h ws n ≡ Err r → step_levels h ws n ≡ ws
  pub frame-stays : (h m : List ℕ) (n : ℕ) (out : List ℕ) (r : Refusal) → frame_answer h m n (length out) ≡ Err r → step_out h m n out ≡ out
  pub export-stays : (h m ws : List ℕ) (r : Refusal) → export_answer h m ws ≡ Err r → export_levels h m ws ≡ ws
  pub run-stays : (h ws : List ℕ) (c : Cursor) (out : List ℕ) (r : Refusal) → run_answer h ws c (length out) ≡ Err r
      → (run_out h ws c out ≡ out) × (run_levels h ws c (length out) ≡ ws)
  pub build-stays : (s sd out : List ℕ) (u : Unbuilt) → build_answer s sd (length out) ≡ Err u → build_out s sd out ≡ out
  pub rows_stay : (h : List ℕ) (from : ℕ) (rows : List ℕ) (r : Refusal) → rows_answer h from (length rows) ≡ Err r → rows_out h from rows ≡ rows
  pub page-stays : (h l : List ℕ) (p : ℕ) (r : Refusal) → page_answer h l p ≡ Err r → page_hive h l p ≡ h
  pub close-stays : (h l : List ℕ) (r : Refusal) → close_answer h l ≡ Err r → close_hive h l ≡ h
  pub all-stays : (h l : List ℕ) (r : Refusal) → all_answer h l ≡ Err r → all_hive h l ≡ h
  pub settle-stays : (h : List ℕ) (r : Refusal) → settle_answer h ≡ Err r → settle_hive h ≡ h
  pub marked-stays : (l m : List ℕ) (r : Refusal) → marked_answer l (length m) ≡ Err r → marked_map l m ≡ m
  -- "the work map afterwards is the one the list states": "Refusals 1 to 8 leave the map untouched; 9 and 10 leave its first bins size / 64 bytes zero; later
  -- ones leave it complete", as does the check that accepts; and "bytes beyond bins size / 64 stay"
  pub map-untouched : (h m : List ℕ) (r : Refusal) → check_answer h m ≡ Err r → number_of r.fault ≤ 8 → map_left h m ≡ m
  pub map-zero : (h m : List ℕ) (r : Refusal) → check_answer h m ≡ Err r → 9 ≤ number_of r.fault → number_of r.fault ≤ 10
      → take (map_bytes h) (map_left h m) ≡ replicate (map_bytes h) 0
  pub map-complete : (h m : List ℕ) (r : Refusal) → check_answer h m ≡ Err r → 11 ≤ number_of r.fault → Mapped (bins_data h) (map_left h m)
  pub map-accepted : (h m : List ℕ) (x : Report) → check_answer h m ≡ Ok x → Mapped (bins_data h) (map_left h m)
  pub map-beyond : (h m : List ℕ) → drop (map_bytes h) (map_left h m) ≡ drop (map_bytes h) m
