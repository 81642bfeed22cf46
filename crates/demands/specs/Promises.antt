-- "Every public call's promise determines its answer and each byte of hive, map and output after it, for all inputs; show that no second outcome could
-- satisfy it." An outcome of each call is its answer and what it was lent to write; its promise is the call's contract.
use Rattle.std.specs.Prelude.{ℕ, ◌+◌, ◌≡◌, List, length, Option, Result}
use Rattle.fields.specs.declared.Offset.{Offset}
use Rattle.cells.specs.Survey.{map_left}
use Rattle.tree.specs.Tree.{check_answer}
use Rattle.paths.specs.Answers.{find_answer, quick_answer}
use Rattle.paths.specs.Children.{child_answer, quick_child}
use Rattle.lookup.specs.Spots.{spot_answer}
use Rattle.lookup.specs.Answers.{info_answer, view_answer, view_start, view_bytes, copy_answer, copy_out, quick_info, quick_view, quick_view_start, quick_view_bytes, quick_copy, quick_out}
use Rattle.listing.specs.Members.{subkey_answer, value_answer, info_at, copy_at, out_at, facts_answer}
use Rattle.listing.specs.Pieces.{class_answer, security_answer}
use Rattle.walk.specs.Answers.{begin_answer, begin_levels, step_answer, step_levels}
use Rattle.export.specs.declared.Cursor.{Cursor}
use Rattle.export.specs.Answers.{step_answer as frame_answer, step_out, begin_answer as export_answer, begin_levels as export_levels, run_answer, run_out, run_levels}
use Rattle.build_answers.specs.Answers.{measure_answer, build_answer, build_out}
use Rattle.remnants.specs.Remnants.{remnant_answer, rows_answer, rows_out}
use Rattle.recovery.specs.Calls.{start_answer, page_answer, page_hive, close_answer, close_hive, next_answer}
use Rattle.recovery.specs.AtOnce.{all_answer, all_hive, mark_answer, marked_answer, marked_map, facts_answer as log_answer}
use Rattle.recovery.specs.Settling.{settle_answer, settle_hive}
use Rattle.names.specs.Comparison.{compare}
use Rattle.build_answers.specs.declared.Unbuilt.{Unbuilt}
use Rattle.export.specs.declared.Progress.{Progress}
use Rattle.fields.specs.declared.Refusal.{Refusal}
use Rattle.listing.specs.declared.Entry.{Entry}
use Rattle.listing.specs.declared.Facts.{Facts}
use Rattle.logs.specs.declared.Facts.{Facts as LogFacts}
use Rattle.listing.specs.declared.Piece.{Piece}
use Rattle.lookup.specs.declared.Info.{Info}
use Rattle.recovery.specs.declared.LoggedMark.{LoggedMark}
use Rattle.recovery.specs.declared.LoggedPage.{LoggedPage}
use Rattle.recovery.specs.declared.Started.{Started}
use Rattle.recovery.specs.declared.Stepped.{Stepped}
use Rattle.remnants.specs.declared.Remain.{Remain}
use Rattle.std.specs.declared.cmp.Ordering.{Ordering}
use Rattle.tree.specs.declared.Report.{Report}
use Rattle.walk.specs.declared.Walked.{Walked}

-- a promise that no two outcomes satisfy
abbrev pub Determines : {A B : Type 0} → (A → B → Type 0) → Type 0
Determines {A} {B} promise = (a a' : A) (b b' : B) → promise a b → promise a' b' → (a ≡ a') × (b ≡ b')

-- the promises: an answer and what is written
abbrev pub Checks : List ℕ → List ℕ → Result Report Refusal → List ℕ → Type 0
Checks h m r after = (r ≡ check_answer h m) × (after ≡ map_left h m)

abbrev pub Copies : List ℕ → List ℕ → List ℕ → List ℕ → Result ℕ Refusal → List ℕ → Type 0
Copies h us x out r after = (r ≡ copy_answer h us x (length out)) × (after ≡ copy_out h us x out)

-- a view is a part of the lent hive: its bytes, and where in memory it starts; hive is where the hive starts, a block and an offset in it
abbrev pub Views : List ℕ → List ℕ → List ℕ → ℕ × ℕ → List ℕ → ℕ × ℕ → Type 0
Views h us x hive s part = (s ≡ view_bytes h us x) × (part ≡ (hive.0, view_start h us x + hive.1))

abbrev pub QuickCopies : List ℕ → List ℕ → List ℕ → List ℕ → Result ℕ Refusal → List ℕ → Type 0
QuickCopies h us x out r after = (r ≡ quick_copy h us x (length out)) × (after ≡ quick_out h us x out)

abbrev pub QuickViews : List ℕ → List ℕ → List ℕ → ℕ × ℕ → List ℕ → ℕ × ℕ → Type 0
QuickViews h us x hive s part = (s ≡ quick_view_bytes h us x) × (part ≡ (hive.0, quick_view_start h us x + hive.1))

abbrev pub CopiesAt : List ℕ → Offset → List ℕ → Result ℕ Refusal → List ℕ → Type 0
CopiesAt h v out r after = (r ≡ copy_at h v (length out)) × (after ≡ out_at h v out)

abbrev pub Begins : List ℕ → List ℕ → Result (Option Walked) Refusal → List ℕ → Type 0
Begins h ws r after = (r ≡ begin_answer h ws) × (after ≡ begin_levels h ws)

abbrev pub Steps : List ℕ → List ℕ → ℕ → Result (Option Walked) Refusal → List ℕ → Type 0
Steps h ws n r after = (r ≡ step_answer h ws n) × (after ≡ step_levels h ws n)

-- what a step writes beside its answer: the map and the buffer; begin the map and the words; a run the words and the buffer
abbrev pub Frames : List ℕ → List ℕ → ℕ → List ℕ → Result (Option ℕ) Refusal → List ℕ × List ℕ → Type 0
Frames h m n out r after = (r ≡ frame_answer h m n (length out)) × (after ≡ (map_left h m, step_out h m n out))

abbrev pub Exports : List ℕ → List ℕ → List ℕ → Result Cursor Refusal → List ℕ × List ℕ → Type 0
Exports h m ws r after = (r ≡ export_answer h m ws) × (after ≡ (map_left h m, export_levels h m ws))

abbrev pub Runs : List ℕ → List ℕ → Cursor → List ℕ → Result (Option Progress) Refusal → List ℕ × List ℕ → Type 0
Runs h ws c out r after = (r ≡ run_answer h ws c (length out)) × (after ≡ (run_levels h ws c (length out), run_out h ws c out))

abbrev pub Builds : List ℕ → List ℕ → List ℕ → Result ℕ Unbuilt → List ℕ → Type 0
Builds s sd out r after = (r ≡ build_answer s sd (length out)) × (after ≡ build_out s sd out)

abbrev pub Rows : List ℕ → ℕ → List ℕ → Result (Option ℕ) Refusal → List ℕ → Type 0
Rows h from rows r after = (r ≡ rows_answer h from (length rows)) × (after ≡ rows_out h from rows)

abbrev pub Pages : List ℕ → List ℕ → ℕ → Result Stepped Refusal → List ℕ → Type 0
Pages h l p r after = (r ≡ page_answer h l p) × (after ≡ page_hive h l p)

abbrev pub Closes : List ℕ → List ℕ → Result Stepped Refusal → List ℕ → Type 0
Closes h l r after = (r ≡ close_answer h l) × (after ≡ close_hive h l)

abbrev pub AllPages : List ℕ → List ℕ → Result Stepped Refusal → List ℕ → Type 0
AllPages h l r after = (r ≡ all_answer h l) × (after ≡ all_hive h l)

abbrev pub MarkPages : List ℕ → List ℕ → Result ℕ Refusal → List ℕ → Type 0
MarkPages l m r after = (r ≡ marked_answer l (length m)) × (after ≡ marked_map l m)

abbrev pub Evens : List ℕ → Result Stepped Refusal → List ℕ → Type 0
Evens h r after = (r ≡ settle_answer h) × (after ≡ settle_hive h)

pub record Unique : Type 0 where
  pub check : (h m : List ℕ) → Determines (Checks h m)
  pub find-key : (h us : List ℕ) (r r' : Result Offset Refusal) → r ≡ find_answer h us → r' ≡ find_answer h us → r ≡ r'
  pub value-info : (h us x : List ℕ) (r r' : Result Info Refusal) → r ≡ info_answer h us x → r' ≡ info_answer h us x → r ≡ r'
  pub view-info : (h us x : List ℕ) (r r' : Result Info Refusal) → r ≡ view_answer h us x → r' ≡ view_answer h us x → r ≡ r'
  pub value-view : (h us x : List ℕ) (hive : ℕ × ℕ) → Determines (Views h us x hive)
  pub value-copy : (h us x out : List ℕ) → Determines (Copies h us x out)
  pub quick-key : (h us : List ℕ) (r r' : Result Offset Refusal) → r ≡ quick_answer h us → r' ≡ quick_answer h us → r ≡ r'
  pub quick-info : (h us x : List ℕ) (r r' : Result Info Refusal) → r ≡ quick_info h us x → r' ≡ quick_info h us x → r ≡ r'
  pub quick-view-info : (h us x : List ℕ) (r r' : Result Info Refusal) → r ≡ quick_view h us x → r' ≡ quick_view h us x → r ≡ r'
  pub quick-view : (h us x : List ℕ) (hive : ℕ × ℕ) → Determines (QuickViews h us x hive)
  pub quick-copy : (h us x out : List ℕ) → Determines (QuickCopies h us x out)
  pub child-of : (h : List ℕ) (o : Offset) (x : List ℕ) (r r' : Result Offset Refusal) → r ≡ child_answer h o x → r' ≡ child_answer h o x → r ≡ r'
  pub quick-child-of : (h : List ℕ) (o : Offset) (x : List ℕ) (r r' : Result Offset Refusal) → r ≡ quick_child h o x → r' ≡ quick_child h o x → r ≡ r'
  pub value_of : (h : List ℕ) (o : Offset) (x : List ℕ) (r r' : Result Offset Refusal) → r ≡ spot_answer h o x → r' ≡ spot_answer h o x → r ≡ r'
  pub nth-subkey : (h : List ℕ) (o : Offset) (n : ℕ) (r r' : Result (Option Entry) Refusal) → r ≡ subkey_answer h o n → r' ≡ subkey_answer h o n → r ≡ r'
  pub nth-value : (h : List ℕ) (o : Offset) (n : ℕ) (r r' : Result (Option Entry) Refusal) → r ≡ value_answer h o n → r' ≡ value_answer h o n → r ≡ r'
  pub info-at : (h : List ℕ) (v : Offset) (r r' : Result Info Refusal) → r ≡ info_at h v → r' ≡ info_at h v → r ≡ r'
  pub copy-at : (h : List ℕ) (v : Offset) (out : List ℕ) → Determines (CopiesAt h v out)
  pub key-facts : (h : List ℕ) (o : Offset) (r r' : Result Facts Refusal) → r ≡ facts_answer h o → r' ≡ facts_answer h o → r ≡ r'
  pub key-class : (h : List ℕ) (o : Offset) (r r' : Result (Option Piece) Refusal) → r ≡ class_answer h o → r' ≡ class_answer h o → r ≡ r'
  pub key-security : (h : List ℕ) (o : Offset) (r r' : Result Piece Refusal) → r ≡ security_answer h o → r' ≡ security_answer h o → r ≡ r'
  pub walk-begin : (h ws : List ℕ) → Determines (Begins h ws)
  pub walk_step : (h ws : List ℕ) (n : ℕ) → Determines (Steps h ws n)
  pub export-step : (h m : List ℕ) (n : ℕ) (out : List ℕ) → Determines (Frames h m n out)
  pub export-begin : (h m ws : List ℕ) → Determines (Exports h m ws)
  pub export-run : (h ws : List ℕ) (c : Cursor) (out : List ℕ) → Determines (Runs h ws c out)
  pub measure : (s : List ℕ) (n : ℕ) (r r' : Result ℕ Unbuilt) → r ≡ measure_answer s n → r' ≡ measure_answer s n → r ≡ r'
  pub build : (s sd out : List ℕ) → Determines (Builds s sd out)
  pub next-remnant : (h : List ℕ) (from : ℕ) (r r' : Result (Option Remain) Refusal) → r ≡ remnant_answer h from → r' ≡ remnant_answer h from → r ≡ r'
  pub remnants : (h : List ℕ) (from : ℕ) (rows : List ℕ) → Determines (Rows h from rows)
  pub start : (h l : List ℕ) (r r' : Result Started Refusal) → r ≡ start_answer h l → r' ≡ start_answer h l → r ≡ r'
  pub page : (h l : List ℕ) (p : ℕ) → Determines (Pages h l p)
  pub close : (h l : List ℕ) → Determines (Closes h l)
  pub next-page : (l : List ℕ) (from : ℕ) (r r' : Result (Option LoggedPage) Refusal) → r ≡ next_answer l from → r' ≡ next_answer l from → r ≡ r'
  pub all-pages : (h l : List ℕ) → Determines (AllPages h l)
  pub next-mark : (l : List ℕ) (from : ℕ) (r r' : Result (Option LoggedMark) Refusal) → r ≡ mark_answer l from → r' ≡ mark_answer l from → r ≡ r'
  pub mark-pages : (l m : List ℕ) → Determines (MarkPages l m)
  pub log_facts : (l : List ℕ) (r r' : Result LogFacts Refusal) → r ≡ log_answer l → r' ≡ log_answer l → r ≡ r'
  pub settle : (h : List ℕ) → Determines (Evens h)
  pub compare-units : (a b : List ℕ) (r r' : Ordering) → r ≡ compare a b → r' ≡ compare a b → r ≡ r'
