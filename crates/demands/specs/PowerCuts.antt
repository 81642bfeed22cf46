-- Demand 3. "Take a hive and a log that recovery has accepted. Suppose the disk stores a 512-byte sector wholly or not at all, nobody else alters either
-- file, and all page stores have landed before the closing sector is sent. Let power fail any number of times, pages go in any order, some twice."
-- The traces are those of crash/specs/Trace.antt: the repair began with the hive h and the log l, and the start gave n set bits; memory holds m, the page
-- stores q and the closing sectors k are under way, and the disk holds d.
use Rattle.std.specs.Prelude.{ℕ, ◌≡◌, Bool, true, false, List, [], length, Err, Ok}
use Rattle.fields.specs.declared.Offset.{Offset}
use Rattle.fields.specs.declared.Refusal.{Refusal}
use Rattle.sectors.specs.Sector.{page}
use Rattle.cells.specs.Survey.{map_left}
use Rattle.tree.specs.Tree.{check_answer}
use Rattle.paths.specs.Answers.{find_answer, quick_answer}
use Rattle.paths.specs.Children.{child_answer, quick_child}
use Rattle.lookup.specs.Spots.{spot_answer}
use Rattle.lookup.specs.Answers.{info_answer, view_answer, view_bytes, copy_answer, copy_out, quick_info, quick_view, quick_view_bytes, quick_copy, quick_out}
use Rattle.listing.specs.Members.{subkey_answer, value_answer, info_at, copy_at, out_at, facts_answer}
use Rattle.listing.specs.Pieces.{class_answer, security_answer}
use Rattle.export.specs.declared.Cursor.{Cursor}
use Rattle.export.specs.Answers.{step_answer as frame_answer, step_out, begin_answer as export_answer, begin_levels as export_levels, run_answer, run_out, run_levels}
use Rattle.walk.specs.declared.Walked.TheVariants as walked
use Rattle.walk.specs.Answers.{begin_answer, begin_levels, step_answer, step_levels}
use Rattle.remnants.specs.Remnants.{remnant_answer, rows_answer, rows_out}
use Rattle.logs.specs.Logs.{is_logged}
use Rattle.recovery.specs.declared.Stepped.TheVariants.{Done}
use Rattle.recovery.specs.Calls.{close_answer, close_hive}
use Rattle.recovery.specs.Finished.{finished, after_pages, Covers}
use Rattle.crash.specs.Trace.{Sent, Trace, Open, Closed, replayed_in, AllLanded}
use Rattle.crash.specs.Demand.{Until, Running, Landed}

-- "the reader refuses the file": each of its calls gives that refusal, whatever else it is given, and writes nothing
pub record Unread (d : List ℕ) (r : Refusal) : Type 0 where
  pub check : (map : List ℕ) → (check_answer d map ≡ Err r) × (map_left d map ≡ map)
  pub find-key : (us : List ℕ) → find_answer d us ≡ Err r
  pub value-info : (us x : List ℕ) → info_answer d us x ≡ Err r
  pub view-info : (us x : List ℕ) → view_answer d us x ≡ Err r
  pub value-view : (us x : List ℕ) → view_bytes d us x ≡ []
  pub value-copy : (us x out : List ℕ) → (copy_answer d us x (length out) ≡ Err r) × (copy_out d us x out ≡ out)
  pub quick-key : (us : List ℕ) → quick_answer d us ≡ Err r
  pub quick-info : (us x : List ℕ) → quick_info d us x ≡ Err r
  pub quick-view-info : (us x : List ℕ) → quick_view d us x ≡ Err r
  pub quick-view : (us x : List ℕ) → quick_view_bytes d us x ≡ []
  pub quick-copy : (us x out : List ℕ) → (quick_copy d us x (length out) ≡ Err r) × (quick_out d us x out ≡ out)
  pub child-of : (o : Offset) (x : List ℕ) → child_answer d o x ≡ Err r
  pub quick-child-of : (o : Offset) (x : List ℕ) → quick_child d o x ≡ Err r
  pub value_of : (o : Offset) (x : List ℕ) → spot_answer d o x ≡ Err r
  pub nth-subkey : (o : Offset) (i : ℕ) → subkey_answer d o i ≡ Err r
  pub nth-value : (o : Offset) (i : ℕ) → value_answer d o i ≡ Err r
  pub info-at : (v : Offset) → info_at d v ≡ Err r
  pub copy-at : (v : Offset) (out : List ℕ) → (copy_at d v (length out) ≡ Err r) × (out_at d v out ≡ out)
  pub key-facts : (o : Offset) → facts_answer d o ≡ Err r
  pub key-class : (o : Offset) → class_answer d o ≡ Err r
  pub key-security : (o : Offset) → security_answer d o ≡ Err r
  pub walk-begin : (ws : List ℕ) → (begin_answer d ws ≡ Err r) × (begin_levels d ws ≡ ws)
  pub walk_step : (ws : List ℕ) (i : ℕ) → (step_answer d ws i ≡ Err r) × (step_levels d ws i ≡ ws)
  pub export-step : (m : List ℕ) (i : ℕ) (out : List ℕ) → (frame_answer d m i (length out) ≡ Err r) × (step_out d m i out ≡ out)
  pub export-begin : (m ws : List ℕ) → (export_answer d m ws ≡ Err r) × (export_levels d m ws ≡ ws)
  pub export-run : (ws : List ℕ) (c : Cursor) (out : List ℕ)
      → (run_answer d ws c (length out) ≡ Err r) × (run_out d ws c out ≡ out) × (run_levels d ws c (length out) ≡ ws)
  pub next-remnant : (from : ℕ) → remnant_answer d from ≡ Err r
  pub remnants : (from : ℕ) (rows : List ℕ) → (rows_answer d from (length rows) ≡ Err r) × (rows_out d from rows ≡ rows)

pub record Demand3 (h l : List ℕ) (n : ℕ) : Type 0 where
  -- "Until the closing sector lands, the same log is still accepted, [..] and the closing call succeeds exactly when every logged page is in."
  pub until : (c : Bool) (m : List ℕ) (q : List Sent) (k : List (List ℕ)) (d : List ℕ) → Open h l c m q k d → Until l n d
  -- "the reader refuses the file"
  pub unread : (c : Bool) (m : List ℕ) (q : List Sent) (k : List (List ℕ)) (d : List ℕ) → Open h l c m q k d → (r : Refusal) × Unread d r
  -- the calls of a run work on memory: until its closing call is done, or a closing sector was sent, the same holds there, and they are done
  pub running : (m : List ℕ) (q : List Sent) (d : List ℕ) → Open h l false m q [] d → Running l n m
  -- and from every state page calls that cover the log, in any order, then the closing call, give the finished file
  pub finishes : (e c : Bool) (m : List ℕ) (q : List Sent) (k : List (List ℕ)) (d : List ℕ) → Trace h l e c m q k d → (ps : List ℕ) → Covers l ps
      → close_hive (after_pages m l ps) l ≡ finished h l
  -- "all page stores have landed before the closing sector is sent": then the disk holds every logged page as memory does, and the sector may be sent
  -- where no version of a page landed in this run that the repair did not send
  pub barrier : (e : Bool) (m : List ℕ) (q : List Sent) (k : List (List ℕ)) (d : List ℕ) (o : Trace h l e true m q k d) → replayed_in o ≡ false → AllLanded o
      → (p : ℕ) → is_logged l p ≡ true → page d p ≡ page m p
  -- and whatever landed, a closing call that is done on the disk's own bytes shows the same
  pub may-seal : (m : List ℕ) (q : List Sent) (k : List (List ℕ)) (d : List ℕ) → Open h l true m q k d → close_answer d l ≡ Ok Done
      → (p : ℕ) → is_logged l p ≡ true → page d p ≡ page m p
  -- "Once it lands, the file is, byte for byte, that of one unbroken run, and every later repair call says "clean" and changes nothing."
  pub landed : (c : Bool) (m : List ℕ) (q : List Sent) (k : List (List ℕ)) (d : List ℕ) → Closed h l c m q k d → Landed h l d
