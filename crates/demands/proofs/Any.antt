-- Demand 1 is met.
use Prim.Native.Nat.{ℕ, ◌≤◌}
use native.Mathlib.Omega.{arith}
use mathlib.Core.Path.{◌≡◌}
use mathlib.Core.List.{List}
use lib.ListN.{length}
use Rattle.fields.specs.declared.Fault.{Fault}
use Rattle.fields.specs.declared.Fault.TheVariants as named
use Rattle.fields.specs.declared.Refusal.{Refusal}
use Rattle.fields.specs.Faults.{number_of}
use Rattle.cells.proofs.Refusals.{survey-refuses}
use Rattle.tree.proofs.Tells.{check-tells}
use Rattle.tree.proofs.Examines.{check-examines}
use Rattle.tree.proofs.Maps.{map-untouched, map-zero, map-complete, map-accepted, map-beyond}
use Rattle.search.specs.declared.How.TheVariants.{InTurn, Halving}
use Rattle.paths.proofs.Refusals.{find-refuses, child-refuses}
use Rattle.lookup.proofs.Agree.{refused-untouched}
use Rattle.lookup.proofs.Refusals.{info-refuses, view-refuses, copy-refuses, spot-refuses}
use Rattle.listing.proofs.Any.{subkey-refuses, value-refuses, info-refuses as at-refuses, copy-refuses as copy-at-refuses, copy-stays as copy-at-stays, facts-refuses}
use Rattle.listing.proofs.Any_pieces.{class-refuses, security-refuses}
use Rattle.recovery.specs.declared.Stepped.TheVariants as stepped
use Rattle.recovery.specs.Calls.{page_answer, page_hive, close_answer, close_hive}
use Rattle.recovery.proofs.Refusals.{start-refuses, page-refuses, close-refuses, next-refuses, all-refuses, mark-refuses, marked-refuses, facts-refuses as log-refuses}
use Rattle.recovery.specs.AtOnce.{all_answer, all_hive, marked_answer, marked_map}
use Rattle.recovery.proofs.Settles.{settle-refuses, settle-stays}
use Rattle.walk.proofs.Refusals.{begin-refuses, step-refuses, begin-stays, step_stays}
use Rattle.export.proofs.Refusals.{step-refuses as frame-refuses, step-leaves, begin-refuses as export-refuses, begin-leaves, run-refuses, run-leaves}
use Rattle.build_answers.proofs.Refusals.{measure-refuses, build-refuses}
use Rattle.build_answers.proofs.Hives.{refused-leaves}
use Rattle.remnants.proofs.Refusals.{next-refuses as remnant-refuses, rows-refuse, rows_stay}
use Rattle.demands.specs.AnyBytes.{Demand1}
use Rattle.demands.proofs.As_check.{refuses-as-check}
use Rattle.std.specs.Prelude.{Err}

listed : (f : Fault) → (1 ≤ number_of f) × (number_of f ≤ 39)
listed named.HiveShort = (omega arith, omega arith)
listed named.NoRegf = (omega arith, omega arith)
listed named.Checksum = (omega arith, omega arith)
listed named.Version = (omega arith, omega arith)
listed named.BinsSize = (omega arith, omega arith)
listed named.BinsCut = (omega arith, omega arith)
listed named.Sequences = (omega arith, omega arith)
listed named.MapSmall = (omega arith, omega arith)
listed named.BinHeader = (omega arith, omega arith)
listed named.CellSize = (omega arith, omega arith)
listed named.NoCell = (omega arith, omega arith)
listed named.Record = (omega arith, omega arith)
listed named.Order = (omega arith, omega arith)
listed named.Parent = (omega arith, omega arith)
listed named.Level = (omega arith, omega arith)
listed named.PathParts = (omega arith, omega arith)
listed named.NoKey = (omega arith, omega arith)
listed named.NoValue = (omega arith, omega arith)
listed named.Segmented = (omega arith, omega arith)
listed named.OutputShort = (omega arith, omega arith)
listed named.LogBase = (omega arith, omega arith)
listed named.LogShort = (omega arith, omega arith)
listed named.NoDirt = (omega arith, omega arith)
listed named.HiveCut = (omega arith, omega arith)
listed named.Stamps = (omega arith, omega arith)
listed named.NotDirty = (omega arith, omega arith)
listed named.NotIn = (omega arith, omega arith)
listed named.Security = (omega arith, omega arith)
listed named.Namesake = (omega arith, omega arith)
listed named.NoFrame = (omega arith, omega arith)
listed named.ValueLate = (omega arith, omega arith)
listed named.Unbalanced = (omega arith, omega arith)
listed named.Unsorted = (omega arith, omega arith)
listed named.Repeated = (omega arith, omega arith)
listed named.NameSize = (omega arith, omega arith)
listed named.DataSize = (omega arith, omega arith)
listed named.Depth = (omega arith, omega arith)
listed named.Subkeys = (omega arith, omega arith)
listed named.HiveSize = (omega arith, omega arith)

-- ---- what a refusal leaves

page-stays : (h l : List ℕ) (p : ℕ) (r : Refusal) → page_answer h l p ≡ Err r → page_hive h l p ≡ h
unfolding page_hive
page-stays h l p r e = rw e

close-stays : (h l : List ℕ) (r : Refusal) → close_answer h l ≡ Err r → close_hive h l ≡ h
unfolding close_hive
close-stays h l r e = rw e

all-stays : (h l : List ℕ) (r : Refusal) → all_answer h l ≡ Err r → all_hive h l ≡ h
unfolding all_hive
all-stays h l r e = rw e

marked-stays : (l m : List ℕ) (r : Refusal) → marked_answer l (length m) ≡ Err r → marked_map l m ≡ m
unfolding marked_map
marked-stays l m r e = rw e

pub demand1 : Demand1
demand1 =
    record {
      listed = listed;
      survey-place = λ h room f e. survey-refuses h room e;
      check-place = λ h m r e. check-tells h m e;
      check-key = λ h m r e. check-examines h m e;
      find-place = λ h us r e. find-refuses InTurn h us e;
      info-place = λ h us x r e. info-refuses InTurn h us x e;
      view-place = λ h us x r e. view-refuses InTurn h us x e;
      copy-place = λ h us x n r e. copy-refuses InTurn h us x n e;
      quick-key-place = λ h us r e. find-refuses Halving h us e;
      quick-info-place = λ h us x r e. info-refuses Halving h us x e;
      quick-view-place = λ h us x r e. view-refuses Halving h us x e;
      quick-copy-place = λ h us x n r e. copy-refuses Halving h us x n e;
      child-place = λ h o x r e. child-refuses InTurn h o x e;
      quick-child-place = λ h o x r e. child-refuses Halving h o x e;
      spot-place = λ h o x r e. spot-refuses h o x e;
      subkey-place = λ h o n r e. subkey-refuses h o n e;
      nth-place = λ h o n r e. value-refuses h o n e;
      at_place = λ h v r e. at-refuses h v e;
      copy-at-place = λ h v n r e. copy-at-refuses h v n e;
      facts-place = λ h o r e. facts-refuses h o e;
      class-place = λ h o r e. class-refuses h o e;
      security-place = λ h o r e. security-refuses h o e;
      begin-place = λ h ws r e. begin-refuses h ws e;
      step-place = λ h ws n r e. step-refuses h ws n e;
      frame-place = λ h m n room r e. frame-refuses h m n room e;
      export-place = λ h m ws r e. export-refuses h m ws e;
      run-place = λ h ws c room r e. run-refuses h ws c room e;
      measure-place = λ s n u e. measure-refuses s n e;
      build-place = λ s sd room u e. build-refuses s sd room e;
      remnant-place = λ h from r e. remnant-refuses h from e;
      rows-place = λ h from n r e. rows-refuse h from n e;
      refuses-as-check = refuses-as-check;
      start-place = λ h l r e. start-refuses h l e;
      page-place = λ h l p r e. page-refuses h l p e;
      close-place = λ h l r e. close-refuses h l e;
      next_place = λ l from r e. next-refuses l from e;
      all-place = λ h l r e. all-refuses h l e;
      mark-place = λ l from r e. mark-refuses l from e;
      marked-place = λ l room r e. marked-refuses l room e;
      log-place = λ l r e. log-refuses l e;
      settle-place = λ h r e. settle-refuses h e;
      copy-stays = λ h us x out r e. refused-untouched InTurn h us x out e;
      quick-copy-stays = λ h us x out r e. refused-untouched Halving h us x out e;
      copy-at-stays = λ h v out r e. copy-at-stays h v out e;
      begin-stays = λ h ws r e. begin-stays h ws e;
      step_stays = λ h ws n r e. step_stays h ws n e;
      frame-stays = λ h m n out r e. step-leaves h m n out e;
      export-stays = λ h m ws r e. begin-leaves h m ws e;
      run-stays = λ h ws c out r e. run-leaves h ws c out e;
      build-stays = λ s sd out u e. refused-leaves s sd out e;
      rows_stay = λ h from rows r e. rows_stay h from rows e;
      page-stays = page-stays;
      close-stays = close-stays;
      all-stays = all-stays;
      settle-stays = λ h r e. settle-stays h e;
      marked-stays = marked-stays;
      map-untouched = λ h m r e p. map-untouched h m e p;
      map-zero = λ h m r e p q. map-zero h m e p q;
      map-complete = λ h m r e p. map-complete h m e p;
      map-accepted = λ h m x e. map-accepted h m e;
      map-beyond = map-beyond;
    }
