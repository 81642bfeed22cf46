-- The small logs are accepted.
use Prim.Native.Nat.{◌+◌, ◌≤◌}
use native.Mathlib.Omega.{arith}
use mathlib.Core.Path.{◌≡◌, refl, ap, ◌∙◌}
use mathlib.Core.Bool.{false}
use lib.ListN.{length}
use borrow.Author.Tests.{le-leb}
use Rattle.fields.specs.Bytes.{same_bytes, stands_at}
use Rattle.fields.specs.Faults.{◌next◌, Verdict}
use Rattle.fields.proofs.Firsts.{sound, holds}
use Rattle.base.specs.Block.{sector, usable, clean, block_fault}
use Rattle.logs.specs.Logs.{log_bins, logged_count}
use Rattle.logs.specs.Small.{log, later, hive}
use Rattle.logs.proofs.Small.{small-sound, small_count, small-bins, small-applies}
use Rattle.logs.proofs.Later.{later-sound, later-count, later-bins, later-applies}
use Rattle.recovery.specs.declared.Started.TheVariants.{Pages}
use Rattle.recovery.specs.Calls.{hive_fault, test_fault, started, start_answer}
use Rattle.recovery.proofs.Ways.{by_tests}
use Rattle.std.specs.Prelude.{Ok, ℕ}

hive-length : length hive ≡ 12288
unfolding hive
hive-length = refl

hive-unclean : clean (sector hive) ≡ false
unfolding clean usable block_fault ◌next◌ hive stands_at same_bytes
hive-unclean = refl

tests-passed : test_fault hive (log 512) ≡ Ok tt
unfolding test_fault hive_fault
tests-passed =
    let room : 4096 + log_bins (log 512) ≤ length hive = omega (arith, small-bins, hive-length) in
    sound _ _ small-sound (sound _ _ (holds _ (le-leb _ _ room)) (holds _ small-applies))

-- "log of 2,048 bytes there is accepted"
pub small-accepted : start_answer hive (log 512) ≡ Ok (Pages 2)
small-accepted =
    by_tests hive (log 512) (omega (arith, hive-length)) hive-unclean
    ∙ ap (λ (v : Verdict). started v (logged_count (log 512))) tests-passed ∙ ap (λ (x : ℕ). Ok (Pages x)) small_count

later-passed : test_fault hive later ≡ Ok tt
unfolding test_fault hive_fault
later-passed =
    let room : 4096 + log_bins later ≤ length hive = omega (arith, later-bins, hive-length) in
    sound _ _ later-sound (sound _ _ (holds _ (le-leb _ _ room)) (holds _ later-applies))

-- and that of the new format is
pub later-accepted : start_answer hive later ≡ Ok (Pages 1)
later-accepted =
    by_tests hive later (omega (arith, hive-length)) hive-unclean ∙ ap (λ (v : Verdict). started v (logged_count later)) later-passed ∙ ap (λ (x : ℕ). Ok (Pages x)) later-count
