-- Each question of a new log: that of its own crate.
use Prim.Native.Nat.{ℕ}
use mathlib.Core.Path.{◌≡◌, ap}
use mathlib.Core.Bool.{Bool, true, cond}
use mathlib.Core.List.{List}
use Rattle.log_versions.specs.Versions as versions
use Rattle.new_log.specs.Layout as new-layout
use Rattle.new_log.specs.Tests as new-tests
use Rattle.old_log.specs.Layout as layout
use Rattle.old_log.specs.Tests as tests
use Rattle.logs.specs.Logs.{is_new, log_fault, log_bins, is_logged, logged_count, logged, applies}

module _ (l : List ℕ) (n : is_new l ≡ true) where
  pub new-fault : log_fault l ≡ new-tests.log_fault l
  unfolding log_fault
  new-fault = ap (λ (b : Bool). cond b (new-tests.log_fault l) (tests.log_fault l)) n

  pub new-bins : log_bins l ≡ new-layout.log_bins l
  unfolding log_bins
  new-bins = ap (λ (b : Bool). cond b (new-layout.log_bins l) (layout.log_bins l)) n

  pub new_is : is_logged l ≡ versions.is_logged l
  unfolding is_logged
  new_is = ap (λ (b : Bool). cond b (versions.is_logged l) (layout.is_logged l)) n

  pub new-count : logged_count l ≡ new-layout.logged_count l
  unfolding logged_count
  new-count = ap (λ (b : Bool). cond b (new-layout.logged_count l) (layout.logged_count l)) n

  pub new-last : logged l ≡ versions.logged l
  unfolding logged
  new-last = ap (λ (b : Bool). cond b (versions.logged l) (layout.logged l)) n

  pub new-applies : (h : List ℕ) → applies h l ≡ new-tests.applies h l
  unfolding applies
  new-applies h = ap (λ (b : Bool). cond b (new-tests.applies h l) (tests.stamps_agree h l)) n
