-- What the log's tests say once they are passed, and where its pages then lie.
use Prim.Native.Nat.{ℕ, ◌+◌, ◌<◌, ◌≤◌}
use native.Mathlib.Omega.{arith}
use mathlib.Core.Path.{◌≡◌, ap, ◌∙◌}
use mathlib.Core.Bool.{true, not}
use mathlib.Core.List.{List, [], ◌∷◌, ◌++◌, Memᴰ}
use lib.ListN.{length}
use Rattle.fields.proofs.Bools.{never}
use Rattle.base.proofs.Laws.{Sized}
use Rattle.sectors.proofs.Stored.{sector-length}
use Rattle.log_entries.specs.Entries.{Entry, counted}
use Rattle.log_entries.proofs.Counted as entries
use Rattle.log_versions.specs.Versions.{versions, versions_of, is_logged, logged_place, logged}
use Rattle.log_versions.proofs.Inside.{versions-inside}
use Rattle.new_log.specs.Layout.{log_bins, page_count}
use Rattle.new_log.specs.Tests.{is_empty, log_fault}
use Rattle.new_log.proofs.Entry.{some-entry}
use Rattle.new_log.proofs.Accepts.{tests-good}
use Rattle.new_log.proofs.Versions.{last_found, member-named, bytes-found, bytes-last}
use Rattle.std.specs.Prelude.{Ok}

module _ (l : List ℕ) where
  -- ---- what the tests say

  pub log-long : log_fault l ≡ Ok tt → 512 ≤ length l
  log-long e = (tests-good l e).log-long

  pub some-counted : log_fault l ≡ Ok tt → counted l ≡ [] → ⊥
  some-counted e z =
      let g = tests-good l e in
      never _ (some-entry l g.log-long ∙ g.an-entry) (ap (λ (es : List Entry). not (is_empty es)) z)

  -- the largest bins size is one that a base block may have
  pub bins-sized : log_fault l ≡ Ok tt → Sized (log_bins l)
  bins-sized e = entries.largest-sized l (some-counted e)

  -- ---- its pages

  pub logged-below : (p : ℕ) → is_logged l p ≡ true → p < page_count l
  logged-below p m =
      let f = last_found p (versions l) 0 m in
      omega (arith, (versions-inside l f.version f.member).1, f.its-page)

  pub logged-fits : (p : ℕ) → is_logged l p ≡ true → logged_place l p + 512 ≤ length l
  logged-fits p m =
      let f = last_found p (versions l) 0 m in
      omega (arith, (versions-inside l f.version f.member).0, f.its-place)

  -- ---- their versions

  -- only a logged page has a version
  pub version-logged : (p : ℕ) (x : List ℕ) → Memᴰ x (versions_of l p) → is_logged l p ≡ true
  version-logged p x i = let f = (bytes-found p l (versions l) x i).1 in member-named p (versions l) f.version f.its-page f.member

  pub version-length : (p : ℕ) (x : List ℕ) → Memᴰ x (versions_of l p) → length x ≡ 512
  version-length p x i =
      let r = bytes-found p l (versions l) x i in
      let f = r.1 in
      ap length r.2 ∙ sector-length l r.0 (omega (arith, (versions-inside l f.version f.member).0, f.its-place))

  -- what is put in is the last of them
  pub logged-last : (p : ℕ) → is_logged l p ≡ true → (xs : List (List ℕ)) × (versions_of l p ≡ xs ++ (logged l p ∷ []))
  unfolding logged
  logged-last p m = bytes-last p l (versions l) 0 m

  pub logged-length : (p : ℕ) → is_logged l p ≡ true → length (logged l p) ≡ 512
  unfolding logged
  logged-length p m = sector-length l (logged_place l p) (logged-fits p m)

pub ruleset passed = (log-long, bins-sized)
