-- The log of two entries of crate `entries`: page 1 is logged, and nothing else. Computed.
use Prim.Native.Nat.{◌/◌}
use mathlib.Core.Path.{◌≡◌, ap}
use mathlib.Core.Bool.{true, false}
use mathlib.Core.List.{[], ◌∷◌}
use Rattle.fields.specs.Number.{u16_at, u32_at}
use Rattle.log_entries.specs.declared.Chain.{Chain}
use Rattle.log_entries.specs.Entries.{ref_bytes}
use Rattle.log_entries.proofs.Example.{log, counts, chain}
use Rattle.log_versions.specs.Versions.{pages_from, entry_versions, all_versions, versions, names, last_place, is_logged, logged_place}
use Rattle.new_log.specs.Layout.{page_count}

pub versions-are : versions log ≡ record { page = 1; place = 1072 } ∷ []
unfolding versions all_versions entry_versions pages_from ref_bytes u32_at u16_at
versions-are = ap (all_versions log) counts

pub page-1 : (is_logged log 1 ≡ true) × (logged_place log 1 ≡ 1072)
unfolding names last_place
page-1 = (ap (names 1) versions-are, ap (last_place 0 1) versions-are)

pub page-0 : is_logged log 0 ≡ false
unfolding names
page-0 = ap (names 0) versions-are

pub pages : page_count log ≡ 8
pages = ap (λ (c : Chain). c.largest / 512) chain
