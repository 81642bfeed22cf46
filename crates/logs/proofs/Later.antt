-- What the small log of the new format says: it passes its tests, it is one of the small hive, and its one page has two versions.
use Prim.Native.Nat.{ℕ, ◌+◌, ◌/◌}
use native.Mathlib.Omega.{arith}
use mathlib.Core.Path.{◌≡◌, refl, sym, ap, ◌∙◌}
use mathlib.Core.Bool.{Bool, true, false, cond, not, ◌&&◌, ◌||◌}
use mathlib.Core.List.{List, [], ◌∷◌}
use lib.Dec.{eqb}
use lib.ListN.{get_or}
use borrow.Author.Tests.{eqb-true}
use Rattle.fields.specs.declared.Fault.TheVariants.{LogBase}
use Rattle.fields.specs.Number.{u16_at, u32_at, u64_at}
use Rattle.fields.specs.Bytes.{same_bytes, stands_at}
use Rattle.fields.specs.Faults.{flaw, nowhere, ◌next◌}
use Rattle.fields.proofs.Firsts.{sound, holds}
use Rattle.base.specs.Block.{sector, xors, as_stored, stored_checksum, is_version, is_bins_size, usable, block_fault}
use Rattle.sectors.specs.Sector.{sector_at, page}
use Rattle.marvin.specs.Hash.{half_round, mixed, after_words, state_of, hash_of}
use Rattle.log_entries.specs.declared.Chain.{Chain}
use Rattle.log_entries.specs.Entries.{Entry, ref_bytes, is_hashed, apart_from, are_refs, is_entry, counted_from, counted, grown, no_chain, chain_from, chain_of}
use Rattle.log_versions.specs.declared.Version.{Version}
use Rattle.log_versions.specs.Versions as of-version
use Rattle.new_log.specs.Layout as new-layout
use Rattle.new_log.specs.Tests as new-tests
use Rattle.new_log.proofs.Accepts as new-accepts
use Rattle.old_log.specs.Layout as layout
use Rattle.logs.specs.Logs.{is_new, log_fault, log_bins, is_logged, logged_count, versions_of, logged, applies}
use Rattle.logs.specs.Small.{later, hive}
use Rattle.logs.proofs.Formats.{new-fault, new-bins, new_is, new-count, new-last, new-applies}
use Rattle.std.specs.Prelude.{Ok}

-- ---- computed

later-new : is_new later ≡ true
unfolding is_new later u32_at u16_at
later-new = refl

later-counts : counted later ≡ record { at = 512; number = 7 } ∷ record { at = 1536; number = 8 } ∷ []
unfolding later counted counted_from is_entry is_hashed are_refs apart_from ref_bytes is_bins_size stands_at same_bytes hash_of state_of after_words mixed half_round u64_at u32_at u16_at
later-counts = refl

later-chain : chain_of later ≡ record { entries = 2; end = 2560; last = 8; bins = 4096; largest = 4096 }
unfolding later chain_of chain_from grown u32_at u16_at
later-chain = ap (chain_from later no_chain) later-counts

later-versions : of-version.versions later ≡ record { page = 1; place = 560 } ∷ record { page = 1; place = 1584 } ∷ []
unfolding later of-version.versions of-version.all_versions of-version.entry_versions of-version.pages_from ref_bytes u32_at u16_at
later-versions = ap (of-version.all_versions later) later-counts

later-base : new-tests.is_log_base (sector later) ≡ true
unfolding later new-tests.is_log_base usable block_fault is_version is_bins_size stored_checksum as_stored xors u32_at u16_at stands_at same_bytes ◌next◌
later-base = refl

hive-unusable : usable (sector hive) 0 ≡ false
unfolding usable block_fault ◌next◌ hive stands_at same_bytes
hive-unusable = refl

later-stamp : eqb (u64_at (page hive 0) 20) (u64_at (sector later) 12) ≡ true
unfolding later page hive u64_at u32_at u16_at
later-stamp = refl

-- a byte of each version
pub first_byte : get_or (sector_at later 560) 0 0 ≡ 170
unfolding later
first_byte = refl

pub second-byte : get_or (sector_at later 1584) 0 0 ≡ 187
unfolding later
second-byte = refl

-- ---- so it is a log of the hive

pub later-sound : log_fault later ≡ Ok tt
unfolding new-tests.log_fault later
later-sound =
    new-fault later later-new
    ∙ sound _ _ (holds (flaw LogBase nowhere) refl) (sound _ _ (holds _ later-base) (holds _ (ap (λ (es : List Entry). not (new-tests.is_empty es)) later-counts)))

pub later-bins : log_bins later ≡ 4096
later-bins = new-bins later later-new ∙ ap (λ (c : Chain). c.largest) later-chain

below-eight : new-layout.logged_below later 8 ≡ 1
unfolding new-layout.logged_below of-version.names
below-eight =
    ap (λ (vs : List Version). 0 + cond (of-version.names 0 vs) 1 0 + cond (of-version.names 1 vs) 1 0 + cond (of-version.names 2 vs) 1 0
    + cond (of-version.names 3 vs) 1 0 + cond (of-version.names 4 vs) 1 0 + cond (of-version.names 5 vs) 1 0 + cond (of-version.names 6 vs) 1 0
    + cond (of-version.names 7 vs) 1 0) later-versions

pub later-count : logged_count later ≡ 1
later-count = new-count later later-new ∙ ap (λ (c : Chain). new-layout.logged_below later (c.largest / 512)) later-chain ∙ below-eight

pub later-applies : applies hive later ≡ true
unfolding new-tests.all_stamped of-version.bytes_in
later-applies =
    new-applies later later-new hive ∙ new-accepts.by-stamps hive later hive-unusable
    ∙ ap (λ (b : Bool). b && new-tests.all_stamped (u64_at (sector later) 12) (of-version.versions_of later 0)) later-stamp
    ∙ ap (λ (vs : List Version). new-tests.all_stamped (u64_at (sector later) 12) (of-version.bytes_in later 0 vs)) later-versions

-- ---- and its page has these versions

pub page-versions : versions_of later 1 ≡ sector_at later 560 ∷ sector_at later 1584 ∷ []
unfolding versions_of of-version.bytes_in
page-versions =
    ap (λ (b : Bool). cond b (of-version.versions_of later 1) (layout.versions_of later 1)) later-new ∙ ap (of-version.bytes_in later 1) later-versions

pub page-logged : is_logged later 1 ≡ true
unfolding of-version.names
page-logged = ap (λ (f : ℕ → Bool). f 1) (new_is later later-new) ∙ ap (of-version.names 1) later-versions

pub page-last : logged later 1 ≡ sector_at later 1584
unfolding of-version.logged of-version.last_place
page-last =
    ap (λ (f : ℕ → List ℕ). f 1) (new-last later later-new) ∙ ap (λ (vs : List Version). sector_at later (of-version.last_place 0 1 vs)) later-versions

pub only-page : (p : ℕ) → is_logged later p ≡ true → p ≡ 1
unfolding of-version.names
only-page p m = go (eqb 1 p) refl (sym (ap (λ (f : ℕ → Bool). f p) (new_is later later-new) ∙ ap (of-version.names p) later-versions) ∙ m)
  where
    go : (b : Bool) → eqb 1 p ≡ b → (b || (b || false)) ≡ true → p ≡ 1
    go true e k = sym (eqb-true 1 p e)
    go false e k = absurd (let z : ◌≡◌ {A = ℕ} 0 1 = cc in omega arith)
