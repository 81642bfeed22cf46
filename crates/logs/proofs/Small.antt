-- What the small log says: it passes its tests, it is one of the small hive, and its pages are 0 and 15.
use Prim.Native.Nat.{ℕ, ◌<◌}
use native.Mathlib.Decide.{ℕ_discrete, dec_lt}
use native.Mathlib.Omega.{arith}
use mathlib.Core.Path.{◌≡◌, refl}
use mathlib.Core.Logic.{◌⊎◌, inl, inr}
use mathlib.Core.Bool.{true}
use mathlib.Core.List.{List}
use lib.ListN.{get_or}
use Rattle.fields.specs.Number.{u16_at, u32_at, u64_at}
use Rattle.fields.specs.Bytes.{same_bytes, stands_at}
use Rattle.fields.specs.Faults.{◌next◌}
use Rattle.fields.proofs.Bools.{never}
use Rattle.base.specs.Block.{xors, as_stored, stored_checksum, is_version, is_bins_size, usable, block_fault}
use Rattle.bitmap.specs.Bits.{bits_before, next_among}
use Rattle.sectors.specs.Sector.{page}
use Rattle.old_log.specs.Layout as layout
use Rattle.old_log.specs.Tests as tests
use Rattle.logs.specs.Logs.{is_new, log_fault, log_bins, is_logged, logged_count, next_logged, logged, applies}
use Rattle.logs.specs.Small.{head, log, hive}
use Rattle.logs.proofs.Laws.{next-least, next-none}
use Rattle.std.specs.Prelude.{None, Ok, Some}

abbrev l : List ℕ
l = log 512

-- ---- computed

pub small-sound : log_fault l ≡ Ok tt
unfolding is_new log_fault log head tests.log_fault tests.head_fault tests.is_log_base layout.bitmap usable block_fault is_version is_bins_size stored_checksum as_stored xors u32_at u16_at stands_at same_bytes bits_before ◌next◌
small-sound = refl

pub small_count : logged_count l ≡ 2
unfolding is_new logged_count log head layout.bitmap bits_before u32_at u16_at
small_count = refl

pub small-bins : log_bins l ≡ 8192
unfolding is_new log_bins log head u32_at u16_at
small-bins = refl

pub small-applies : applies hive l ≡ true
unfolding is_new applies hive log head tests.stamps_agree layout.logged layout.bitmap page usable block_fault ◌next◌ is_version is_bins_size stored_checksum as_stored xors u64_at u32_at u16_at stands_at same_bytes bits_before
small-applies = refl

pub small-first : next_logged l 0 ≡ Some 0
unfolding is_new next_logged log head layout.bitmap next_among u32_at u16_at
small-first = refl

pub small-second : next_logged l 1 ≡ Some 15
unfolding is_new next_logged log head layout.bitmap next_among u32_at u16_at
small-second = refl

pub small-end : next_logged l 16 ≡ None
unfolding is_new next_logged log head layout.bitmap next_among u32_at u16_at
small-end = refl

-- a byte of each page
pub small-zero : get_or (logged l 0) 28 0 ≡ 7
unfolding is_new logged log head layout.logged layout.bitmap bits_before u32_at u16_at
small-zero = refl

pub small-fifteen : get_or (logged l 15) 0 0 ≡ 9
unfolding is_new logged log head layout.logged layout.bitmap bits_before u32_at u16_at
small-fifteen = refl

-- ---- so its pages are these

pub zero-logged : is_logged l 0 ≡ true
zero-logged = (next-least l 0 0 small-first).marked

pub fifteen-logged : is_logged l 15 ≡ true
fifteen-logged = (next-least l 1 15 small-second).marked

pub small-pages : (p : ℕ) → is_logged l p ≡ true → (p ≡ 0) ⊎ (p ≡ 15)
small-pages p m = go (ℕ_discrete p 0) (ℕ_discrete p 15) (dec_lt p 15)
  where
    go : Dec (p ≡ 0) → Dec (p ≡ 15) → Dec (p < 15) → (p ≡ 0) ⊎ (p ≡ 15)
    go (yes z) b c = inl z
    go (no z) (yes y) c = inr y
    go (no z) (no y) (yes x) = absurd (never (is_logged l p) m ((next-least l 1 15 small-second).least p (omega arith) x))
    go (no z) (no y) (no x) = absurd (never (is_logged l p) m (next-none l 16 small-end p (omega arith)))
