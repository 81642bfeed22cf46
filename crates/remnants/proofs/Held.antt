-- What a position holds, and the fields that are read of it.
use Prim.Native.Nat.{ℕ, ◌≤◌}
use native.Mathlib.Omega.{arith}
use mathlib.Core.Path.{◌≡◌, refl, sym, ap, ◌∙◌}
use mathlib.Core.Bool.{Bool, true, false, cond}
use mathlib.Core.List.{List, []}
use lib.ListN.{length, get_or}
use lib.Seq.{get_or-take}
use Rattle.records.specs.Keys.{is_key}
use Rattle.records.specs.Facts.{Signed}
use Rattle.records.proofs.LawsKey.{is-key-facts}
use Rattle.records.proofs.Facts.{key-exactly}
use Rattle.values.specs.Records.{is_old_value}
use Rattle.values.proofs.Tests.{old}
use Rattle.values.proofs.Facts.{old-exactly}
use Rattle.remnants.specs.declared.Kind.{Kind}
use Rattle.remnants.specs.declared.Kind.TheVariants as kind
use Rattle.remnants.specs.declared.Remain.{Remain}
use Rattle.remnants.specs.Remnants.{rest_of, kind_of, kind_at, remain_of, remain_at, spot}
use Rattle.std.specs.Prelude.{None, Option, Some}

module _ (r : List ℕ) where
  pub a_key : is_key r ≡ true → kind_of r ≡ Some kind.Key
  unfolding kind_of
  a_key e = rw e

  pub a-value : is_key r ≡ false → is_old_value r ≡ true → kind_of r ≡ Some kind.Value
  unfolding kind_of
  a-value e f = rw (e, f)

  pub key-is : kind_of r ≡ Some kind.Key → is_key r ≡ true
  unfolding kind_of
  key-is = by (is_key r) refl (is_old_value r)
    where
      by : (t : Bool) → is_key r ≡ t → (v : Bool) → cond t (Some kind.Key) (cond v (Some kind.Value) None) ≡ Some kind.Key → is_key r ≡ true
      by true p v e = p
      by false p true e = absurd (let z : ◌≡◌ {A = ℕ} 0 1 = cc in omega arith)
      by false p false e = absurd (let z : ◌≡◌ {A = ℕ} 0 1 = cc in omega arith)

  pub value-is : kind_of r ≡ Some kind.Value → is_old_value r ≡ true
  unfolding kind_of
  value-is = by (is_key r) (is_old_value r) refl
    where
      by : (t v : Bool) → is_old_value r ≡ v → cond t (Some kind.Key) (cond v (Some kind.Value) None) ≡ Some kind.Value → is_old_value r ≡ true
      by true v p e = absurd (let z : ◌≡◌ {A = ℕ} 0 1 = cc in omega arith)
      by false true p e = p
      by false false p e = absurd (let z : ◌≡◌ {A = ℕ} 0 1 = cc in omega arith)

  pub key-long : kind_of r ≡ Some kind.Key → 76 ≤ length r
  key-long e = let k = is-key-facts r (key-is e) in omega arith

  pub value-long : kind_of r ≡ Some kind.Value → 20 ≤ length r
  value-long e = (old r (value-is e)).long

  -- both signatures have one second byte
  second-byte : {a b : ℕ} → Signed r a b → get_or r 1 0 ≡ b
  second-byte e = sym (get_or-take 2 r 1 0 (omega arith)) ∙ ap (λ (l : List ℕ). get_or l 1 0) e

  pub kind-signed : (k : Kind) → kind_of r ≡ Some k → get_or r 1 0 ≡ 107
  kind-signed kind.Key e = second-byte ((key-exactly r).0 (key-is e)).nk
  kind-signed kind.Value e = second-byte ((old-exactly r).0 (value-is e)).vk

module _ (d : List ℕ) (o end : ℕ) where
  pub kind-of-rest : kind_at d o end ≡ kind_of (rest_of d o end)
  unfolding kind_at
  kind-of-rest = refl

  offset-of : (k : Kind) (r : List ℕ) → (remain_of k r o).at.0 ≡ o
  unfolding remain_of
  offset-of kind.Key r = refl
  offset-of kind.Value r = refl

  -- a record is reported at its offset
  pub remain-offset : (k : Kind) → (remain_at d o end k).at.0 ≡ o
  unfolding remain_at
  remain-offset k = offset-of k (rest_of d o end)

  pub unsigned : (get_or (rest_of d o end) 1 0 ≡ 107 → ⊥) → kind_at d o end ≡ None
  unfolding kind_at
  unsigned n = by (kind_of (rest_of d o end)) refl
    where
      by : (k : Option Kind) → kind_of (rest_of d o end) ≡ k → kind_of (rest_of d o end) ≡ None
      by None e = e
      by (Some k) e = absurd (n (kind-signed (rest_of d o end) k e))

pub spot-none : {k : Option Kind} (f : Kind → Remain) → k ≡ None → spot k f ≡ []
spot-none f e = rw e

-- a record whose kind is known has its fixed part
pub ruleset long_ways = (key-long, value-long)
