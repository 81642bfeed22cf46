-- What the tests of a value record say.
use Prim.Native.Nat.{ℕ, ◌+◌, ◌≤◌}
use mathlib.Core.Path.{◌≡◌}
use mathlib.Core.Bool.{true}
use mathlib.Core.List.{List, [], ◌∷◌}
use lib.Dec.{leb}
use lib.ListN.{length}
use borrow.Author.Tests.{leb-true}
use Rattle.fields.specs.Number.{u16_at, u32_at}
use Rattle.fields.specs.Bytes.{stands_at}
use Rattle.fields.proofs.Bools.{and-inv}
use Rattle.values.specs.Records.{value_narrow, is_value_name, is_data_size, is_old_value, is_value}

-- what a value record is, but for its data
pub record Old (r : List ℕ) : Type 0 where
  pub long : 20 ≤ length r
  pub signed : stands_at r 0 (118 ∷ 107 ∷ []) ≡ true
  pub room : 20 + u16_at r 2 ≤ length r
  pub name : is_value_name (u16_at r 2) (value_narrow r) ≡ true

pub old : (r : List ℕ) → is_old_value r ≡ true → Old r
unfolding is_old_value
old r e =
    let a = and-inv (leb 20 (length r)) _ e in
    let b = and-inv (stands_at r 0 (118 ∷ 107 ∷ [])) _ a.1 in
    let l = and-inv (leb (20 + u16_at r 2) (length r)) _ b.1 in
    record {
      long = leb-true 20 (length r) a.0;
      signed = b.0;
      room = leb-true (20 + u16_at r 2) (length r) l.0;
      name = l.1;
    }

-- what a value record is
pub record Kept (r : List ℕ) : Type 0 where
  pub old_value : is_old_value r ≡ true
  pub long : 20 ≤ length r
  pub room : 20 + u16_at r 2 ≤ length r
  pub name : is_value_name (u16_at r 2) (value_narrow r) ≡ true
  pub size : is_data_size (u32_at r 4) ≡ true

pub kept : (r : List ℕ) → is_value r ≡ true → Kept r
unfolding is_value
kept r e =
    let a = and-inv (is_old_value r) _ e in
    let o = old r a.0 in
    record { old_value = a.0; long = o.long; room = o.room; name = o.name; size = a.1 }

-- its fixed part
pub value_long : (r : List ℕ) → is_value r ≡ true → 20 ≤ length r
value_long r e = (kept r e).long
