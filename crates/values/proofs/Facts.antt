-- The test of a value's record, but for its data, holds exactly when the record is what the plain facts say.
use Prim.Native.Nat.{ℕ, ◌+◌, ◌≤◌}
use native.Mathlib.Omega.{arith}
use mathlib.Core.Path.{◌≡◌}
use mathlib.Core.Bool.{true}
use mathlib.Core.Logic.{◌↔◌}
use mathlib.Core.List.{List}
use lib.ListN.{length, take, drop}
use borrow.Author.Tests.{le-leb, leb-true}
use Rattle.fields.specs.Number.{u16_at}
use Rattle.fields.proofs.Bools.{and-inv, and_both}
use Rattle.cells.proofs.Parts.{part_length}
use Rattle.names.specs.Codes.{characters_in}
use Rattle.names.proofs.LawsCodes.{counted}
use Rattle.records.specs.Keys.{is_whole}
use Rattle.records.proofs.Facts.{signed-exactly, even-of, of-even}
use Rattle.values.specs.Records.{value_narrow, is_value_name, is_old_value}
use Rattle.values.specs.Facts.{OldValueRecord}
use Rattle.values.proofs.Tests.{old}

module _ (r : List ℕ) where
  old_of : is_old_value r ≡ true → OldValueRecord r
  unfolding is_value_name
  old_of e =
      let k = old r e in
      let s = take (u16_at r 2) (drop 20 r) in
      let n = and-inv (is_whole (u16_at r 2) (value_narrow r)) _ k.name in
      let c = counted (value_narrow r) s in
      let l : length s ≡ u16_at r 2 = part_length r 20 (u16_at r 2) k.room in
      let f = leb-true (characters_in (u16_at r 2) (value_narrow r)) 16383 n.1 in
      record {
        vk = (signed-exactly r 118 107).0 k.signed;
        room = k.room;
        even = even-of (u16_at r 2) (value_narrow r) n.0;
        few = let f' : characters_in (length s) (value_narrow r) ≤ 16383 = rw l f in omega (arith, c);
      }

  old-is : OldValueRecord r → is_old_value r ≡ true
  unfolding is_old_value is_value_name
  old-is k =
      let s = take (u16_at r 2) (drop 20 r) in
      let c = counted (value_narrow r) s in
      let l : length s ≡ u16_at r 2 = part_length r 20 (u16_at r 2) k.room in
      let f : characters_in (u16_at r 2) (value_narrow r) ≤ 16383 = rw (← l) (omega (arith, c, k.few)) in
      and_both (le-leb 20 (length r) (omega (arith, k.room)))
      (and_both ((signed-exactly r 118 107).1 k.vk)
      (and_both (le-leb (20 + u16_at r 2) (length r) k.room) (and_both (of-even (u16_at r 2) (value_narrow r) k.even) (le-leb _ _ f))))

  pub old-exactly : (is_old_value r ≡ true) ↔ OldValueRecord r
  old-exactly = (old_of, old-is)
