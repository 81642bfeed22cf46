-- What a key that passes its test says.
use Prim.Native.Nat.{ℕ, ◌+◌, ◌≤◌}
use native.Mathlib.Omega.{arith}
use mathlib.Core.Path.{◌≡◌, refl}
use mathlib.Core.Bool.{true, false}
use mathlib.Core.List.{List, [], ◌∷◌}
use lib.ListN.{length}
use lib.Dec.{leb}
use borrow.Author.Tests.{leb-true, not-true}
use Rattle.fields.specs.declared.Offset.{Offset}
use Rattle.fields.specs.Number.{u16_at}
use Rattle.fields.specs.Bytes.{stands_at}
use Rattle.fields.proofs.Bools.{and-inv}
use Rattle.cells.specs.Rule.{Rule}
use Rattle.cells.specs.Named.{data_at}
use Rattle.cells.proofs.Parts.{part_length}
use Rattle.names.specs.Codes.{codes, characters_in, has_code, backslash}
use Rattle.names.proofs.LawsCodes.{counted}
use Rattle.records.specs.Keys.{is_whole, is_key_name, key_narrow, key_name, is_key, key_fault, key_in, key_of, NameIn, codes_of}
use Rattle.records.proofs.LawsRecord.{record-tested}
use Rattle.std.specs.Prelude.{Ok}

-- the codes of the name of a key record
abbrev pub name_codes : List ℕ → List ℕ
name_codes r = codes (key_narrow r) (key_name r)

-- room for 76 bytes and the name, the signature, "1 to 255 characters and no backslash; UTF-16 lengths are even"
pub record IsKey (r : List ℕ) : Type 0 where
  pub room : 76 + u16_at r 72 ≤ length r
  pub signature : stands_at r 0 (110 ∷ 107 ∷ []) ≡ true
  pub whole : is_whole (u16_at r 72) (key_narrow r) ≡ true
  pub some : 1 ≤ length (name_codes r)
  pub few : length (name_codes r) ≤ 255
  pub no-backslash : has_code backslash (name_codes r) ≡ false

pub is-key-facts : (r : List ℕ) → is_key r ≡ true → IsKey r
unfolding is_key is_key_name
is-key-facts r e =
    let a = and-inv (leb 76 (length r)) _ e in
    let b = and-inv (stands_at r 0 (110 ∷ 107 ∷ [])) _ a.1 in
    let n = and-inv (leb (76 + u16_at r 72) (length r)) _ b.1 in
    let w = and-inv (is_whole (length (key_name r)) (key_narrow r)) _ n.1 in
    let s = and-inv (leb 1 (characters_in (length (key_name r)) (key_narrow r))) _ w.1 in
    let f = and-inv (leb (characters_in (length (key_name r)) (key_narrow r)) 255) _ s.1 in
    let fits = leb-true (76 + u16_at r 72) (length r) n.0 in
    let least = leb-true 1 (characters_in (length (key_name r)) (key_narrow r)) s.0 in
    let most = leb-true (characters_in (length (key_name r)) (key_narrow r)) 255 f.0 in
    let many = counted (key_narrow r) (key_name r) in
    record {
      room = fits;
      signature = b.0;
      whole = rw (part_length r 76 (u16_at r 72) fits) at w.0;
      some = omega arith;
      few = omega arith;
      no-backslash = not-true (has_code backslash (name_codes r)) f.1;
    }

module _ (rule : Rule) (d m : List ℕ) (o : Offset) where
  module _ (e : key_fault rule d m o ≡ Ok tt) where
    pub key-facts : IsKey (data_at d o)
    unfolding key_fault
    key-facts = is-key-facts (data_at d o) (record-tested is_key rule d m o e)

    -- what `key_fields` requires
    pub key-room : 76 ≤ length (data_at d o)
    key-room = let k = key-facts in omega arith

    -- the name lies in the record's cell
    pub name-room : NameIn d (key_of d o).name
    unfolding key_of key_in
    name-room = record { some = omega arith; ends = key-facts.room }

-- the codes of a key's name are those of its record
pub name-codes : (d : List ℕ) (o : Offset) → codes_of d (key_of d o).name ≡ name_codes (data_at d o)
unfolding key_of key_in codes_of
name-codes d o = refl

pub key_room : (r : List ℕ) → is_key r ≡ true → 76 ≤ length r
key_room r e = let k = is-key-facts r e in omega (arith, k.room)
