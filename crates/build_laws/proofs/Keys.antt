-- A key's record, read back. Behind it stands what fills its cell.
use Prim.Native.Nat.{ℕ, zero, suc, ◌+◌, ◌%◌, ◌<◌}
use native.Mathlib.Omega.{arith}
use mathlib.Core.Path.{◌≡◌, refl, sym, ap, ap₂, ◌∙◌}
use mathlib.Core.Bool.{Bool, true, false}
use mathlib.Core.List.{List, ◌++◌, append_assoc}
use lib.Dec.{eqb}
use lib.ListN.{length, take, drop, length-append}
use lib.Seq.{take_at}
use Rattle.fields.specs.declared.Offset.{Offset}
use Rattle.fields.specs.Number.{u16_at, u32_at, le16, le32, le64}
use Rattle.names.specs.Codes.{codes}
use Rattle.records.specs.declared.Key.{Key}
use Rattle.records.specs.Offsets.{offset_at}
use Rattle.records.specs.Keys.{is_flagged, key_narrow, key_name, key_in}
use Rattle.records.specs.Facts.{Signed, KeyRecord}
use Rattle.forest.specs.Forest.{Item, Forest, count_of}
use Rattle.forest.specs.Allowed.{KeyName}
use Rattle.layout.specs.Layout.{zeros, nothing, is_narrow, stored, flag_of, list_at, leaf_at, longest_name, longest_data, longest_key, if_any, key_flags, key_fixed, key_record}
use Rattle.layout.proofs.Sizes.{zeros-length, key-length}
use Rattle.build_laws.proofs.Bytes.{half, word}
use Rattle.build_laws.proofs.Names.{stored-most, stored-even, stored-codes}
use Rattle.build_laws.proofs.Sizes.{values-many, subkeys-many}

-- ---- the fixed 76 bytes, and what comes behind

module _ (flags stamp parent subkeys leaf values list S keys names longest len : ℕ) (t : List ℕ) where
  abbrev Fixed : List ℕ
  Fixed = key_fixed flags stamp parent subkeys leaf values list S keys names longest len ++ t

  pub fixed-signed : Signed Fixed 110 107
  unfolding key_fixed
  fixed-signed = refl

  pub fixed-rest : drop 76 Fixed ≡ t
  unfolding key_fixed le16 le32 le64
  fixed-rest = refl

  pub fixed-stamp : take 8 (drop 4 Fixed) ≡ le64 stamp
  unfolding key_fixed le16 le32 le64
  fixed-stamp = refl

  pub fixed-flags : flags < 65536 → u16_at Fixed 2 ≡ flags
  unfolding key_fixed le16 le32 le64 u16_at
  fixed-flags h = half flags h

  pub fixed-parent : parent < 4294967296 → u32_at Fixed 16 ≡ parent
  unfolding key_fixed le16 le32 le64 u16_at u32_at
  fixed-parent h = word parent h

  pub fixed-subkeys : subkeys < 4294967296 → u32_at Fixed 20 ≡ subkeys
  unfolding key_fixed le16 le32 le64 u16_at u32_at
  fixed-subkeys h = word subkeys h

  pub fixed-leaf : leaf < 4294967296 → u32_at Fixed 28 ≡ leaf
  unfolding key_fixed le16 le32 le64 u16_at u32_at
  fixed-leaf h = word leaf h

  pub fixed-values : values < 4294967296 → u32_at Fixed 36 ≡ values
  unfolding key_fixed le16 le32 le64 u16_at u32_at
  fixed-values h = word values h

  pub fixed-list : list < 4294967296 → u32_at Fixed 40 ≡ list
  unfolding key_fixed le16 le32 le64 u16_at u32_at
  fixed-list h = word list h

  pub fixed-item : S < 4294967296 → u32_at Fixed 44 ≡ S
  unfolding key_fixed le16 le32 le64 u16_at u32_at
  fixed-item h = word S h

  pub fixed-len : len < 65536 → u16_at Fixed 72 ≡ len
  unfolding key_fixed le16 le32 le64 u16_at
  fixed-len h = half len h

-- ---- the flag of a name's form

pub narrow-flag : (x : List ℕ) (parent : ℕ) → is_flagged (key_flags x parent) 32 ≡ is_narrow x
unfolding key_flags flag_of
narrow-flag x parent = by (is_narrow x) (eqb parent nothing)
  where
    by : (a b : Bool) → is_flagged (flag_of a 32 + flag_of b 12) 32 ≡ a
    by true true = refl
    by true false = refl
    by false true = refl
    by false false = refl

flags-fit : (x : List ℕ) (parent : ℕ) → key_flags x parent < 65536
unfolding key_flags flag_of
flags-fit x parent = by (is_narrow x) (eqb parent nothing)
  where
    by : (a b : Bool) → flag_of a 32 + flag_of b 12 < 65536
    by true true = omega arith
    by true false = omega arith
    by false true = omega arith
    by false false = omega arith

any-fits : (n at : ℕ) → at < 4294967296 → if_any n at < 4294967296
unfolding if_any
any-fits zero at h = omega arith
any-fits (suc n) at h = h

-- ---- the record of a key

-- its fields, by the layout; the name lies in the cell of an offset
abbrev pub key_at : List ℕ → List Item → Forest → ℕ → ℕ → Offset → Key
key_at x vs b at parent o =
    record {
      parent = record { 0 = parent };
      subkeys = count_of b;
      list = record { 0 = if_any (count_of b) (leaf_at x vs b at) };
      values = length vs;
      value_list = record { 0 = if_any (length vs) (list_at x vs at) };
      name = record { cell = o; at = 76; len = length (stored x); narrow = is_narrow x };
    }

module _ (s : ℕ) (x : List ℕ) (vs : List Item) (b : Forest) (at parent S k : ℕ) where
  abbrev Cell : List ℕ
  Cell = key_record s x vs b at parent S ++ zeros k

  abbrev Head : List ℕ
  Head =
      key_fixed (key_flags x parent) s parent (count_of b) (if_any (count_of b) (leaf_at x vs b at)) (length vs) (if_any (length vs) (list_at x vs at)) S
      (longest_key b) (longest_name vs) (longest_data vs) (length (stored x))

  is_front : Cell ≡ Head ++ (stored x ++ zeros k)
  unfolding key_record
  is_front = append_assoc Head (stored x) (zeros k)

  pub key-stamp : take 8 (drop 4 Cell) ≡ le64 s
  key-stamp = rw is_front (fixed-stamp _ s _ _ _ _ _ _ _ _ _ _ _)

  pub key-item : S < 4294967296 → offset_at Cell 44 ≡ record { 0 = S }
  key-item h = rw is_front (ap (λ (n : ℕ). let o : Offset = record { 0 = n } in o) (fixed-item _ s _ _ _ _ _ _ _ _ _ _ _ h))

  pub key-name-bytes : take (length (stored x)) (drop 76 Cell) ≡ stored x
  key-name-bytes = rw is_front (ap (take (length (stored x))) (fixed-rest _ s _ _ _ _ _ _ _ _ _ _ _) ∙ take_at (stored x) (zeros k) _ refl)

  cell-length : length Cell ≡ 76 + length (stored x) + k
  cell-length =
      let e = key-length s x vs b at parent S in
      let a = length-append (key_record s x vs b at parent S) (zeros k) in
      let z = zeros-length k in
      omega arith

  module _ (name : KeyName x) where
    len-fits : length (stored x) < 65536
    len-fits = let m = stored-most x in let f = name.few in omega arith

    pub key-len : u16_at Cell 72 ≡ length (stored x)
    key-len = rw is_front (fixed-len _ s _ _ _ _ _ _ _ _ _ _ _ len-fits)

    pub key-narrow : key_narrow Cell ≡ is_narrow x
    key-narrow =
        rw is_front
        (ap (λ (n : ℕ). is_flagged n 32) (fixed-flags _ s _ _ _ _ _ _ _ _ _ _ _ (flags-fit x parent)) ∙ narrow-flag x parent)

    pub key-name : key_name Cell ≡ stored x
    key-name = ap (λ (n : ℕ). take n (drop 76 Cell)) key-len ∙ key-name-bytes

    pub key-codes : codes (key_narrow Cell) (key_name Cell) ≡ x
    key-codes = ap₂ codes key-narrow key-name ∙ stored-codes x name.codes-fit

    pub key-record : KeyRecord Cell
    key-record =
        record {
          nk = rw is_front (fixed-signed _ s _ _ _ _ _ _ _ _ _ _ _);
          room = let l = cell-length in let e = key-len in omega arith;
          even = λ e. ap (λ (n : ℕ). n % 2) key-len ∙ stored-even x (sym key-narrow ∙ e);
          some = rw key-codes name.some;
          few = rw key-codes name.few;
          no-backslash = rw key-codes name.no-backslash;
        }

    -- the fields, where the key's subkeys end inside 32 bits
    module _ (p : parent < 4294967296) (q : leaf_at x vs b at < 4294967296) where
      pub key-read : (o : Offset) → key_in Cell o ≡ key_at x vs b at parent o
      unfolding key_in
      key-read o =
          rw (
            key-narrow,
            key-len,
            parent-read,
            subkeys-read,
            leaf-read,
            values-read,
            list_read,
          )
        where
          parent-read : u32_at Cell 16 ≡ parent
          parent-read = rw is_front (fixed-parent _ s _ _ _ _ _ _ _ _ _ _ _ p)

          subkeys-read : u32_at Cell 20 ≡ count_of b
          subkeys-read = let c = subkeys-many b in rw is_front (fixed-subkeys _ s _ _ _ _ _ _ _ _ _ _ _ (omega arith))

          leaf-read : u32_at Cell 28 ≡ if_any (count_of b) (leaf_at x vs b at)
          leaf-read = rw is_front (fixed-leaf _ s _ _ _ _ _ _ _ _ _ _ _ (any-fits (count_of b) _ q))

          values-read : u32_at Cell 36 ≡ length vs
          values-read = let c = values-many vs in rw is_front (fixed-values _ s _ _ _ _ _ _ _ _ _ _ _ (omega arith))

          list_read : u32_at Cell 40 ≡ if_any (length vs) (list_at x vs at)
          list_read = rw is_front (fixed-list _ s _ _ _ _ _ _ _ _ _ _ _ (any-fits (length vs) _ (omega arith)))
