-- A value's record, read back. Behind it stands what fills its cell.
use Prim.Native.Nat.{ℕ, ◌+◌, ◌-◌, ◌%◌, ◌<◌, ◌≤◌}
use native.Mathlib.Omega.{arith}
use mathlib.Core.Path.{◌≡◌, refl, sym, ap, ap₂, ◌∙◌}
use mathlib.Core.Bool.{Bool, true, false, cond}
use mathlib.Core.List.{List, ◌∷◌, ◌++◌, append_assoc}
use lib.Dec.{leb}
use lib.ListN.{length, take, drop, length-append}
use lib.Seq.{take_at, drop_at}
use borrow.Author.Tests.{leb-true, leb-false, le-leb, lt-leb, lt-ltb, le-ltb}
use Rattle.fields.specs.declared.Offset.{Offset}
use Rattle.fields.specs.Number.{u16_at, u32_at, le16, le32}
use Rattle.fields.proofs.Little.{length-le16, length-le32}
use Rattle.names.specs.Codes.{codes}
use Rattle.records.specs.Keys.{is_flagged}
use Rattle.records.specs.Facts.{Signed}
use Rattle.values.specs.declared.Value.{Value}
use Rattle.values.specs.declared.ValueData.TheVariants.{Inline, OneCell, Segments}
use Rattle.values.specs.Records.{top_bit, value_narrow, is_segmented, content_of, fields_of}
use Rattle.values.specs.Facts.{OldValueRecord}
use Rattle.tree.specs.Facts.{ValueRecord}
use Rattle.forest.specs.Forest.{Item}
use Rattle.forest.specs.Allowed.{ItemAllowed}
use Rattle.layout.specs.Layout.{zeros, is_narrow, stored, flag_of, data_field, value_record}
use Rattle.layout.proofs.Sizes.{zeros-length, value-length}
use Rattle.build_laws.specs.Written.{next_at, content_at}
use Rattle.build_laws.proofs.Bytes.{half, word, half-there, word-there}
use Rattle.build_laws.proofs.Names.{stored-most, stored-even, stored-codes}

-- ---- the fixed 20 bytes, four of them as they come, and what stands behind

unfoldable fixed : ℕ → ℕ → List ℕ → ℕ → ℕ → List ℕ → List ℕ
fixed len size f kind flag t = 118 ∷ 107 ∷ (le16 len ++ (le32 size ++ (f ++ (le32 kind ++ (le16 flag ++ (le16 0 ++ t))))))

module _ (len size : ℕ) (f : List ℕ) (kind flag : ℕ) (t : List ℕ) where
  fixed-signed : Signed (fixed len size f kind flag t) 118 107
  unfolding fixed
  fixed-signed = refl

  fixed-len : len < 65536 → u16_at (fixed len size f kind flag t) 2 ≡ len
  unfolding fixed le16 u16_at
  fixed-len h = half len h

  fixed-size : size < 4294967296 → u32_at (fixed len size f kind flag t) 4 ≡ size
  unfolding fixed le16 le32 u16_at u32_at
  fixed-size h = word size h

  fixed-data : drop 8 (fixed len size f kind flag t) ≡ f ++ (le32 kind ++ (le16 flag ++ (le16 0 ++ t)))
  unfolding fixed le16 le32
  fixed-data = refl

  module _ (four : length f ≡ 4) where
    front : List ℕ
    front = 118 ∷ 107 ∷ (le16 len ++ (le32 size ++ f))

    front_length : length front ≡ 12
    unfolding front le16 le32
    front_length = omega arith

    front-is : fixed len size f kind flag t ≡ front ++ (le32 kind ++ (le16 flag ++ (le16 0 ++ t)))
    unfolding front fixed
    front-is = simp append_assoc

    fixed-kind : kind < 4294967296 → u32_at (fixed len size f kind flag t) 12 ≡ kind
    fixed-kind h = ap (λ (r : List ℕ). u32_at r 12) front-is ∙ word-there front kind _ 12 front_length h

    later-is : fixed len size f kind flag t ≡ (front ++ le32 kind) ++ (le16 flag ++ (le16 0 ++ t))
    later-is = front-is ∙ sym (append_assoc front (le32 kind) (le16 flag ++ (le16 0 ++ t)))

    later-length : length (front ++ le32 kind) ≡ 16
    later-length = length-append front (le32 kind) ∙ ap₂ ◌+◌ front_length (length-le32 kind)

    fixed-flag : flag < 65536 → u16_at (fixed len size f kind flag t) 16 ≡ flag
    fixed-flag h = ap (λ (r : List ℕ). u16_at r 16) later-is ∙ half-there (front ++ le32 kind) flag _ 16 later-length h

    fixed-rest : drop 20 (fixed len size f kind flag t) ≡ t
    fixed-rest =
        let a = length-append (front ++ le32 kind) (le16 flag ++ le16 0) in
        let b = later-length in
        let c = length-append (le16 flag) (le16 0) in
        let d = length-le16 flag in
        let e = length-le16 0 in
        let l : length ((front ++ le32 kind) ++ (le16 flag ++ le16 0)) ≡ 20 = omega arith in
        ap (drop 20)
        (later-is
        ∙ ap (λ (w : List ℕ). (front ++ le32 kind) ++ w) (sym (append_assoc (le16 flag) (le16 0) t))
        ∙ sym (append_assoc (front ++ le32 kind) (le16 flag ++ le16 0) t))
        ∙ drop_at ((front ++ le32 kind) ++ (le16 flag ++ le16 0)) t 20 l

-- an offset at 8
fixed-next : (len size next kind flag : ℕ) (t : List ℕ) → next < 4294967296 → u32_at (fixed len size (le32 next) kind flag t) 8 ≡ next
unfolding fixed le16 le32 u16_at u32_at
fixed-next len size next kind flag t h = word next h

-- ---- the eight bytes of the data's field

module _ (x : List ℕ) (next : ℕ) where
  size_field : ℕ
  size_field = cond (leb (length x) 4) (top_bit + length x) (length x)

  four_field : List ℕ
  four_field = cond (leb (length x) 4) (x ++ zeros (4 - length x)) (le32 next)

  field_is : data_field x next ≡ le32 size_field ++ four_field
  unfolding data_field size_field four_field
  field_is = by (leb (length x) 4)
    where
      by : (t : Bool) → cond t (le32 (top_bit + length x) ++ (x ++ zeros (4 - length x))) (le32 (length x) ++ le32 next)
          ≡ le32 (cond t (top_bit + length x) (length x)) ++ cond t (x ++ zeros (4 - length x)) (le32 next)
      by true = refl
      by false = refl

  four-length : length four_field ≡ 4
  unfolding four_field
  four-length = by (leb (length x) 4) refl
    where
      by : (t : Bool) → leb (length x) 4 ≡ t → length (cond t (x ++ zeros (4 - length x)) (le32 next)) ≡ 4
      by true e =
          let l = leb-true (length x) 4 e in
          let a = length-append x (zeros (4 - length x)) in
          let z = zeros-length (4 - length x) in
          omega arith
      by false e = length-le32 next

  size-short : length x ≤ 4 → size_field ≡ top_bit + length x
  unfolding size_field
  size-short h = rw (le-leb (length x) 4 h)

  size-long : 4 < length x → size_field ≡ length x
  unfolding size_field
  size-long h = rw (lt-leb (length x) 4 h)

  four-short : length x ≤ 4 → four_field ≡ x ++ zeros (4 - length x)
  unfolding four_field
  four-short h = rw (le-leb (length x) 4 h)

  four-long : 4 < length x → four_field ≡ le32 next
  unfolding four_field
  four-long h = rw (lt-leb (length x) 4 h)

-- where the data lie, for each length
module _ (x : List ℕ) (next : ℕ) (o : Offset) where
  pub content-inline : length x ≤ 4 → content_at x next o ≡ Inline o (length x)
  unfolding content_at
  content-inline h = rw (le-leb (length x) 4 h)

  pub content-one : 4 < length x → length x ≤ 16344 → content_at x next o ≡ OneCell (record { 0 = next }) (length x)
  unfolding content_at
  content-one h l = rw (lt-leb (length x) 4 h, le-leb (length x) 16344 l)

  pub content-segments : 16344 < length x → content_at x next o ≡ Segments (record { 0 = next }) (length x)
  unfolding content_at
  content-segments h = rw (lt-leb (length x) 4 (omega arith), lt-leb (length x) 16344 h)

-- ---- the record of a value

flag-fits : (b : Bool) → flag_of b 1 < 65536
unfolding flag_of
flag-fits true = omega arith
flag-fits false = omega arith

flag-narrow : (b : Bool) → is_flagged (flag_of b 1) 1 ≡ b
unfolding flag_of
flag-narrow true = refl
flag-narrow false = refl

regroup : (a s f c d e n z : List ℕ)
    → (a ++ ((s ++ f) ++ (c ++ (d ++ (e ++ n))))) ++ z ≡ a ++ (s ++ (f ++ (c ++ (d ++ (e ++ (n ++ z))))))
regroup a s f c d e n z = simp append_assoc

-- where the data lie, by the fields that say it
content-by : (r x : List ℕ) (next : ℕ) (o : Offset) → length x ≤ 1048576 → u32_at r 4 ≡ size_field x next → (4 < length x → u32_at r 8 ≡ next)
    → content_of r 5 o ≡ content_at x next o
unfolding content_of is_segmented
content-by r x next o h s n = by (leb (length x) 4) refl (leb (length x) 16344) refl
  where
    by : (t : Bool) → leb (length x) 4 ≡ t → (g : Bool) → leb (length x) 16344 ≡ g → content_of r 5 o ≡ content_at x next o
    by true e g i =
        let l = leb-true (length x) 4 e in
        let z = s ∙ size-short x next l in
        let d : top_bit + length x - top_bit ≡ length x = omega arith in
        rw (z, le-leb top_bit (top_bit + length x) (omega arith), d) (sym (content-inline x next o l))
    by false e true i =
        let l = leb-false (length x) 4 e in
        let m = leb-true (length x) 16344 i in
        let z = s ∙ size-long x next l in
        rw (z, lt-leb top_bit (length x) (omega arith), le-ltb 16344 (length x) m, n l) (sym (content-one x next o l m))
    by false e false i =
        let l = leb-false (length x) 4 e in
        let m = leb-false (length x) 16344 i in
        let z = s ∙ size-long x next l in
        rw (z, lt-leb top_bit (length x) (omega arith), lt-ltb 16344 (length x) m, n l) (sym (content-segments x next o m))

-- its fields, by the layout; its name and data of up to 4 bytes lie in the cell of an offset
abbrev pub value_at : Item → ℕ → Offset → Value
value_at v at o =
    record {
      kind = v.kind;
      content = content_at v.bytes (next_at v at) o;
      name = record { cell = o; at = 20; len = length (stored v.name); narrow = is_narrow v.name };
    }

module _ (v : Item) (at k : ℕ) where
  abbrev Cell : List ℕ
  Cell = value_record v at ++ zeros k

  abbrev Len : ℕ
  Len = length (stored v.name)

  abbrev Front : List ℕ → List ℕ
  Front f = fixed Len (size_field v.bytes (next_at v at)) f v.kind (flag_of (is_narrow v.name) 1) (stored v.name ++ zeros k)

  is-fixed : Cell ≡ Front (four_field v.bytes (next_at v at))
  unfolding value_record fixed
  is-fixed =
      ap (λ (w : List ℕ). 118 ∷ 107 ∷ ((le16 Len ++ (w ++ (le32 v.kind ++ (le16 (flag_of (is_narrow v.name) 1) ++ (le16 0 ++ stored v.name))))) ++ zeros k))
      (field_is v.bytes (next_at v at))
      ∙ ap (λ (w : List ℕ). 118 ∷ 107 ∷ w)
      (regroup (le16 Len) (le32 (size_field v.bytes (next_at v at))) (four_field v.bytes (next_at v at)) (le32 v.kind)
      (le16 (flag_of (is_narrow v.name) 1)) (le16 0) (stored v.name) (zeros k))

  four : length (four_field v.bytes (next_at v at)) ≡ 4
  four = four-length v.bytes (next_at v at)

  cell-length : length Cell ≡ 20 + Len + k
  cell-length =
      let e = value-length v at in
      let a = length-append (value_record v at) (zeros k) in
      let z = zeros-length k in
      omega arith

  pub value-name-bytes : take Len (drop 20 Cell) ≡ stored v.name
  value-name-bytes = ap (λ (r : List ℕ). take Len (drop 20 r)) is-fixed ∙ ap (take Len) (fixed-rest _ _ _ _ _ _ four) ∙ take_at (stored v.name) (zeros k) _ refl

  -- up to 4 bytes of data are the bytes themselves
  pub value-inline : length v.bytes ≤ 4 → take (length v.bytes) (drop 8 Cell) ≡ v.bytes
  value-inline h =
      ap (λ (r : List ℕ). take (length v.bytes) (drop 8 r)) (is-fixed ∙ ap Front (four-short v.bytes (next_at v at) h))
      ∙ ap (take (length v.bytes)) (fixed-data Len _ _ v.kind _ _ ∙ append_assoc v.bytes (zeros (4 - length v.bytes)) _)
      ∙ take_at v.bytes _ _ refl

  module _ (allowed : ItemAllowed v) where
    pub value_len : u16_at Cell 2 ≡ Len
    value_len =
        let m = stored-most v.name in
        let n = allowed.name-fits in
        ap (λ (r : List ℕ). u16_at r 2) is-fixed ∙ fixed-len Len _ _ _ _ _ (omega arith)

    pub value-narrow : value_narrow Cell ≡ is_narrow v.name
    value-narrow =
        ap (λ (r : List ℕ). is_flagged (u16_at r 16) 1) is-fixed
        ∙ ap (λ (n : ℕ). is_flagged n 1) (fixed-flag _ _ _ _ _ _ four (flag-fits (is_narrow v.name)))
        ∙ flag-narrow (is_narrow v.name)

    pub value-codes : codes (value_narrow Cell) (take (u16_at Cell 2) (drop 20 Cell)) ≡ v.name
    value-codes =
        ap₂ codes value-narrow (ap (λ (n : ℕ). take n (drop 20 Cell)) value_len ∙ value-name-bytes) ∙ stored-codes v.name allowed.codes-fit

    value-kind : u32_at Cell 12 ≡ v.kind
    value-kind = ap (λ (r : List ℕ). u32_at r 12) is-fixed ∙ fixed-kind _ _ _ v.kind _ _ four allowed.kind_fits

    size_fits : size_field v.bytes (next_at v at) < 4294967296
    unfolding size_field
    size_fits = by (leb (length v.bytes) 4)
      where
        by : (t : Bool) → cond t (top_bit + length v.bytes) (length v.bytes) < 4294967296
        by true = let n = allowed.data-fits in omega arith
        by false = let n = allowed.data-fits in omega arith

    value-size : u32_at Cell 4 ≡ size_field v.bytes (next_at v at)
    value-size = ap (λ (r : List ℕ). u32_at r 4) is-fixed ∙ fixed-size Len _ _ _ _ _ size_fits

    pub value-record : ValueRecord Cell
    value-record = record { old = old; inline = λ h. (by (leb (length v.bytes) 4) refl).0 h; limit = λ h. (by (leb (length v.bytes) 4) refl).1 h }
      where
        old : OldValueRecord Cell
        old =
            record {
              vk = ap (take 2) is-fixed ∙ fixed-signed _ _ _ _ _ _;
              room = let l = cell-length in let e = value_len in omega arith;
              even = λ e. ap (λ (n : ℕ). n % 2) value_len ∙ stored-even v.name (sym value-narrow ∙ e);
              few = rw value-codes allowed.name-fits;
            }

        by : (t : Bool) → leb (length v.bytes) 4 ≡ t
            → (2147483648 ≤ u32_at Cell 4 → u32_at Cell 4 - 2147483648 ≤ 4) × (u32_at Cell 4 < 2147483648 → u32_at Cell 4 ≤ 1048576)
        by true e =
            let l = leb-true (length v.bytes) 4 e in
            let z = value-size ∙ size-short v.bytes (next_at v at) l in
            (λ h. omega arith, λ h. omega arith)
        by false e =
            let l = leb-false (length v.bytes) 4 e in
            let z = value-size ∙ size-long v.bytes (next_at v at) l in
            let n = allowed.data-fits in
            (λ h. omega arith, λ h. omega arith)

    pub value_read : next_at v at < 4294967296 → (o : Offset) → fields_of Cell 5 o ≡ value_at v at o
    unfolding fields_of
    value_read h o =
        rw (
          value-kind,
          value_len,
          value-narrow,
          content-by Cell v.bytes (next_at v at) o allowed.data-fits value-size next-read,
        )
      where
        next-read : 4 < length v.bytes → u32_at Cell 8 ≡ next_at v at
        next-read l =
            ap (λ (r : List ℕ). u32_at r 8) (is-fixed ∙ ap Front (four-long v.bytes (next_at v at) l))
            ∙ fixed-next Len _ (next_at v at) v.kind _ _ h
