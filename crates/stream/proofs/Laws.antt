-- Names in UTF-16LE, and how long the frames are that open a key and that hold a value.
use Prim.Native.Nat.{ℕ, suc, ◌+◌, ◌*◌, ◌/◌, ◌%◌, ◌<◌, ◌≤◌}
use native.Mathlib.Omega.{arith}
use native.Mathlib.Numerals.{add-one}
use mathlib.Core.Path.{◌≡◌, refl, sym, ap, ap₂, ◌∙◌}
use mathlib.Core.Bool.{Bool, true, false}
use mathlib.Core.List.{List, [], ◌∷◌, ◌++◌, append_assoc, append-nil}
use lib.Dec.{leb}
use lib.ListN.{length, get_or, take, drop, set, length-append}
use lib.Seq.{sets, take-suc, take_all, length-take-le, drop-length}
use borrow.Author.Tests.{eqb-true, leb-true, leb-false}
use Rattle.fields.specs.declared.Offset.{Offset}
use Rattle.fields.specs.Number.{u16_at, u32_at}
use Rattle.fields.proofs.Bools.{and-inv}
use Rattle.cells.specs.Rule.{Header}
use Rattle.cells.specs.Named.{data_at, part_in}
use Rattle.cells.proofs.Parts.{part_length}
use Rattle.names.specs.Codes.{codes, characters_in}
use Rattle.names.proofs.LawsCodes.{counted}
use Rattle.records.specs.declared.Key.{Key}
use Rattle.records.specs.declared.Name.{Name}
use Rattle.records.specs.Keys.{is_whole, key_fault, key_in, key_of, NameIn, name_bytes, codes_of}
use Rattle.records.proofs.LawsKey.{key-facts, key-room, name-room, name-codes}
use Rattle.values.specs.declared.Value.{Value}
use Rattle.values.specs.Records.{top_bit, is_value_name, value_fault, is_segmented, content_of, data_in, fields_of, value_of, is_value, value_narrow}
use Rattle.values.specs.Segments.{data_fault, bytes_of, length_of}
use Rattle.values.proofs.Cell_tests.{says}
use Rattle.values.proofs.Tests.{Kept, kept}
use Rattle.values.proofs.LawsData.{bytes-length, part-whole}
use Rattle.values.proofs.LawsValues.{inline-size, other-size, name-inside, lies}
use Rattle.fields.specs.Number.{le16, le32}
use Rattle.stream.specs.Stream.{wide, open_frame, framed_value}
use Rattle.stream.specs.Terms.{wide_len, NameStands, ValueLies, open_len, value_len}
use Rattle.fields.proofs.Little.{length-le16, length-le32}
use Rattle.stream.proofs.Puts.{put_then, part_lent, put_all, frame-length, put-frame, put-closing}
use Rattle.std.specs.Prelude.{Ok}

-- ---- UTF-16LE

pub length-wide : (cs : List ℕ) → length (wide cs) ≡ 2 * length cs
unfolding wide
length-wide [] = refl
length-wide (c ∷ cs) =
    let a = length-append (le16 c) (wide cs) in
    let b = length-le16 c in
    let r = length-wide cs in
    omega arith

wide-append : (xs ys : List ℕ) → wide (xs ++ ys) ≡ wide xs ++ wide ys
unfolding wide
wide-append [] ys = refl
wide-append (x ∷ xs) ys = ap (λ (r : List ℕ). le16 x ++ r) (wide-append xs ys) ∙ sym (append_assoc (le16 x) (wide xs) (wide ys))

wide-byte : (c : ℕ) → c < 256 → wide (c ∷ []) ≡ c ∷ 0 ∷ []
unfolding wide le16
wide-byte c p =
    let a : c % 256 ≡ c = omega arith in
    let b : c / 256 % 256 ≡ 0 = omega arith in
    ap₂ (λ (x y : ℕ). x ∷ y ∷ []) a b

-- one-byte characters, one after the other
pub widen-start : (s out : List ℕ) → out ≡ sets out 0 (wide (take 0 s))
unfolding wide
widen-start s out = refl

pub widen-turn : (s out : List ℕ) (i : ℕ) → i < length s → get_or s i 0 < 256
    → set (set (sets out 0 (wide (take i s))) (2 * i) (get_or s i 0)) (2 * i + 1) 0 ≡ sets out 0 (wide (take (i + 1) s))
widen-turn s out i p q =
    let e = wide-append (take i s) (get_or s i 0 ∷ []) in
    let b = wide-byte (get_or s i 0) q in
    let l = length-wide (take i s) in
    let m = length-take-le i s (omega arith) in
    let z : 2 * i + 1 ≡ suc (2 * i) = omega arith in
    let y : 2 * i ≡ 0 + length (wide (take i s)) = omega arith in
    sym (ap (λ (k : ℕ). sets out 0 (wide (take k s))) (add-one i)
    ∙ ap (λ (r : List ℕ). sets out 0 (wide r)) (take-suc s i 0 p)
    ∙ ap (sets out 0) (e ∙ ap (λ (r : List ℕ). wide (take i s) ++ r) b)
    ∙ put_then (wide (take i s)) (get_or s i 0 ∷ 0 ∷ []) out 0 (2 * i) y
    ∙ ap (λ (k : ℕ). set (set (sets out 0 (wide (take i s))) (2 * i) (get_or s i 0)) k 0) (sym z))

pub widen-end : (s out : List ℕ) (i : ℕ) → length out ≡ 2 * length s → length s ≤ i → sets out 0 (wide (take i s)) ≡ wide (codes true s)
unfolding codes
widen-end s out i e p =
    let l = length-wide s in
    ap (λ (r : List ℕ). sets out 0 (wide r)) (take_all i s p) ∙ put_all out (wide s) (omega arith)

-- a name that is stored in UTF-16LE
pub stored-wide : (s : List ℕ) → ((i : ℕ) → get_or s i 0 < 256) → length s % 2 ≡ 0 → wide (codes false s) ≡ s
unfolding codes wide le16
stored-wide [] f e = refl
stored-wide (a ∷ []) f e = absurd (omega arith)
stored-wide (a ∷ b ∷ s) f e =
    let p = f 0 in
    let q = f 1 in
    let x : (a + b * 256) % 256 ≡ a = omega arith in
    let r : (a + b * 256) / 256 ≡ b = omega arith in
    let y : (a + b * 256) / 256 % 256 ≡ b = ap (λ (n : ℕ). n % 256) r ∙ (omega arith) in
    ap₂ (λ (u v : ℕ). u ∷ v ∷ wide (codes false s)) x y ∙ ap (λ (r : List ℕ). a ∷ b ∷ r) (stored-wide s (λ i. f (suc (suc i))) (omega arith))

pub wide-even : (n : ℕ) (narrow : Bool) → narrow ≡ false → is_whole n narrow ≡ true → n % 2 ≡ 0
wide-even n narrow e w = eqb-true (n % 2) 0 (rw e at w)

pub wide-count : (n : ℕ) (narrow : Bool) → narrow ≡ false → is_whole n narrow ≡ true → 2 * characters_in n narrow ≡ n
unfolding characters_in
wide-count n narrow e w = let h = wide-even n narrow e w in rw e (omega arith)

pub narrow-count : (n : ℕ) (narrow : Bool) → narrow ≡ true → characters_in n narrow ≡ n
unfolding characters_in
narrow-count n narrow e = rw e

-- every frame has some bytes
pub open-some : (d : List ℕ) (k : Offset) → 6 ≤ length (open_frame d k)
unfolding open_frame
open-some d k = let a = frame-length 16 (part_in d k 4 8 ++ wide (codes_of d (key_of d k).name)) in omega arith

pub value-some : (d : List ℕ) (x : Value) → 6 ≤ length (framed_value d x)
unfolding framed_value
value-some d x =
    let cs = codes_of d x.name in
    let a = frame-length 17 (le32 x.kind ++ le32 (2 * length cs) ++ wide cs ++ bytes_of d x.content) in
    omega arith

-- ---- a name in its cell

module _ (d : List ℕ) (n : Name) (p : NameIn d n) where
  pub name-length : length (name_bytes d n) ≡ n.len
  name-length = part_length (data_at d n.cell) n.at n.len p.ends

  pub codes-count : length (codes_of d n) ≡ characters_in n.len n.narrow
  unfolding codes_of
  codes-count = sym (counted n.narrow (name_bytes d n)) ∙ ap (λ (k : ℕ). characters_in k n.narrow) name-length

  pub name-wide : length (wide (codes_of d n)) ≡ wide_len n
  name-wide = length-wide (codes_of d n) ∙ ap (λ (k : ℕ). 2 * k) codes-count

-- ---- a key

module _ (d : List ℕ) (k : Offset) (s : key_fault Header d [] k ≡ Ok tt) where
  pub key-name : NameStands d (key_of d k).name
  unfolding key_of key_in
  key-name =
      let f = key-facts Header d [] k s in
      let r = name-room Header d [] k s in
      let c = codes-count d (key_of d k).name r in
      let e = ap length (name-codes d k) in
      record { inside = r; whole = f.whole; few = omega (arith, f.few) }

  stamp-length : length (part_in d k 4 8) ≡ 8
  stamp-length = let r = key-room Header d [] k s in part_length (data_at d k) 4 8 (omega arith)

  payload : length (part_in d k 4 8 ++ wide (codes_of d (key_of d k).name)) ≡ 8 + wide_len (key_of d k).name
  payload =
      let a = length-append (part_in d k 4 8) (wide (codes_of d (key_of d k).name)) in
      let b = stamp-length in
      let c = name-wide d (key_of d k).name key-name.inside in
      omega arith

  pub open-length : length (open_frame d k) ≡ open_len (key_of d k).name
  unfolding open_frame
  open-length =
      let a = frame-length 16 (part_in d k 4 8 ++ wide (codes_of d (key_of d k).name)) in
      let b = payload in
      omega arith

  pub open-put : (l : List ℕ) (at n : ℕ) → n ≡ 8 + wide_len (key_of d k).name
      → sets (sets (sets (sets l at (le32 n)) (at + 4) (le16 16)) (at + 6) (part_in d k 4 8)) (at + 14) (wide (codes_of d (key_of d k).name))
      ≡ sets l at (open_frame d k)
  unfolding open_frame
  open-put l at n e =
      let b = stamp-length in
      let z : at + 14 ≡ at + 6 + length (part_in d k 4 8) = omega arith in
      sym (put_then (part_in d k 4 8) (wide (codes_of d (key_of d k).name)) _ (at + 6) (at + 14) z)
      ∙ put-frame 16 (part_in d k 4 8 ++ wide (codes_of d (key_of d k).name)) l at n (e ∙ sym payload)

  -- the same of its fields, as they were read
  module _ (y : Key) (is : y ≡ key_of d k) where
    pub named-stands : NameStands d y.name
    named-stands = rw is key-name

    pub named-few : characters_in y.name.len y.name.narrow ≤ 16383
    named-few = named-stands.few

    pub open-room : length (open_frame d k) ≡ 14 + wide_len y.name
    open-room = rw is open-length

    pub open-puts : (l : List ℕ) (at n : ℕ) → n ≡ 8 + wide_len y.name
        → sets (sets (sets (sets l at (le32 n)) (at + 4) (le16 16)) (at + 6) (part_in d k 4 8)) (at + 14) (wide (codes_of d y.name))
        ≡ sets l at (open_frame d k)
    open-puts = rw is open-put

-- ---- a value

-- a copy that fills what it is written to
pub all-copied : (b s : List ℕ) (n : ℕ) → length s ≡ n → b ++ drop n s ≡ b
all-copied b s n e = ap (λ (k : ℕ). b ++ drop k s) (sym e) ∙ ap (λ (r : List ℕ). b ++ r) (drop-length s) ∙ append-nil b

module _ (d : List ℕ) (x : Value) (v : ValueLies d x) where
  abbrev cs : List ℕ
  cs = codes_of d x.name

  parts : List ℕ
  parts = le32 x.kind ++ le32 (2 * length cs) ++ wide cs ++ bytes_of d x.content

  parts-length : length parts ≡ 8 + wide_len x.name + length_of x.content
  unfolding parts
  parts-length =
      let a = length-append (le32 x.kind) (le32 (2 * length cs)) in
      let b = length-append (le32 x.kind ++ le32 (2 * length cs)) (wide cs) in
      let c = length-append (le32 x.kind ++ le32 (2 * length cs) ++ wide cs) (bytes_of d x.content) in
      let e = length-le32 x.kind in
      let f = length-le32 (2 * length cs) in
      let g = name-wide d x.name v.name.inside in
      let i = bytes-length d x.content v.data-lies in
      omega arith

  pub value-length : length (framed_value d x) ≡ value_len x
  unfolding framed_value parts
  value-length = let a = frame-length 17 parts in let b = parts-length in omega arith

  pub value-put : (l : List ℕ) (at m n i : ℕ) → m ≡ 8 + wide_len x.name + length_of x.content → n ≡ wide_len x.name → i ≡ at + 14 + n
      → sets (sets (sets (sets (sets (sets l at (le32 m)) (at + 4) (le16 17)) (at + 6) (le32 x.kind)) (at + 10) (le32 n)) (at + 14) (wide cs)) i
      (bytes_of d x.content)
      ≡ sets l at (framed_value d x)
  unfolding framed_value parts
  value-put l at m n i e f g =
      let two = le32 x.kind ++ le32 (2 * length cs) in
      let three = two ++ wide cs in
      let head = sets (sets l at (le32 m)) (at + 4) (le16 17) in
      let a = length-append (le32 x.kind) (le32 (2 * length cs)) in
      let b = length-append two (wide cs) in
      let c1 = length-le32 x.kind in
      let c2 = length-le32 (2 * length cs) in
      let c3 = name-wide d x.name v.name.inside in
      let y = codes-count d x.name v.name.inside in
      let z : n ≡ 2 * length cs = omega arith in
      let p1 : at + 10 ≡ at + 6 + length (le32 x.kind) = omega arith in
      let p2 : at + 14 ≡ at + 6 + length two = omega arith in
      let p3 : i ≡ at + 6 + length three = omega arith in
      ap (λ (u : ℕ). sets (sets (sets (sets head (at + 6) (le32 x.kind)) (at + 10) (le32 u)) (at + 14) (wide cs)) i (bytes_of d x.content)) z
      ∙ sym (put_then three (bytes_of d x.content) head (at + 6) i p3
      ∙ ap (λ (w : List ℕ). sets w i (bytes_of d x.content))
      (put_then two (wide cs) head (at + 6) (at + 14) p2
      ∙ ap (λ (w : List ℕ). sets w (at + 14) (wide cs)) (put_then (le32 x.kind) (le32 (2 * length cs)) head (at + 6) (at + 10) p1)))
      ∙ put-frame 17 parts l at m (e ∙ sym parts-length)

-- what a value's tests say of it
module _ (d : List ℕ) (minor : ℕ) (v : Offset) (s : value_fault Header d [] v ≡ Ok tt) where
  tested : Kept (data_at d v)
  unfolding value_fault
  tested = kept (data_at d v) (says is_value Header d [] v s)

  data-small : length_of (content_of (data_at d v) minor v) ≤ 1048576
  unfolding content_of
  data-small = by (leb top_bit size) refl (is_segmented minor size) refl
    where
      size : ℕ
      size = u32_at (data_at d v) 4

      by : (t : Bool) → leb top_bit size ≡ t → (g : Bool) → is_segmented minor size ≡ g → length_of (content_of (data_at d v) minor v) ≤ 1048576
      by true e g f = let p = inline-size size tested.size (leb-true top_bit size e) in rw e (omega arith)
      by false e true f = let p = other-size size tested.size (leb-false top_bit size e) in rw (e, f) p
      by false e false f = let p = other-size size tested.size (leb-false top_bit size e) in rw (e, f) p

  pub value-name : NameStands d (value_of d minor v).name
  unfolding value_of fields_of is_value_name
  value-name =
      let n = and-inv (is_whole (u16_at (data_at d v) 2) (value_narrow (data_at d v))) _ tested.name in
      record { inside = name-inside Header d [] minor v s; whole = n.0; few = leb-true _ 16383 n.1 }

  pub value-lies : data_fault Header d [] (data_in d minor v) ≡ Ok tt → ValueLies d (value_of d minor v)
  unfolding value_of fields_of data_in
  value-lies e = record { name = value-name; data-lies = lies Header d [] minor v s Header [] e; small = data-small }

-- for the tactics
pub ruleset wide_ways = (widen-start, widen-turn, widen-end, narrow-count, wide-count, wide-even, stored-wide)

pub ruleset put_ways = (part_lent, put-closing, name-length, name-wide, part_length, all-copied, bytes-length)

pub ruleset open_ways = (named-few, named-stands, open-room, open-puts, key-room)

pub ruleset value_ways = (value-length, value-put, part-whole)
