-- Bytes put one part after the other, the zeros of a cell, and names as they are stored.
use Prim.Native.Nat.{ℕ, zero, suc, ◌+◌, ◌-◌, ◌*◌, ◌/◌, ◌%◌, ◌<◌, ◌≤◌}
use native.Mathlib.Omega.{arith}
use native.Mathlib.Numerals.{add-one}
use mathlib.Core.Path.{◌≡◌, refl, sym, ap, ap₂, ◌∙◌}
use mathlib.Core.Bool.{Bool, true, false}
use mathlib.Core.List.{List, [], ◌∷◌, ◌++◌, append_assoc}
use lib.Dec.{ltb}
use lib.ListN.{length, get_or, take, set, length-append}
use lib.Seq.{sets, take-suc, take_all, length-take-le}
use borrow.Author.Tests.{ltb-true, le-leb, lt-leb}
use Rattle.fields.specs.Number.{le16, le32, le64}
use Rattle.fields.proofs.Bools.{and-inv}
use Rattle.fields.proofs.Little.{length-le16, length-le32, length-le64}
use Rattle.names.specs.Codes.{codes}
use Rattle.names.proofs.LawsCodes.{wide-length}
use Rattle.stream.specs.Stream.{wide}
use Rattle.values.specs.Records.{top_bit}
use Rattle.stream.proofs.Puts.{put_then}
use Rattle.stream.proofs.Laws.{length-wide, stored-wide}
use Rattle.forest.specs.Forest.{Item}
use Rattle.layout.specs.Layout.{cell_size, zeros, is_narrow, stored, cell_bytes, data_field, flag_of, value_record, nothing, key_fixed}
use Rattle.layout.proofs.Sizes.{zeros-length, field-length}
use Rattle.build_cells.specs.declared.KeyFields.{KeyFields}
use Rattle.build_cells.specs.Terms.{pad, IsName, fixed_of}

-- ---- parts, one after the other

-- one byte more of a list that is put byte by byte
pub put_next : (xs l : List ℕ) (at i : ℕ) → i < length xs → set (sets l at (take i xs)) (at + i) (get_or xs i 0) ≡ sets l at (take (i + 1) xs)
put_next xs l at i p =
    let m = length-take-le i xs (omega arith) in
    let y : at + i ≡ at + length (take i xs) = omega arith in
    sym (ap (λ (k : ℕ). sets l at (take k xs)) (add-one i)
    ∙ ap (sets l at) (take-suc xs i 0 p)
    ∙ put_then (take i xs) (get_or xs i 0 ∷ []) l at (at + i) y)

pub put_last : (xs l : List ℕ) (at i : ℕ) → length xs ≤ i → sets l at (take i xs) ≡ sets l at xs
put_last xs l at i p = ap (sets l at) (take_all i xs p)

pub join3 : (a b c l : List ℕ) (i j k : ℕ) → j ≡ i + length a → k ≡ j + length b → sets (sets (sets l i a) j b) k c ≡ sets l i (a ++ (b ++ c))
join3 a b c l i j k p q = sym (put_then a (b ++ c) l i j p ∙ put_then b c (sets l i a) j k q)

-- ---- cells

pub zeros-at : (n i : ℕ) → get_or (zeros n) i 0 ≡ 0
unfolding zeros
zeros-at zero i = refl
zeros-at (suc n) zero = refl
zeros-at (suc n) (suc i) = zeros-at n i

pub zeros-next : (l : List ℕ) (at n i : ℕ) → i < n → set (sets l at (take i (zeros n))) (at + i) 0 ≡ sets l at (take (i + 1) (zeros n))
zeros-next l at n i p =
    let z = zeros-length n in
    ap (set (sets l at (take i (zeros n))) (at + i)) (sym (zeros-at n i)) ∙ put_next (zeros n) l at i (omega arith)

pub zeros-last : (l : List ℕ) (at n i : ℕ) → n ≤ i → sets l at (take i (zeros n)) ≡ sets l at (zeros n)
zeros-last l at n i p = let z = zeros-length n in put_last (zeros n) l at i (omega arith)

pub cell-put : (x l : List ℕ) (at n : ℕ) → n ≡ length x
    → sets (sets (sets l at (le32 (4294967296 - cell_size n))) (at + 4) x) (at + 4 + n) (pad n) ≡ sets l at (cell_bytes x)
unfolding cell_bytes
cell-put x l at n e =
    let s = length-le32 (4294967296 - cell_size (length x)) in
    ap (λ (k : ℕ). sets (sets (sets l at (le32 (4294967296 - cell_size k))) (at + 4) x) (at + 4 + k) (pad k)) e
    ∙ join3 (le32 (4294967296 - cell_size (length x))) x (pad (length x)) l at (at + 4) (at + 4 + length x) (omega arith) refl

-- ---- names

-- a code below 256 is its low byte
pub low-code : (s : List ℕ) (i : ℕ) → is_narrow (codes false s) ≡ true → i < length (codes false s) → get_or s (2 * i) 0 ≡ get_or (codes false s) i 0
unfolding codes is_narrow
low-code [] i e p = absurd (omega arith)
low-code (a ∷ []) i e p = absurd (omega arith)
low-code (a ∷ b ∷ s) zero e p =
    let q = ltb-true (a + b * 256) 256 (and-inv (ltb (a + b * 256) 256) (is_narrow (codes false s)) e).0 in
    let z : b ≡ 0 = omega arith in
    omega arith
low-code (a ∷ b ∷ s) (suc i) e p =
    let q = (and-inv (ltb (a + b * 256) 256) (is_narrow (codes false s)) e).1 in
    let two : 2 * suc i ≡ suc (suc (2 * i)) = omega arith in
    ap (λ (k : ℕ). get_or (a ∷ b ∷ s) k 0) two ∙ low-code s i q (omega arith)

pub low-next : (s l : List ℕ) (at i : ℕ) → is_narrow (codes false s) ≡ true → i < length (codes false s)
    → set (sets l at (take i (codes false s))) (at + i) (get_or s (2 * i) 0) ≡ sets l at (take (i + 1) (codes false s))
low-next s l at i e p = ap (set (sets l at (take i (codes false s))) (at + i)) (low-code s i e p) ∙ put_next (codes false s) l at i p

module _ (s : List ℕ) (narrow : Bool) (n : IsName s narrow) where
  pub told-narrow : narrow ≡ true → is_narrow (codes false s) ≡ true
  told-narrow e = sym n.told ∙ e

  pub stored_low : narrow ≡ true → stored (codes false s) ≡ codes false s
  unfolding stored
  stored_low e = rw (told-narrow e)

  pub stored-whole : narrow ≡ false → stored (codes false s) ≡ wide (codes false s)
  unfolding stored
  stored-whole e = let t : is_narrow (codes false s) ≡ false = sym n.told ∙ e in rw t

  pub stored_same : narrow ≡ false → ((i : ℕ) → get_or s i 0 < 256) → stored (codes false s) ≡ s
  stored_same e f = stored-whole e ∙ stored-wide s f n.whole

  pub stored-few : length (stored (codes false s)) ≤ length s
  stored-few = by narrow refl
    where
      by : (t : Bool) → narrow ≡ t → length (stored (codes false s)) ≤ length s
      by true e = let a = ap length (stored_low e) in let b = wide-length s in omega arith
      by false e =
          let a = ap length (stored-whole e) ∙ length-wide (codes false s) in
          let b = wide-length s in
          omega arith

  pub low-length : narrow ≡ true → length (stored (codes false s)) ≡ length s / 2
  low-length e = ap length (stored_low e) ∙ wide-length s

  pub whole_length : narrow ≡ false → length (stored (codes false s)) ≡ length s
  whole_length e =
      let a = ap length (stored-whole e) ∙ length-wide (codes false s) in
      let b = wide-length s in
      let w = n.whole in
      omega arith

-- ---- numbers in a row

pub join2 : (a b l : List ℕ) (i j : ℕ) → j ≡ i + length a → sets (sets l i a) j b ≡ sets l i (a ++ b)
join2 a b l i j p = sym (put_then a b l i j p)

pub join4 : (a b c d l : List ℕ) (i j k m : ℕ) → j ≡ i + length a → k ≡ j + length b → m ≡ k + length c
    → sets (sets (sets (sets l i a) j b) k c) m d ≡ sets l i (a ++ (b ++ (c ++ d)))
join4 a b c d l i j k m p q r = join3 b c d (sets l i a) j k m q r ∙ join2 a (b ++ (c ++ d)) l i j p

pub length_two : (a b : ℕ) → length (le32 a ++ le32 b) ≡ 8
length_two a b = let e = length-append (le32 a) (le32 b) in let f = length-le32 a in let g = length-le32 b in omega arith

pub two-put : (l : List ℕ) (at a b : ℕ) → sets (sets l at (le32 a)) (at + 4) (le32 b) ≡ sets l at (le32 a ++ le32 b)
two-put l at a b = let e = length-le32 a in join2 (le32 a) (le32 b) l at (at + 4) (omega arith)

pub four-put : (l : List ℕ) (at a b c d : ℕ)
    → sets (sets l at (le32 a ++ le32 b)) (at + 8) (le32 c ++ le32 d) ≡ sets l at (le32 a ++ (le32 b ++ (le32 c ++ le32 d)))
four-put l at a b c d =
    let e = length_two a b in
    join2 (le32 a ++ le32 b) (le32 c ++ le32 d) l at (at + 8) (omega arith) ∙ ap (sets l at) (append_assoc (le32 a) (le32 b) (le32 c ++ le32 d))

pub eight-put : (l : List ℕ) (at v : ℕ) → sets l at (le32 (v % 0x1_0000_0000) ++ le32 (v / 0x1_0000_0000)) ≡ sets l at (le64 v)
unfolding le64
eight-put l at v = refl

-- a number of 16 bits, and 0 behind it
pub short-put : (n : ℕ) → n < 65536 → le32 n ≡ le16 n ++ le16 0
unfolding le32
short-put n p =
    let a : n % 65536 ≡ n = omega arith in
    let b : n / 65536 ≡ 0 = omega arith in
    ap₂ (λ (x y : ℕ). le16 x ++ le16 y) a b

-- ---- records

pub join6 : (a b c d e f l : List ℕ) (i j k m n o : ℕ) → j ≡ i + length a → k ≡ j + length b → m ≡ k + length c → n ≡ m + length d → o ≡ n + length e
    → sets (sets (sets (sets (sets (sets l i a) j b) k c) m d) n e) o f ≡ sets l i (a ++ (b ++ (c ++ (d ++ (e ++ f)))))
join6 a b c d e f l i j k m n o p q r s t =
    join4 c d e f (sets (sets l i a) j b) k m n o r s t ∙ join3 a b (c ++ (d ++ (e ++ f))) l i j k p q

pub flag_small : (told : Bool) (n : ℕ) → flag_of told n ≤ n
unfolding flag_of
flag_small true n = omega arith
flag_small false n = omega arith

value-mark : (x : List ℕ) → le16 27510 ++ x ≡ 118 ∷ 107 ∷ x
unfolding le16
value-mark x = refl

key-mark : (x : List ℕ) → le16 27502 ++ x ≡ 110 ∷ 107 ∷ x
unfolding le16
key-mark x = refl

-- the fields of a value's data
module _ (x : List ℕ) (next : ℕ) where
  field-inline : length x ≤ 4 → data_field x next ≡ le32 (top_bit + length x) ++ (x ++ zeros (4 - length x))
  unfolding data_field
  field-inline p = let e = le-leb (length x) 4 p in rw e

  field-far : 4 < length x → data_field x next ≡ le32 (length x) ++ le32 next
  unfolding data_field
  field-far p = let e = lt-leb (length x) 4 p in rw e

  pub inline-put : (l : List ℕ) (at : ℕ) → length x ≤ 4
      → sets (sets (sets l at (le32 (2147483648 + length x))) (at + 4) x) (at + 4 + length x) (zeros (4 - length x)) ≡ sets l at (data_field x next)
  inline-put l at p =
      let e = length-le32 (2147483648 + length x) in
      join3 (le32 (2147483648 + length x)) x (zeros (4 - length x)) l at (at + 4) (at + 4 + length x) (omega arith) refl
      ∙ ap (sets l at) (sym (field-inline p))

  pub far-put : (l : List ℕ) (at : ℕ) → 4 < length x → sets l at (le32 (length x) ++ le32 next) ≡ sets l at (data_field x next)
  far-put l at p = ap (sets l at) (sym (field-far p))

-- data that stand in the field name no cell
pub field-alone : (x : List ℕ) (next : ℕ) → length x ≤ 4 → data_field x 0 ≡ data_field x next
field-alone x next p = field-inline x 0 p ∙ sym (field-inline x next p)

module _ (v : Item) (offset : ℕ) where
  pub record-put : (l : List ℕ) (at len next flag : ℕ) → len ≡ length (stored v.name) → next ≡ offset + cell_size (20 + len) → flag ≡ flag_of (is_narrow v.name) 1
      → sets (sets (sets (sets (sets (sets l at (le16 27510)) (at + 2) (le16 len)) (at + 4) (data_field v.bytes next)) (at + 12) (le32 v.kind)) (at + 16)
      (le32 flag)) (at + 20) (stored v.name)
      ≡ sets l at (value_record v offset)
  unfolding value_record
  record-put l at len next flag p q r =
      let x = stored v.name in
      let s = flag_small (is_narrow v.name) 1 in
      let e : next ≡ offset + cell_size (20 + length x) = rw p at q in
      let a = length-le16 27510 in
      let b = length-le16 len in
      let c = field-length v.bytes next in
      let d = length-le32 v.kind in
      let f = length-le32 flag in
      let h = short-put flag (omega arith) ∙ ap (λ (k : ℕ). le16 k ++ le16 0) r in
      join6 (le16 27510) (le16 len) (data_field v.bytes next) (le32 v.kind) (le32 flag) x l at (at + 2) (at + 4) (at + 12) (at + 16) (at + 20) (omega arith)
      (omega arith) (omega arith) (omega arith) (omega arith)
      ∙ ap (sets l at) (value-mark (le16 len ++ (data_field v.bytes next ++ (le32 v.kind ++ (le32 flag ++ x))))
      ∙ ap₂ (λ (k m : ℕ). 118 ∷ 107 ∷ (le16 k ++ (data_field v.bytes m ++ (le32 v.kind ++ (le32 flag ++ x))))) p e
      ∙ ap (λ (y : List ℕ). 118 ∷ 107 ∷ (le16 (length x) ++ (data_field v.bytes (offset + cell_size (20 + length x)) ++ (le32 v.kind ++ y))))
      (ap (λ (y : List ℕ). y ++ x) h ∙ append_assoc (le16 (flag_of (is_narrow v.name) 1)) (le16 0) x))

-- a key's fields
abbrev four : ℕ → ℕ → ℕ → ℕ → List ℕ
four a b c d = le32 a ++ (le32 b ++ (le32 c ++ le32 d))

pub length-four : (a b c d : ℕ) → length (le32 a ++ (le32 b ++ (le32 c ++ le32 d))) ≡ 16
unfolding le32 le16
length-four a b c d = refl

module _ (flags stamp parent subkeys leaf values list S keys names longest len : ℕ) where
  pub length-fixed : length (key_fixed flags stamp parent subkeys leaf values list S keys names longest len) ≡ 76
  unfolding key_fixed le64 le32 le16
  length-fixed = refl

  fixed-bytes : len < 65536
      → le16 27502 ++ (le16 flags ++ (le64 stamp ++ (four 0 parent subkeys 0 ++ (four leaf nothing values list ++ (four S nothing keys 0
      ++ four names longest 0 len)))))
      ≡ key_fixed flags stamp parent subkeys leaf values list S keys names longest len
  unfolding key_fixed
  fixed-bytes p = key-mark _ ∙ ap (λ (r : List ℕ). 110 ∷ 107 ∷ (le16 flags ++ (le64 stamp ++ r))) (rw (short-put len p) (simp append_assoc))

  pub fixed-put : (l : List ℕ) (at : ℕ) → len < 65536
      → sets (sets (sets (sets (sets (sets (sets l at (le16 27502)) (at + 2) (le16 flags)) (at + 4) (le64 stamp)) (at + 12)
      (le32 0 ++ (le32 parent ++ (le32 subkeys ++ le32 0)))) (at + 28) (le32 leaf ++ (le32 4294967295 ++ (le32 values ++ le32 list)))) (at + 44)
      (le32 S ++ (le32 4294967295 ++ (le32 keys ++ le32 0)))) (at + 60) (le32 names ++ (le32 longest ++ (le32 0 ++ le32 len)))
      ≡ sets l at (key_fixed flags stamp parent subkeys leaf values list S keys names longest len)
  fixed-put l at p =
      let a = length-le16 27502 in
      let b = length-le16 flags in
      let c = length-le64 stamp in
      let d = length-four 0 parent subkeys 0 in
      let e = length-four leaf nothing values list in
      let f = length-four S nothing keys 0 in
      join6 (le16 flags) (le64 stamp) (four 0 parent subkeys 0) (four leaf nothing values list) (four S nothing keys 0) (four names longest 0 len)
      (sets l at (le16 27502)) (at + 2) (at + 4) (at + 12) (at + 28) (at + 44) (at + 60) (omega arith) (omega arith) (omega arith) (omega arith) (omega arith)
      ∙ join2 (le16 27502) _ l at (at + 2) (omega arith)
      ∙ ap (sets l at) (fixed-bytes p)

pub key-put : (k : KeyFields) (x l : List ℕ) (at len : ℕ) → len ≡ length x
    → sets (sets (sets (sets l at (le32 (4294967296 - cell_size (76 + len)))) (at + 4) (fixed_of k len)) (at + 80) x) (at + 4 + (76 + len)) (pad (76 + len))
    ≡ sets l at (cell_bytes (fixed_of k (length x) ++ x))
key-put k x l at len e =
    let f = length-fixed k.flags k.stamp k.parent k.subkeys k.leaf k.values k.list k.item k.longest_key k.longest_name
    k.longest_data (length x) in
    let a = length-append (fixed_of k (length x)) x in
    let m : 76 + length x ≡ length (fixed_of k (length x) ++ x) = omega arith in
    ap (λ (n : ℕ). sets (sets (sets (sets l at (le32 (4294967296 - cell_size (76 + n)))) (at + 4) (fixed_of k n)) (at + 80) x) (at + 4 + (76 + n)) (pad (76 + n))) e
    ∙ ap (λ (y : List ℕ). sets y (at + 4 + (76 + length x)) (pad (76 + length x)))
    (join2 (fixed_of k (length x)) x (sets l at (le32 (4294967296 - cell_size (76 + length x)))) (at + 4) (at + 80) (omega arith))
    ∙ cell-put (fixed_of k (length x) ++ x) l at (76 + length x) m
