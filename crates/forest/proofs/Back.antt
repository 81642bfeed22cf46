-- The other way: bytes that are read as a frame are that frame, written.
use Prim.Native.Nat.{ℕ, ◌-◌, ◌*◌, ◌%◌, ◌^◌, ◌≤◌, ◌<◌}
use native.Mathlib.Omega.{arith}
use mathlib.Core.Path.{◌≡◌, refl, sym, ap, ap₂, subst, ◌∙◌}
use mathlib.Core.Bool.{Bool, true, false, cond, ◌&&◌}
use mathlib.Core.List.{List, [], ◌∷◌, ◌++◌, append_assoc}
use lib.Dec.{eqb, leb}
use lib.ListN.{length, take, drop, length-take, length-drop, take-append-drop}
use lib.Seq.{take-add}
use borrow.Author.Tests.{leb-true, eqb-true}
use Rattle.fields.specs.Number.{u16_at, u32_at, u64_at, le32, le64}
use Rattle.fields.proofs.Bools.{and-inv}
use Rattle.fields.proofs.Little.{le-u32}
use Rattle.fields.proofs.Long.{u64-below, le-u64}
use Rattle.fields.proofs.Numbers.{u32-below}
use Rattle.names.specs.Codes.{codes}
use Rattle.names.proofs.LawsCodes.{wide-length}
use Rattle.stream.specs.Stream.{frame, wide, close_frame}
use Rattle.forest.specs.Forest.{Item, key_frame, item_frame}
use Rattle.forest.specs.Allowed.{AllBelow}
use Rattle.forest.specs.Faults.{Shape, unlaid, opens, holds, closes, frame_len, payload, is_there, is_even, open_shape, item_shape, close_shape, kind_shape, shape_of}
use Rattle.forest.proofs.Bytes.{below_at, below-take, below-drop}
use Rattle.forest.proofs.Wide.{wide-codes, codes-below}
use Rattle.forest.proofs.Frames.{There, there}
use Rattle.forest.proofs.Shapes.{KeyFits, ItemFits}

-- ---- which payload a shape is of

-- a shape that is said under a condition
given : (t : Bool) (a : Shape) {f : Shape} → (f ≡ unlaid → ⊥) → cond t a unlaid ≡ f → (t ≡ true) × (a ≡ f)
given true a n e = (refl, e)
given false a n e = absurd (n (sym e))

opens-laid : {s : ℕ} {x : List ℕ} → opens s x ≡ unlaid → ⊥
opens-laid e = let z : ◌≡◌ {A = ℕ} 0 1 = cc in omega arith

holds-laid : {v : Item} → holds v ≡ unlaid → ⊥
holds-laid e = let z : ◌≡◌ {A = ℕ} 0 1 = cc in omega arith

closes-laid : closes ≡ unlaid → ⊥
closes-laid e = let z : ◌≡◌ {A = ℕ} 0 1 = cc in omega arith

pub there-shape : (r : List ℕ) {f : Shape} → (f ≡ unlaid → ⊥) → shape_of r ≡ f → (is_there r ≡ true) × (kind_shape (u16_at r 4) (payload r) ≡ f)
unfolding shape_of
there-shape r n e = given (is_there r) (kind_shape (u16_at r 4) (payload r)) n e

-- ---- a payload that opens a key

record OpenFacts (p : List ℕ) (s : ℕ) (x : List ℕ) : Type 0 where
  long : 8 ≤ length p
  even : length p % 2 ≡ 0
  stamp : u64_at p 0 ≡ s
  name : codes false (drop 8 p) ≡ x

open-facts : (p : List ℕ) {s : ℕ} {x : List ℕ} → open_shape p ≡ opens s x → OpenFacts p s x
unfolding open_shape
open-facts p {s} {x} e =
    let g = given (leb 8 (length p) && is_even (length p)) (opens (u64_at p 0) (codes false (drop 8 p))) opens-laid e in
    let t = and-inv (leb 8 (length p)) (is_even (length p)) g.0 in
    let q = g.1 in
    record { long = leb-true 8 (length p) t.0; even = eqb-true (length p % 2) 0 t.1; stamp = (cc); name = (cc) }

record ItemFacts (p : List ℕ) (v : Item) : Type 0 where
  long : 8 ≤ length p
  even : u32_at p 4 % 2 ≡ 0
  inside : u32_at p 4 ≤ length p - 8
  item : ◌≡◌ {A = Item} (record { kind = u32_at p 0; name = codes false (take (u32_at p 4) (drop 8 p)); bytes = drop (u32_at p 4) (drop 8 p) }) v

item-facts : (p : List ℕ) {v : Item} → item_shape p ≡ holds v → ItemFacts p v
unfolding item_shape
item-facts p {v} e =
    let n = u32_at p 4 in
    let w : Item = record { kind = u32_at p 0; name = codes false (take n (drop 8 p)); bytes = drop n (drop 8 p) } in
    let g = given (leb 8 (length p) && (is_even n && leb n (length p - 8))) (holds w) holds-laid e in
    let t = and-inv (leb 8 (length p)) (is_even n && leb n (length p - 8)) g.0 in
    let u = and-inv (is_even n) (leb n (length p - 8)) t.1 in
    let q = g.1 in
    record { long = leb-true 8 (length p) t.0; even = eqb-true (n % 2) 0 u.0; inside = leb-true n (length p - 8) u.1; item = (cc) }

close_facts : (p : List ℕ) → close_shape p ≡ closes → length p ≡ 0
unfolding close_shape
close_facts p e = eqb-true (length p) 0 (given (eqb (length p) 0) closes closes-laid e).0

-- ---- by the kind

not_opened : (p : List ℕ) {f : Shape} → (f ≡ unlaid → ⊥) → ((s : ℕ) (x : List ℕ) → f ≡ opens s x → ⊥) → open_shape p ≡ f → ⊥
unfolding open_shape
not_opened p n m e =
    let g = given (leb 8 (length p) && is_even (length p)) (opens (u64_at p 0) (codes false (drop 8 p))) n e in
    m (u64_at p 0) (codes false (drop 8 p)) (sym g.1)

not-held : (p : List ℕ) {f : Shape} → (f ≡ unlaid → ⊥) → ((v : Item) → f ≡ holds v → ⊥) → item_shape p ≡ f → ⊥
unfolding item_shape
not-held p n m e =
    let k = u32_at p 4 in
    let w : Item = record { kind = u32_at p 0; name = codes false (take k (drop 8 p)); bytes = drop k (drop 8 p) } in
    let g = given (leb 8 (length p) && (is_even k && leb k (length p - 8))) (holds w) n e in
    m w (sym g.1)

not-closed : (p : List ℕ) {f : Shape} → (f ≡ unlaid → ⊥) → (f ≡ closes → ⊥) → close_shape p ≡ f → ⊥
unfolding close_shape
not-closed p n m e = m (sym (given (eqb (length p) 0) closes n e).1)

-- what a shape of one of three kinds comes from
data FromKind (k : ℕ) (p : List ℕ) (f : Shape) : Type 0 where
  sixteen : k ≡ 16 → open_shape p ≡ f → FromKind k p f
  seventeen : k ≡ 17 → item_shape p ≡ f → FromKind k p f
  eighteen : k ≡ 18 → close_shape p ≡ f → FromKind k p f

from-kind : (k : ℕ) (p : List ℕ) {f : Shape} → (f ≡ unlaid → ⊥) → kind_shape k p ≡ f → FromKind k p f
unfolding kind_shape
from-kind k p {f} n e = by (eqb k 16) refl (eqb k 17) refl (eqb k 18) refl e
  where
    by : (a : Bool) → eqb k 16 ≡ a → (b : Bool) → eqb k 17 ≡ b → (c : Bool) → eqb k 18 ≡ c
        → cond a (open_shape p) (cond b (item_shape p) (cond c (close_shape p) unlaid)) ≡ f → FromKind k p f
    by true x b y c z e = sixteen (eqb-true k 16 x) e
    by false x true y c z e = seventeen (eqb-true k 17 y) e
    by false x false y true z e = eighteen (eqb-true k 18 z) e
    by false x false y false z e = absurd (n (sym e))

-- ---- the frames

module _ (r : List ℕ) (bytes : AllBelow 256 r) where
  inner : AllBelow 256 (payload r)
  inner = below-take 256 (u32_at r 0) (drop 6 r) (below-drop 256 6 r bytes)

  framed : (kind : ℕ) (p : List ℕ) → There r → u16_at r 4 ≡ kind → payload r ≡ p → r ≡ frame kind p ++ drop (frame_len r) r
  framed kind p h k e = h.whole ∙ ap₂ (λ (n : ℕ) (q : List ℕ). frame n q ++ drop (frame_len r) r) k e

  -- "Kind 16 opens a key"
  module _ (s : ℕ) (x : List ℕ) (e : shape_of r ≡ opens s x) where
    key-there : There r
    key-there = there r (there-shape r opens-laid e).0 bytes

    key-is : (u16_at r 4 ≡ 16) × OpenFacts (payload r) s x
    key-is = by (from-kind (u16_at r 4) (payload r) opens-laid (there-shape r opens-laid e).1)
      where
        by : FromKind (u16_at r 4) (payload r) (opens s x) → (u16_at r 4 ≡ 16) × OpenFacts (payload r) s x
        by (sixteen k f) = (k, open-facts (payload r) f)
        by (seventeen k f) = absurd (not-held (payload r) opens-laid (λ v g. let z : ◌≡◌ {A = ℕ} 0 1 = cc in omega arith) f)
        by (eighteen k f) = absurd (not-closed (payload r) opens-laid (λ g. let z : ◌≡◌ {A = ℕ} 0 1 = cc in omega arith) f)

    name-bytes : AllBelow 256 (drop 8 (payload r))
    name-bytes = below-drop 256 8 (payload r) inner

    pub key_back : r ≡ key_frame s x ++ drop (frame_len r) r
    unfolding key_frame
    key_back =
        let h = key-there in
        let f = key-is.1 in
        let p = payload r in
        let m = length-drop 8 p in
        let long = f.long in
        let even = f.even in
        let a = le-u64 p (below_at 256 (omega arith) p inner) 0 (omega arith) in
        let b = wide-codes (drop 8 p) name-bytes (omega arith) in
        let c : p ≡ le64 s ++ wide x = sym (ap₂ (λ (n : ℕ) (y : List ℕ). le64 n ++ wide y) (sym f.stamp) (sym f.name) ∙ ap₂ (λ (u w : List ℕ). u ++ w) a b ∙ take-append-drop 8 p) in
        framed 16 (le64 s ++ wide x) h key-is.0 c

    pub key-back-fits : KeyFits s x
    key-back-fits =
        let h = key-there in
        let f = key-is.1 in
        let p = payload r in
        let m = length-drop 8 p in
        let l = ap length f.name in
        let w = wide-length (drop 8 p) in
        let long = f.long in
        let short = h.short in
        record {
          stamp = subst (λ (n : ℕ). n < 2 ^ 64) f.stamp (u64-below p (below_at 256 (omega arith) p inner) 0);
          codes-fit = subst (AllBelow 65536) f.name (codes-below (drop 8 p) name-bytes);
          few = omega arith;
        }

  -- "17 is a value"
  module _ (v : Item) (e : shape_of r ≡ holds v) where
    item-there : There r
    item-there = there r (there-shape r holds-laid e).0 bytes

    item-is : (u16_at r 4 ≡ 17) × ItemFacts (payload r) v
    item-is = by (from-kind (u16_at r 4) (payload r) holds-laid (there-shape r holds-laid e).1)
      where
        by : FromKind (u16_at r 4) (payload r) (holds v) → (u16_at r 4 ≡ 17) × ItemFacts (payload r) v
        by (sixteen k f) = absurd (not_opened (payload r) holds-laid (λ s x g. let z : ◌≡◌ {A = ℕ} 0 1 = cc in omega arith) f)
        by (seventeen k f) = (k, item-facts (payload r) f)
        by (eighteen k f) = absurd (not-closed (payload r) holds-laid (λ g. let z : ◌≡◌ {A = ℕ} 0 1 = cc in omega arith) f)

    abbrev named : List ℕ
    named = take (u32_at (payload r) 4) (drop 8 (payload r))

    named-bytes : AllBelow 256 named
    named-bytes = below-take 256 (u32_at (payload r) 4) (drop 8 (payload r)) (below-drop 256 8 (payload r) inner)

    named-length : length named ≡ u32_at (payload r) 4
    named-length =
        let i = item-is.1.inside in
        let l = item-is.1.long in
        let a = length-take (u32_at (payload r) 4) (drop 8 (payload r)) in
        let b = length-drop 8 (payload r) in
        omega arith

    count : 2 * length (codes false named) ≡ u32_at (payload r) 4
    count = let a = wide-length named in let b = named-length in let c = item-is.1.even in omega arith

    abbrev framed_item : Item → List ℕ
    framed_item w = le32 w.kind ++ (le32 (2 * length w.name) ++ (wide w.name ++ w.bytes))

    pub item_back : r ≡ item_frame v ++ drop (frame_len r) r
    unfolding item_frame
    item_back =
        let p = payload r in
        let n = u32_at p 4 in
        let f = item-is.1 in
        let l = f.long in
        let i = f.inside in
        let b = below_at 256 (omega arith) p inner in
        let q = named-length in
        let v4 = f.even in
        let a = le-u32 p b 0 (omega arith) in
        let c = ap le32 count ∙ le-u32 p b 4 (omega arith) in
        let d = wide-codes named named-bytes (ap (λ (k : ℕ). k % 2) q ∙ v4) in
        let heads : take 4 p ++ take 4 (drop 4 p) ≡ take 8 p = sym (take-add 4 4 p) in
        let rest : wide (codes false named) ++ drop n (drop 8 p) ≡ drop 8 p = ap (λ (y : List ℕ). y ++ drop n (drop 8 p)) d ∙ take-append-drop n (drop 8 p) in
        let all : le32 (u32_at p 0) ++ (le32 (2 * length (codes false named)) ++ (wide (codes false named) ++ drop n (drop 8 p))) ≡ p =
        ap₂ (λ (u w : List ℕ). u ++ w) a (ap₂ (λ (u w : List ℕ). u ++ w) c rest)
        ∙ sym (append_assoc (take 4 p) (take 4 (drop 4 p)) (drop 8 p)) ∙ ap (λ (u : List ℕ). u ++ drop 8 p) heads ∙ take-append-drop 8 p in
        framed 17 (framed_item v) item-there item-is.0 (sym all ∙ ap framed_item f.item)

    pub item-back-fits : ItemFits v
    item-back-fits =
        let p = payload r in
        let n = u32_at p 4 in
        let f = item-is.1 in
        let l = f.long in
        let i = f.inside in
        let h = item-there.short in
        let c = count in
        let m = length-drop 8 p in
        let k = length-drop n (drop 8 p) in
        let w : Item = record { kind = u32_at p 0; name = codes false named; bytes = drop n (drop 8 p) } in
        let fits : ItemFits w = record {
          kind = u32-below p (below_at 256 (omega arith) p inner) 0;
          codes-fit = codes-below named named-bytes;
          few = omega arith;
        } in
        subst ItemFits f.item fits

    pub item-back-bytes : AllBelow 256 v.bytes
    item-back-bytes =
        let p = payload r in
        let n = u32_at p 4 in
        subst (λ (w : Item). AllBelow 256 w.bytes) item-is.1.item (below-drop 256 n (drop 8 p) (below-drop 256 8 p inner))

  -- "18, empty, closes a key"
  module _ (e : shape_of r ≡ closes) where
    close-there : There r
    close-there = there r (there-shape r closes-laid e).0 bytes

    close-is : (u16_at r 4 ≡ 18) × (length (payload r) ≡ 0)
    close-is = by (from-kind (u16_at r 4) (payload r) closes-laid (there-shape r closes-laid e).1)
      where
        by : FromKind (u16_at r 4) (payload r) closes → (u16_at r 4 ≡ 18) × (length (payload r) ≡ 0)
        by (sixteen k f) = absurd (not_opened (payload r) closes-laid (λ s x g. let z : ◌≡◌ {A = ℕ} 0 1 = cc in omega arith) f)
        by (seventeen k f) = absurd (not-held (payload r) closes-laid (λ v g. let z : ◌≡◌ {A = ℕ} 0 1 = cc in omega arith) f)
        by (eighteen k f) = (k, close_facts (payload r) f)

    empty : (p : List ℕ) → length p ≡ 0 → p ≡ []
    empty [] z = refl
    empty (y ∷ p) z = absurd (omega arith)

    pub close-back : r ≡ close_frame ++ drop (frame_len r) r
    unfolding close_frame
    close-back = framed 18 [] close-there close-is.0 (empty (payload r) close-is.1)
