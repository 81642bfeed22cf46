-- The frames of a forest as they are read: each written frame says what it was made of.
use Prim.Native.Nat.{ℕ, ◌+◌, ◌-◌, ◌*◌, ◌%◌, ◌^◌, ◌<◌}
use native.Mathlib.Omega.{arith}
use mathlib.Core.Path.{◌≡◌, sym, ap, ap₂, ◌∙◌}
use mathlib.Core.Bool.{false}
use mathlib.Core.List.{List, [], ◌++◌, append_assoc}
use lib.ListN.{length, take, drop, length-append}
use lib.Seq.{drop_at, take_at}
use borrow.Author.Tests.{le-leb, eq-eqb}
use Rattle.fields.specs.Number.{u32_at, le32, le64}
use Rattle.fields.proofs.Bools.{and_both}
use Rattle.fields.proofs.Little.{length-le32, length-le64, u32-le}
use Rattle.fields.proofs.Long.{u64-le}
use Rattle.names.specs.Codes.{codes}
use Rattle.stream.specs.Stream.{wide, close_frame}
use Rattle.stream.proofs.Laws.{length-wide}
use Rattle.stream.proofs.Puts.{frame-length}
use Rattle.forest.specs.Forest.{Item, key_frame, item_frame}
use Rattle.forest.specs.Allowed.{AllBelow, KeyName, ItemAllowed}
use Rattle.forest.specs.Faults.{opens, holds, closes, frame_len, open_shape, item_shape, close_shape, kind_shape, shape_of}
use Rattle.forest.proofs.Wide.{codes-wide}
use Rattle.forest.proofs.Frames.{frame-len, frame-left, frame-shape}

-- ---- a key

-- what the frame of a key can say
pub record KeyFits (s : ℕ) (x : List ℕ) : Type 0 where
  pub stamp : s < 2 ^ 64
  pub codes-fit : AllBelow 65536 x
  pub few : 8 + 2 * length x < 2 ^ 32

module _ (s : ℕ) (x : List ℕ) where
  key-payload : length (le64 s ++ wide x) ≡ 8 + 2 * length x
  key-payload = let a = length-append (le64 s) (wide x) in let b = length-le64 s in let c = length-wide x in omega arith

  pub key-length : length (key_frame s x) ≡ 14 + 2 * length x
  unfolding key_frame
  key-length = let a = frame-length 16 (le64 s ++ wide x) in let b = key-payload in omega arith

  module _ (f : KeyFits s x) where
    opens-it : open_shape (le64 s ++ wide x) ≡ opens s x
    unfolding open_shape
    opens-it =
        let n = key-payload in
        let t = and_both (le-leb 8 (length (le64 s ++ wide x)) (omega arith)) (eq-eqb (length (le64 s ++ wide x) % 2) 0 (omega arith)) in
        let a = u64-le [] s f.stamp (wide x) in
        let b = ap (codes false) (drop_at (le64 s) (wide x) 8 (length-le64 s)) ∙ codes-wide x f.codes-fit in
        rw t (ap₂ opens a b)

    module _ (t : List ℕ) where
      short : length (le64 s ++ wide x) < 2 ^ 32
      short = let a = key-payload in let b = f.few in omega arith

      pub key-shape : shape_of (key_frame s x ++ t) ≡ opens s x
      unfolding key_frame kind_shape
      key-shape = frame-shape 16 (le64 s ++ wide x) t (omega arith) short ∙ opens-it

      pub key-len : frame_len (key_frame s x ++ t) ≡ length (key_frame s x)
      unfolding key_frame
      key-len = frame-len 16 (le64 s ++ wide x) t (omega arith) short

      pub key_left : drop (frame_len (key_frame s x ++ t)) (key_frame s x ++ t) ≡ t
      unfolding key_frame
      key_left = frame-left 16 (le64 s ++ wide x) t (omega arith) short

-- ---- a value

pub record ItemFits (v : Item) : Type 0 where
  pub kind : v.kind < 2 ^ 32
  pub codes-fit : AllBelow 65536 v.name
  pub few : 8 + 2 * length v.name + length v.bytes < 2 ^ 32

module _ (v : Item) where
  abbrev said : List ℕ
  said = le32 v.kind ++ (le32 (2 * length v.name) ++ (wide v.name ++ v.bytes))

  two-heads : length (le32 v.kind ++ le32 (2 * length v.name)) ≡ 8
  two-heads =
      let a = length-append (le32 v.kind) (le32 (2 * length v.name)) in
      let b = length-le32 v.kind in
      let c = length-le32 (2 * length v.name) in
      omega arith

  regrouped : said ≡ (le32 v.kind ++ le32 (2 * length v.name)) ++ (wide v.name ++ v.bytes)
  regrouped = sym (append_assoc (le32 v.kind) (le32 (2 * length v.name)) (wide v.name ++ v.bytes))

  item-payload : length said ≡ 8 + 2 * length v.name + length v.bytes
  item-payload =
      let a = ap length regrouped in
      let b = length-append (le32 v.kind ++ le32 (2 * length v.name)) (wide v.name ++ v.bytes) in
      let c = two-heads in
      let d = length-append (wide v.name) v.bytes in
      let e = length-wide v.name in
      omega arith

  pub item-length : length (item_frame v) ≡ 14 + 2 * length v.name + length v.bytes
  unfolding item_frame
  item-length = let a = frame-length 17 said in let b = item-payload in omega arith

  module _ (f : ItemFits v) where
    name-len : u32_at said 4 ≡ 2 * length v.name
    name-len =
        let k = f.few in
        ap (u32_at said) (sym (length-le32 v.kind)) ∙ u32-le (le32 v.kind) (2 * length v.name) (omega arith) (wide v.name ++ v.bytes)

    rest : drop 8 said ≡ wide v.name ++ v.bytes
    rest = ap (drop 8) regrouped ∙ drop_at (le32 v.kind ++ le32 (2 * length v.name)) (wide v.name ++ v.bytes) 8 two-heads

    abbrev item : ℕ → List ℕ → List ℕ → Item
    item k x d = record { kind = k; name = x; bytes = d }

    holds-it : item_shape said ≡ holds v
    unfolding item_shape
    holds-it =
        let n = item-payload in
        let m = name-len in
        let l = length-wide v.name in
        let even : u32_at said 4 % 2 ≡ 0 = omega arith in
        let t = and_both (le-leb 8 (length said) (omega arith)) (and_both (eq-eqb (u32_at said 4 % 2) 0 even) (le-leb (u32_at said 4) (length said - 8) (omega arith))) in
        let a = u32-le [] v.kind f.kind (le32 (2 * length v.name) ++ (wide v.name ++ v.bytes)) in
        let b = ap₂ (λ (k : ℕ) (r : List ℕ). codes false (take k r)) m rest
        ∙ ap (codes false) (take_at (wide v.name) v.bytes (2 * length v.name) l) ∙ codes-wide v.name f.codes-fit in
        let c = ap₂ (λ (k : ℕ) (r : List ℕ). drop k r) m rest ∙ drop_at (wide v.name) v.bytes (2 * length v.name) l in
        rw t (ap (λ (k : ℕ). holds (item k (codes false (take (u32_at said 4) (drop 8 said))) (drop (u32_at said 4) (drop 8 said)))) a
        ∙ ap₂ (λ (x d : List ℕ). holds (item v.kind x d)) b c)

    module _ (t : List ℕ) where
      fitted : length said < 2 ^ 32
      fitted = let a = item-payload in let b = f.few in omega arith

      pub item-shape : shape_of (item_frame v ++ t) ≡ holds v
      unfolding item_frame kind_shape
      item-shape = frame-shape 17 said t (omega arith) fitted ∙ holds-it

      pub item-len : frame_len (item_frame v ++ t) ≡ length (item_frame v)
      unfolding item_frame
      item-len = frame-len 17 said t (omega arith) fitted

      pub item-left : drop (frame_len (item_frame v ++ t)) (item_frame v ++ t) ≡ t
      unfolding item_frame
      item-left = frame-left 17 said t (omega arith) fitted

-- ---- a closing

module _ (t : List ℕ) where
  pub close-shape : shape_of (close_frame ++ t) ≡ closes
  unfolding close_frame kind_shape close_shape
  close-shape = frame-shape 18 [] t (omega arith) (omega arith)

  pub close-len : frame_len (close_frame ++ t) ≡ length close_frame
  unfolding close_frame
  close-len = frame-len 18 [] t (omega arith) (omega arith)

  pub close-left : drop (frame_len (close_frame ++ t)) (close_frame ++ t) ≡ t
  unfolding close_frame
  close-left = frame-left 18 [] t (omega arith) (omega arith)

-- ---- what is allowed fits its frame

pub key_fits : {s : ℕ} {x : List ℕ} → s < 2 ^ 64 → KeyName x → KeyFits s x
key_fits p n = let a = n.few in record { stamp = p; codes-fit = n.codes-fit; few = omega arith }

pub item-fits : {v : Item} → ItemAllowed v → ItemFits v
item-fits a = let n = a.name-fits in let d = a.data-fits in record { kind = a.kind_fits; codes-fit = a.codes-fit; few = omega arith }
