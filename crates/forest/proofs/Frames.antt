-- A frame at the start of some bytes: what is written is read back, and what is read is what stands there.
use Prim.Native.Nat.{ℕ, ◌+◌, ◌^◌, ◌≤◌, ◌<◌}
use native.Mathlib.Omega.{arith}
use mathlib.Core.Path.{◌≡◌, sym, ap, ap₂, ◌∙◌}
use mathlib.Core.Bool.{true}
use mathlib.Core.List.{List, [], ◌++◌, append_assoc}
use lib.Dec.{leb}
use lib.ListN.{length, take, drop, length-append, length-take, length-drop, take-append-drop}
use lib.Seq.{drop_at, take-append_seam, drop-append_seam, drop-drop}
use borrow.Author.Tests.{leb-true, le-leb}
use Rattle.fields.specs.Number.{u16_at, u32_at, le16, le32}
use Rattle.fields.proofs.Bools.{and-inv, and_both}
use Rattle.fields.proofs.Little.{length-le16, length-le32, u16-le, u32-le, le-u16, le-u32}
use Rattle.fields.proofs.Numbers.{u32-below}
use Rattle.stream.specs.Stream.{frame}
use Rattle.stream.proofs.Puts.{frame-length}
use Rattle.forest.specs.Allowed.{AllBelow}
use Rattle.forest.specs.Faults.{frame_len, payload, is_there, kind_shape, shape_of}
use Rattle.forest.proofs.Bytes.{below_at}

-- ---- a frame that is written

module _ (kind : ℕ) (p t : List ℕ) (small : kind < 65536) (short : length p < 2 ^ 32) where
  parts : frame kind p ++ t ≡ le32 (length p) ++ (le16 kind ++ (p ++ t))
  unfolding frame
  parts = append_assoc (le32 (length p) ++ le16 kind) p t ∙ append_assoc (le32 (length p)) (le16 kind) (p ++ t)

  says-length : u32_at (frame kind p ++ t) 0 ≡ length p
  says-length = ap (λ (r : List ℕ). u32_at r 0) parts ∙ u32-le [] (length p) short (le16 kind ++ (p ++ t))

  says-kind : u16_at (frame kind p ++ t) 4 ≡ kind
  says-kind = ap₂ u16_at parts (sym (length-le32 (length p))) ∙ u16-le (le32 (length p)) kind small (p ++ t)

  pub frame-len : frame_len (frame kind p ++ t) ≡ length (frame kind p)
  unfolding frame_len
  frame-len = let a = says-length in let b = frame-length kind p in omega arith

  pub frame-left : drop (frame_len (frame kind p ++ t)) (frame kind p ++ t) ≡ t
  frame-left = ap (λ (n : ℕ). drop n (frame kind p ++ t)) frame-len ∙ drop-append_seam (frame kind p) t

  behind-head : drop 6 (frame kind p ++ t) ≡ p ++ t
  unfolding frame
  behind-head =
      let a = length-append (le32 (length p)) (le16 kind) in
      let b = length-le32 (length p) in
      let c = length-le16 kind in
      ap (drop 6) (append_assoc (le32 (length p) ++ le16 kind) p t) ∙ drop_at (le32 (length p) ++ le16 kind) (p ++ t) 6 (omega arith)

  says-payload : payload (frame kind p ++ t) ≡ p
  says-payload = ap₂ (λ (n : ℕ) (l : List ℕ). take n l) says-length behind-head ∙ take-append_seam p t

  is-there : is_there (frame kind p ++ t) ≡ true
  unfolding is_there
  is-there =
      let a = length-append (frame kind p) t in
      let b = frame-length kind p in
      let c = frame-len in
      and_both (le-leb 6 (length (frame kind p ++ t)) (omega arith)) (le-leb (frame_len (frame kind p ++ t)) (length (frame kind p ++ t)) (omega arith))

  pub frame-shape : shape_of (frame kind p ++ t) ≡ kind_shape kind p
  unfolding shape_of
  frame-shape = rw is-there (ap₂ kind_shape says-kind says-payload)

-- ---- a frame that is read

-- a frame that is there, by its parts
pub record There (r : List ℕ) : Type 0 where
  pub whole : r ≡ frame (u16_at r 4) (payload r) ++ drop (frame_len r) r
  pub fits : frame_len r ≤ length r
  pub short : length (payload r) < 2 ^ 32
  pub is-length : frame_len r ≡ 6 + length (payload r)

module _ (r : List ℕ) (e : is_there r ≡ true) where
  pub there-fits : (6 ≤ length r) × (frame_len r ≤ length r)
  unfolding is_there
  there-fits = let a = and-inv (leb 6 (length r)) (leb (frame_len r) (length r)) e in (leb-true 6 (length r) a.0, leb-true (frame_len r) (length r) a.1)

  payload-length : length (payload r) ≡ u32_at r 0
  unfolding frame_len
  payload-length = let f = there-fits in simp (length-take, length-drop) (omega arith)

  pub there : AllBelow 256 r → There r
  unfolding frame_len frame
  there bytes =
      let b = below_at 256 (omega arith) r bytes in
      let f = there-fits in
      let n = payload-length in
      let four = le-u32 r b 0 (omega arith) in
      let two = le-u16 r b 4 (omega arith) in
      let rest : drop 6 r ≡ payload r ++ drop (6 + u32_at r 0) r = sym (ap (λ (l : List ℕ). payload r ++ l) (sym (drop-drop (u32_at r 0) 6 r)) ∙ take-append-drop (u32_at r 0) (drop 6 r)) in
      let mid : drop 4 r ≡ le16 (u16_at r 4) ++ drop 6 r = sym (ap₂ (λ (x y : List ℕ). x ++ y) two (sym (drop-drop 2 4 r)) ∙ take-append-drop 2 (drop 4 r)) in
      let head : r ≡ le32 (length (payload r)) ++ drop 4 r = sym (ap (λ (l : List ℕ). l ++ drop 4 r) (ap le32 n ∙ four) ∙ take-append-drop 4 r) in
      let all : r ≡ le32 (length (payload r)) ++ (le16 (u16_at r 4) ++ (payload r ++ drop (6 + u32_at r 0) r)) =
      head ∙ ap (λ (l : List ℕ). le32 (length (payload r)) ++ l) (mid ∙ ap (λ (l : List ℕ). le16 (u16_at r 4) ++ l) rest) in
      let a = append_assoc (le32 (length (payload r))) (le16 (u16_at r 4)) (payload r ++ drop (6 + u32_at r 0) r) in
      let c = append_assoc (le32 (length (payload r)) ++ le16 (u16_at r 4)) (payload r) (drop (6 + u32_at r 0) r) in
      record {
        whole = all ∙ sym a ∙ sym c;
        fits = f.1;
        short = omega (arith, u32-below r b 0);
        is-length = omega arith;
      }
