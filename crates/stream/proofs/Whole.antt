-- The stream as a whole: the frames joined are the stream, the frames of kind 16 open the keys in pre-order, how many frames there are, and that the stream
-- is balanced.
use Prim.Native.Nat.{ℕ, zero, suc, ◌+◌, ◌*◌, ◌<◌}
use native.Mathlib.Omega.{arith}
use mathlib.Core.Path.{◌≡◌, refl, sym, ap, ap₂, ◌∙◌}
use mathlib.Core.Bool.{Bool, true, false}
use mathlib.Core.List.{List, [], ◌∷◌, ◌++◌, append_assoc, append-nil, Memᴰ}
use lib.Dec.{eqb}
use lib.ListN.{length, length-append}
use borrow.Author.Tests.{eqb-true, eq-eqb, ne_eqb}
use Rattle.fields.specs.declared.Offset.{Offset}
use Rattle.fields.specs.Number.{u16_at}
use Rattle.base.specs.Block.{bins_data}
use Rattle.records.specs.declared.Child.{Child}
use Rattle.records.specs.Keys.{key_of}
use Rattle.records.specs.Lists.{children}
use Rattle.records.specs.Listed.{joined, keys_in}
use Rattle.records.proofs.LawsSequence.{offsets-length}
use Rattle.values.specs.Lists.{values_of}
use Rattle.tree.specs.declared.Hive.{Hive}
use Rattle.tree.specs.Tree.{values_in, levels, hive_of, keys_of}
use Rattle.tree.specs.WellFormed.{TreeStands, key, CleanAndWellFormed}
use Rattle.fields.specs.Number.{le16, le32}
use Rattle.stream.specs.Stream.{frame, open_frame, framed_value, close_frame, Framed, holds, closes, value_frames, own_frames, frames_over, frames_in, frames_of, value_stream, stream_over, stream_in, stream_of, joined_frames}
use Rattle.stream.specs.Balanced.{kind_of, opened_by, values, subkeys, a_key, Balanced, no-values, value, no-subkeys, subkey, opened}
use Rattle.fields.proofs.Little.{length-le32, u16-le}

-- ---- joined

pub joined-append : (xs ys : List Framed) → joined_frames (xs ++ ys) ≡ joined_frames xs ++ joined_frames ys
unfolding joined_frames
joined-append [] ys = refl
joined-append (x ∷ xs) ys =
    ap (λ (r : List ℕ). x.bytes ++ r) (joined-append xs ys) ∙ sym (append_assoc x.bytes (joined_frames xs) (joined_frames ys))

pub joined-one : (x : Framed) → joined_frames (x ∷ []) ≡ x.bytes
unfolding joined_frames
joined-one x = append-nil x.bytes

pub joined-none : joined_frames [] ≡ []
unfolding joined_frames
joined-none = refl

module _ (d : List ℕ) (minor : ℕ) where
  joined-values : (k : Offset) (vs : List Offset) → joined_frames (value_frames d minor k vs) ≡ value_stream d minor vs
  unfolding joined_frames value_frames value_stream
  joined-values k [] = refl
  joined-values k (v ∷ vs) = ap (λ (r : List ℕ). (holds d minor k v).bytes ++ r) (joined-values k vs)

  joined-own : (k : Offset) → joined_frames (own_frames d minor k) ≡ open_frame d k ++ value_stream d minor (values_of d (key_of d k))
  unfolding joined_frames own_frames
  joined-own k = ap (λ (r : List ℕ). open_frame d k ++ r) (joined-values k (values_of d (key_of d k)))

  joined-over : (f : Offset → List Framed) (g : Offset → List ℕ) → ((o : Offset) → joined_frames (f o) ≡ g o) → (cs : List Child)
      → joined_frames (frames_over f cs) ≡ stream_over g cs
  unfolding frames_over stream_over
  joined-over f g e [] = joined-none
  joined-over f g e (c ∷ cs) =
      joined-append (f c.at) (frames_over f cs) ∙ ap₂ (λ (x y : List ℕ). x ++ y) (e c.at) (joined-over f g e cs)

  joined_in : (n : ℕ) (k : Offset) → joined_frames (frames_in d minor n k) ≡ stream_in d minor n k
  unfolding frames_in stream_in
  joined_in zero k = joined-none
  joined_in (suc n) k =
      let xs = frames_over (frames_in d minor n) (children d k) in
      let vs = value_stream d minor (values_of d (key_of d k)) in
      let ss = stream_over (stream_in d minor n) (children d k) in
      joined-append (own_frames d minor k) (xs ++ (closes k ∷ []))
      ∙ ap₂ (λ (x y : List ℕ). x ++ y) (joined-own k)
      (joined-append xs (closes k ∷ []) ∙ ap₂ (λ (x y : List ℕ). x ++ y) (joined-over (frames_in d minor n) (stream_in d minor n) (joined_in n) (children d k)) (joined-one (closes k)))
      ∙ append_assoc (open_frame d k) vs (ss ++ close_frame)

-- "the bytes of frames_of h joined are stream_of h"
pub frames-joined : (h : List ℕ) → joined_frames (frames_of h) ≡ stream_of h
frames-joined h = joined_in (bins_data h) (hive_of h).minor levels (hive_of h).root

-- ---- the keys that open

kind-is : (kind : ℕ) → kind < 65536 → (p : List ℕ) → kind_of (frame kind p) ≡ kind
unfolding frame
kind-is kind q p =
    let n = length-le32 (length p) in
    ap₂ u16_at (append_assoc (le32 (length p)) (le16 kind) p) (sym n) ∙ u16-le (le32 (length p)) kind q p

open-kind : (d : List ℕ) (k : Offset) → kind_of (open_frame d k) ≡ 16
unfolding open_frame
open-kind d k = kind-is 16 (omega arith) _

value-kind : (d : List ℕ) (minor : ℕ) (k v : Offset) → kind_of (holds d minor k v).bytes ≡ 17
unfolding framed_value
value-kind d minor k v = kind-is 17 (omega arith) _

close-kind : kind_of close_frame ≡ 18
unfolding close_frame
close-kind = kind-is 18 (omega arith) []

module _ (d : List ℕ) (minor : ℕ) where
  opened-append : (xs ys : List Framed) → opened_by (xs ++ ys) ≡ opened_by xs ++ opened_by ys
  unfolding opened_by
  opened-append [] ys = refl
  opened-append (x ∷ xs) ys = by (eqb (kind_of x.bytes) 16) refl (opened-append xs ys)
    where
      by : (t : Bool) → eqb (kind_of x.bytes) 16 ≡ t → opened_by (xs ++ ys) ≡ opened_by xs ++ opened_by ys
          → opened_by ((x ∷ xs) ++ ys) ≡ opened_by (x ∷ xs) ++ opened_by ys
      by true e r = rw e (ap (λ (os : List Offset). x.key ∷ os) r)
      by false e r = rw e r

  opened-values : (k : Offset) (vs : List Offset) → opened_by (value_frames d minor k vs) ≡ []
  unfolding opened_by value_frames
  opened-values k [] = refl
  opened-values k (v ∷ vs) =
      let e = value-kind d minor k v in
      rw (ne_eqb (kind_of (holds d minor k v).bytes) 16 (λ z. omega arith)) (opened-values k vs)

  opened-own : (k : Offset) → opened_by (own_frames d minor k) ≡ k ∷ []
  unfolding opened_by own_frames
  opened-own k = rw (eq-eqb (kind_of (open_frame d k)) 16 (open-kind d k)) (ap (λ (os : List Offset). k ∷ os) (opened-values k (values_of d (key_of d k))))

  opened-close : (k : Offset) → opened_by (closes k ∷ []) ≡ []
  unfolding opened_by
  opened-close k = let e = close-kind in rw (ne_eqb (kind_of close_frame) 16 (λ z. omega arith))

  opened-over : (f : Offset → List Framed) (g : Offset → List Offset) → ((o : Offset) → opened_by (f o) ≡ g o) → (cs : List Child)
      → opened_by (frames_over f cs) ≡ joined g cs
  unfolding opened_by frames_over joined
  opened-over f g e [] = refl
  opened-over f g e (c ∷ cs) = opened-append (f c.at) (frames_over f cs) ∙ ap₂ (λ (x y : List Offset). x ++ y) (e c.at) (opened-over f g e cs)

  opened_in : (n : ℕ) (k : Offset) → opened_by (frames_in d minor n k) ≡ keys_in d n k
  unfolding frames_in keys_in opened_by
  opened_in zero k = refl
  opened_in (suc n) k =
      let xs = frames_over (frames_in d minor n) (children d k) in
      opened-append (own_frames d minor k) (xs ++ (closes k ∷ []))
      ∙ ap₂ (λ (x y : List Offset). x ++ y) (opened-own k)
      (opened-append xs (closes k ∷ []) ∙ ap₂ (λ (x y : List Offset). x ++ y) (opened-over (frames_in d minor n) (keys_in d n) (opened_in n) (children d k)) (opened-close k) ∙ append-nil _)

  -- ---- how many frames

  pub values-many : (k : Offset) → length (values_of d (key_of d k)) ≡ (key_of d k).values
  unfolding values_of
  values-many k = by (eqb (key_of d k).values 0) refl
    where
      by : (t : Bool) → eqb (key_of d k).values 0 ≡ t → length (values_of d (key_of d k)) ≡ (key_of d k).values
      by true e = let z = eqb-true (key_of d k).values 0 e in rw e (sym z)
      by false e = rw e (offsets-length _ 0 (key_of d k).values)

  value-frames : (k : Offset) (vs : List Offset) → length (value_frames d minor k vs) ≡ length vs
  unfolding value_frames
  value-frames k [] = refl
  value-frames k (v ∷ vs) = ap suc (value-frames k vs)

  pub own-many : (k : Offset) → length (own_frames d minor k) ≡ suc (key_of d k).values
  unfolding own_frames
  own-many k = ap suc (value-frames k (values_of d (key_of d k)) ∙ values-many k)

  pub values-append : (xs ys : List Offset) → values_in d (xs ++ ys) ≡ values_in d xs + values_in d ys
  unfolding values_in
  values-append [] ys = omega arith
  values-append (x ∷ xs) ys = let r = values-append xs ys in omega arith

  abbrev Counts : List Framed → List Offset → Type 0
  Counts fs ks = length fs ≡ 2 * length ks + values_in d ks

  counted-over : (f : Offset → List Framed) (g : Offset → List Offset) → ((o : Offset) → Counts (f o) (g o)) → (cs : List Child)
      → Counts (frames_over f cs) (joined g cs)
  unfolding frames_over joined values_in
  counted-over f g e [] = refl
  counted-over f g e (c ∷ cs) =
      let a = length-append (f c.at) (frames_over f cs) in
      let b = length-append (g c.at) (joined g cs) in
      let v = values-append (g c.at) (joined g cs) in
      let x = e c.at in
      let y = counted-over f g e cs in
      omega arith

  counted-in : (n : ℕ) (k : Offset) → Counts (frames_in d minor n k) (keys_in d n k)
  unfolding frames_in keys_in values_in
  counted-in zero k = refl
  counted-in (suc n) k =
      let xs = frames_over (frames_in d minor n) (children d k) in
      let a = length-append (own_frames d minor k) (xs ++ (closes k ∷ [])) in
      let b = length-append xs (closes k ∷ []) in
      let o = own-many k in
      let r = counted-over (frames_in d minor n) (keys_in d n) (counted-in n) (children d k) in
      omega arith

-- "the keys of its 16-frames, in order, are `keys_of h`; [there are] 2 x keys + values"
pub frames-listed : (h : List ℕ) → (opened_by (frames_of h) ≡ keys_of h) × (length (frames_of h) ≡ 2 * length (keys_of h) + values_in (bins_data h) (keys_of h))
frames-listed h =
    (opened_in (bins_data h) (hive_of h).minor levels (hive_of h).root, counted-in (bins_data h) (hive_of h).minor levels (hive_of h).root)

-- ---- balanced

module _ (d : List ℕ) (hive : Hive) where
  balanced-values : (vs : List Offset) → Balanced values (value_stream d hive.minor vs)
  unfolding value_stream framed_value
  balanced-values [] = no-values
  balanced-values (v ∷ vs) = value _ (balanced-values vs)

  balanced-over : (n : ℕ) (cs : List Child) → ((c : Child) → Memᴰ c cs → Balanced a_key (stream_in d hive.minor n c.at))
      → Balanced subkeys (stream_over (stream_in d hive.minor n) cs)
  unfolding stream_over
  balanced-over n [] f = no-subkeys
  balanced-over n (c ∷ cs) f = subkey (f c (Memᴰ.head refl)) (balanced-over n cs (λ x i. f x (Memᴰ.tail i)))

  balanced-in : (n : ℕ) {k : Offset} → TreeStands d hive n k → Balanced a_key (stream_in d hive.minor n k)
  unfolding stream_in open_frame close_frame
  balanced-in zero {k = k} x' = elim x' [ ]
  balanced-in (suc n) {k} (key s a ch tree) =
      opened _ (balanced-values (values_of d (key_of d k))) (balanced-over n (children d k) (λ c i. balanced-in n (tree c i)))

-- "stream_of h is one balanced root key, values before subkeys"
pub stream-balanced : (h : List ℕ) → CleanAndWellFormed h → Balanced a_key (stream_of h)
stream-balanced h w = balanced-in (bins_data h) (hive_of h) levels w.formed.tree
