-- The values of a key as frames that are written, and what is judged behind the frames of a subkey's opening and of a key's closing.
use Prim.Native.Nat.{ℕ, zero, suc, ◌+◌, ◌<◌}
use native.Mathlib.Omega.{arith}
use mathlib.Core.Path.{◌≡◌, refl, sym, ap, ap₂, subst, ◌∙◌}
use mathlib.Core.Logic.{⊎_elim}
use mathlib.Core.Bool.{true}
use mathlib.Core.List.Memᴰ
use mathlib.Core.List.{List, [], ◌∷◌, ◌++◌, append_assoc, Memᴰ}
use lib.ListN.{length, get_or, drop}
use lib.Seq.{drop-drop}
use borrow.Author.Tests.{leb-true}
use Rattle.stream.specs.Stream.{close_frame}
use Rattle.forest.specs.Forest.{Item, key_frame, item_frame, item_frames}
use Rattle.forest.specs.Allowed.{AllBelow, ItemAllowed}
use Rattle.forest.specs.Faults.{Shape as Said, opens, holds, closes, frame_len, shape_of, Open, State, within, fresh, with_subkey, open_in, close_in, behind, is_laid, is_named, is_small, frame_fault, judge}
use Rattle.forest.proofs.Bytes.{below-drop}
use Rattle.forest.proofs.Judge.{judge-on}
use Rattle.forest.proofs.Tests.{laid-fits, close-sound}
use Rattle.forest.proofs.Back.{key_back, item_back, item-back-fits, item-back-bytes, close-back}
use Rattle.build_frames.specs.declared.Opening.{Opening}
use Rattle.build_frames.specs.Terms.{name_in}
use Rattle.build_namesakes.specs.Rows.{start_of}
use Rattle.build_measure.specs.declared.Here.{Here}
use Rattle.build_measure.specs.declared.Values.{Values}
use Rattle.build_measure.specs.Terms.{item_of, Good, items_from, AllValues, Stands, KeyStep}
use Rattle.build_measure.proofs.Rows.{start-next}
use Rattle.std.specs.Prelude.{Ok}

-- the bytes of a slice are bytes
pub all-bytes : (s : List ℕ) → ((i : ℕ) → get_or s i 0 < 256) → AllBelow 256 s
all-bytes [] f x m = absurd (Memᴰ.not-nil m)
all-bytes (y ∷ s) f x m = ⊎_elim (λ (e : x ≡ y). subst (λ (n : ℕ). n < 256) (sym e) (f 0)) (all-bytes s (λ i. f (suc i)) x) (Memᴰ.cases_cons m)

-- ---- values

module _ (s : List ℕ) (bytes : AllBelow 256 s) where
  later-bytes : (at : ℕ) → AllBelow 256 (drop at s)
  later-bytes at = below-drop 256 at s bytes

  good-allowed : (at : ℕ) → Good (shape_of (drop at s)) → ItemAllowed (item_of (shape_of (drop at s)))
  unfolding is_named is_small
  good-allowed at g =
      let v = item_of (shape_of (drop at s)) in
      let f = item-back-fits (drop at s) (later-bytes at) v g.is in
      let n : is_named (holds v) ≡ true = sym (ap is_named g.is) ∙ g.named in
      let m : is_small (holds v) ≡ true = sym (ap is_small g.is) ∙ g.small in
      record {
        kind_fits = f.kind;
        name-fits = leb-true (length v.name) 16383 n;
        codes-fit = f.codes-fit;
        data-fits = leb-true (length v.bytes) 1048576 m;
        bytes_fit = item-back-bytes (drop at s) (later-bytes at) v g.is;
      }

  abbrev Goods : ℕ → ℕ → Type 0
  Goods at n = (j : ℕ) → j < n → Good (shape_of (drop (start_of s at j) s))

  first_good : (at n : ℕ) → Goods at (suc n) → Good (shape_of (drop at s))
  unfolding start_of
  first_good at n g = g 0 (omega arith)

  later-goods : (at n : ℕ) → Goods at (suc n) → Goods (at + frame_len (drop at s)) n
  later-goods at n g j q = subst (λ (p : ℕ). Good (shape_of (drop p s))) (sym (start-next s at j)) (g (suc j) (omega arith))

  items-allowed : (n at : ℕ) → Goods at n → (v : Item) → Memᴰ v (items_from s at n) → ItemAllowed v
  unfolding items_from
  items-allowed zero at g v m = absurd (Memᴰ.not-nil m)
  items-allowed (suc n) at g v m =
      ⊎_elim (λ e. subst ItemAllowed (sym e) (good-allowed at (first_good at n g)))
      (items-allowed n (at + frame_len (drop at s)) (later-goods at n g) v) (Memᴰ.cases_cons m)

  items-frames : (n at : ℕ) → Goods at n → drop at s ≡ item_frames (items_from s at n) ++ drop (start_of s at n) s
  unfolding items_from item_frames start_of
  items-frames zero at g = refl
  items-frames (suc n) at g =
      let v = item_of (shape_of (drop at s)) in
      let next = at + frame_len (drop at s) in
      let rest = items-frames n next (later-goods at n g) in
      item_back (drop at s) (later-bytes at) v (first_good at n g).is
      ∙ ap (λ (u : List ℕ). item_frame v ++ u) (drop-drop (frame_len (drop at s)) at s ∙ rest ∙ ap (λ (p : ℕ). item_frames (items_from s next n) ++ drop p s) (start-next s at n))
      ∙ sym (append_assoc (item_frame v) (item_frames (items_from s next n)) (drop (start_of s at (suc n)) s))

  -- what the values that were passed are
  module _ {at : ℕ} {r : Values} (x : AllValues s at r) where
    pub values-allowed : (v : Item) → Memᴰ v (items_from s at r.count) → ItemAllowed v
    values-allowed = items-allowed r.count at x.passed.each

    pub values-frames : drop at s ≡ item_frames (items_from s at r.count) ++ drop r.at s
    values-frames = items-frames r.count at x.passed.each ∙ ap (λ (p : ℕ). item_frames (items_from s at r.count) ++ drop p s) (sym x.passed.ends)

  -- ---- the frames around a subkey

  module _ (p : ℕ) {h : Here} {o : Opening} (x : KeyStep s p h o) where
    pub opening-frame : drop p s ≡ key_frame o.stamp (name_in s o.name) ++ drop (p + frame_len (drop p s)) s
    opening-frame =
        key_back (drop p s) (later-bytes p) o.stamp (name_in s o.name) x.says
        ∙ ap (λ (u : List ℕ). key_frame o.stamp (name_in s o.name) ++ u) (drop-drop (frame_len (drop p s)) p s)

  pub closing-frame : (p : ℕ) → shape_of (drop p s) ≡ closes → drop p s ≡ close_frame ++ drop (p + frame_len (drop p s)) s
  closing-frame p e = close-back (drop p s) (later-bytes p) e ∙ ap (λ (u : List ℕ). close_frame ++ u) (drop-drop (frame_len (drop p s)) p s)

module _ (s : List ℕ) (p : ℕ) where
  -- a frame without a fault, of a shape that is known
  passed_on : (f : Said) (st : State) → shape_of (drop p s) ≡ f → is_laid f ≡ true → frame_fault (shape_of (drop p s)) st ≡ Ok tt
      → judge (drop p s) p st ≡ judge (drop (p + frame_len (drop p s)) s) (p + frame_len (drop p s)) (behind f st)
  passed_on f st e l q =
      let w = laid-fits (drop p s) (ap is_laid e ∙ l) in
      let a = w.0 in
      let b = w.1 in
      judge-on (drop p s) p st (omega arith) q
      ∙ ap₂ (λ (u : List ℕ) (z : State). judge u (p + frame_len (drop p s)) z) (drop-drop (frame_len (drop p s)) p s) (ap (λ (g : Said). behind g st) e)

  pub judged-open : {h : Here} {o : Opening} → KeyStep s p h o → (k : Open) (ks : List Open) → Stands s (shape_of (drop p s)) h k ks
      → judge (drop p s) p (within (k ∷ ks)) ≡ judge (drop (p + frame_len (drop p s)) s) (p + frame_len (drop p s)) (within (fresh ∷ (with_subkey (name_in s o.name) k ∷ ks)))
  unfolding behind open_in is_laid
  judged-open {o = o} x k ks st = passed_on (opens o.stamp (name_in s o.name)) (within (k ∷ ks)) x.says refl (x.sound k ks st)

  pub judged-close : shape_of (drop p s) ≡ closes → (k : Open) (ks : List Open)
      → judge (drop p s) p (within (k ∷ ks)) ≡ judge (drop (p + frame_len (drop p s)) s) (p + frame_len (drop p s)) (close_in (within (k ∷ ks)))
  unfolding behind is_laid
  judged-close e k ks = passed_on closes (within (k ∷ ks)) e refl (ap (λ (g : Said). frame_fault g (within (k ∷ ks))) e ∙ close-sound k ks)
