-- A stream without a fault is the frames of a forest: what is left of a key's frames, once the key is open.
use Prim.Native.Nat.{ℕ, zero, suc, ◌+◌, ◌≤◌, ◌<◌}
use native.Mathlib.Omega.{arith}
use mathlib.Core.Path.{◌≡◌, refl, sym, ap, subst, ◌∙◌}
use mathlib.Core.Bool.{Bool, true, false}
use mathlib.Core.List.{List, [], ◌∷◌, ◌++◌, append_assoc}
use lib.Dec.{eqb}
use lib.ListN.{length, drop}
use borrow.Author.Tests.{eqb-true, eqb-false}
use Rattle.stream.specs.Stream.{close_frame}
use Rattle.forest.specs.Forest.{Item, Forest, none, more, count_of, key_frame, item_frame, item_frames, forest_frames}
use Rattle.forest.specs.Allowed.{AllBelow, KeyName, allowed-none, allowed-more, OneRoot}
use Rattle.forest.specs.Faults.{Shape, unlaid, opens, holds, closes, frame_len, shape_of, Open, State, within, over, fresh, with_value, with_subkey, open_in, hold_in, close_in, behind, frame_fault, Judged, Fine, judged, judge, stream_fault}
use Rattle.forest.proofs.Bytes.{below-drop}
use Rattle.forest.proofs.Judge.{left-shorter, judge-step, judge-end}
use Rattle.forest.proofs.Back.{key_back, key-back-fits, item_back, item-back-fits, item-back-bytes, close-back}
use Rattle.forest.proofs.Tests.{KeyHere, sound-key, sound-item, unlaid-flawed, root-opens, over-flawed, sound-passes, passed-name}
use Rattle.forest.proofs.Growing.{Adding, no_value, value, Growing, no-key, a_key, growing-key, growing-allowed}
use Rattle.forest.proofs.Written.{close-any}
use Rattle.fields.specs.Faults.{Verdict}
use Rattle.std.specs.Prelude.{Err, Ok}

-- ---- one frame of a stream without a fault

judged-fine : (v : Verdict) (at : ℕ) (g : Judged) → judged v at g ≡ Fine → (v ≡ Ok tt) × (g ≡ Fine)
judged-fine (Ok tt) at g e = (refl, e)
judged-fine (Err f) at g e = absurd (let z : ◌≡◌ {A = ℕ} 0 1 = cc in omega arith)

record Goes (r : List ℕ) (at : ℕ) (st : State) (f : Shape) : Type 0 where
  sound : frame_fault f st ≡ Ok tt
  on : judge (drop (frame_len r) r) (at + frame_len r) (behind f st) ≡ Fine

goes : (r : List ℕ) (at : ℕ) (st : State) → 0 < length r → judge r at st ≡ Fine → Goes r at st (shape_of r)
goes r at st p e =
    let j = judged-fine (frame_fault (shape_of r) st) at (judge (drop (frame_len r) r) (at + frame_len r) (behind (shape_of r) st)) (sym (judge-step r at st p) ∙ e) in
    record { sound = j.0; on = j.1 }

-- inside of a key a frame must come
within-some : (r : List ℕ) (at : ℕ) (ks : List Open) → judge r at (within ks) ≡ Fine → 0 < length r
within-some r at ks e = by (eqb (length r) 0) refl
  where
    by : (t : Bool) → eqb (length r) 0 ≡ t → 0 < length r
    by true q = let w = sym (judge-end r at (within ks) (eqb-true (length r) 0 q)) ∙ e in absurd (let z : ◌≡◌ {A = ℕ} 0 1 = cc in omega arith)
    by false q = omega (arith, eqb-false (length r) 0 q)

-- behind the root no frame comes
over-ends : (r : List ℕ) (at : ℕ) → judge r at over ≡ Fine → r ≡ []
over-ends [] at e = refl
over-ends (x ∷ xs) at e = let r = x ∷ xs in absurd (over-flawed (shape_of r) (goes r at over (omega arith) e).sound)

-- ---- up to the closing of a key

record Ends (n : ℕ) (r : List ℕ) (k : Open) (ks : List Open) : Type 0 where
  items : List Item
  below : Forest
  left : List ℕ
  place : ℕ
  frames : r ≡ item_frames items ++ (forest_frames below ++ (close_frame ++ left))
  adding : Adding k.values items
  timely : 0 < length k.subkeys → items ≡ []
  growing : Growing n k.subkeys below
  shorter : length left < length r
  bytes : AllBelow 256 left
  goes_on : judge left place (close_in (within (k ∷ ks))) ≡ Fine

-- what is known of shorter bytes
abbrev Shorter : ℕ → Type 0
Shorter m = (r : List ℕ) → length r ≤ m → AllBelow 256 r → (at : ℕ) (k : Open) (ks : List Open) (n : ℕ) → n + suc (length ks) ≡ 513
    → judge r at (within (k ∷ ks)) ≡ Fine → Ends n r k ks

-- a key's frames, put together
joined : (s : ℕ) (x : List ℕ) (vs : List Item) (b f : Forest) (u t w : List ℕ) → u ≡ item_frames vs ++ (forest_frames b ++ (close_frame ++ t)) → t ≡ forest_frames f ++ w
    → key_frame s x ++ u ≡ forest_frames (more s x vs b f) ++ w
unfolding forest_frames
joined s x vs b f u t w p q =
    ap (λ (l : List ℕ). key_frame s x ++ l) (p ∙ ap (λ (l : List ℕ). item_frames vs ++ (forest_frames b ++ (close_frame ++ l))) q) ∙ simp append_assoc

module _ (m : ℕ) (rec : Shorter m) (r : List ℕ) (few : length r ≤ suc m) (bytes : AllBelow 256 r) (at : ℕ) (k : Open) (ks : List Open)
    (some : 0 < length r) where
  abbrev rest : List ℕ
  rest = drop (frame_len r) r

  rest-bytes : AllBelow 256 rest
  rest-bytes = below-drop 256 (frame_len r) r bytes

  -- a key opens, closes, and the frames of its parent go on
  module _ (n s : ℕ) (x : List ℕ) (e : shape_of r ≡ opens s x) (name : KeyName x) (here : KeyHere k ks x) (c : Ends n rest fresh (with_subkey x k ∷ ks))
      (d : Ends (suc n) c.left (with_subkey x k) ks) where
    key-tail : c.left ≡ forest_frames d.below ++ (close_frame ++ d.left)
    unfolding item_frames
    key-tail = d.frames ∙ ap (λ (vs : List Item). item_frames vs ++ (forest_frames d.below ++ (close_frame ++ d.left))) (d.timely (omega arith))

    key-frames : r ≡ forest_frames (more s x c.items c.below d.below) ++ (close_frame ++ d.left)
    key-frames = key_back r bytes s x e ∙ joined s x c.items c.below d.below rest c.left (close_frame ++ d.left) c.frames key-tail

    key-ends : Ends (suc n) r k ks
    unfolding item_frames
    key-ends =
        let sh = left-shorter r some in
        let cs = c.shorter in
        let ds = d.shorter in
        record {
          items = [];
          below = more s x c.items c.below d.below;
          left = d.left;
          place = d.place;
          frames = key-frames;
          adding = no_value;
          timely = λ q. refl;
          growing = a_key (key-back-fits r bytes s x e).stamp name here.above here.few c.adding c.growing d.growing;
          shorter = omega arith;
          bytes = d.bytes;
          goes_on = ap (judge d.left d.place) (close-any k (with_subkey x k) ks) ∙ d.goes_on;
        }

  by_key : (n s : ℕ) (x : List ℕ) → n + suc (length ks) ≡ 513 → shape_of r ≡ opens s x → Goes r at (within (k ∷ ks)) (opens s x) → Ends n r k ks
  unfolding behind open_in close_in
  by_key zero s x l e g = let h = (sound-key k ks s x (key-back-fits r bytes s x e).codes-fit g.sound).1.level in absurd (omega arith)
  by_key (suc n) s x l e g =
      let h = sound-key k ks s x (key-back-fits r bytes s x e).codes-fit g.sound in
      let sh = left-shorter r some in
      let c : Ends n rest fresh (with_subkey x k ∷ ks) = rec rest (omega arith) rest-bytes (at + frame_len r) fresh (with_subkey x k ∷ ks) n (omega arith) g.on in
      let cs = c.shorter in
      key-ends n s x e h.0 h.1 c (rec c.left (omega arith) c.bytes c.place (with_subkey x k) ks (suc n) l c.goes_on)

  -- a value, and what comes behind it
  by-item : (n : ℕ) (v : Item) → n + suc (length ks) ≡ 513 → shape_of r ≡ holds v → Goes r at (within (k ∷ ks)) (holds v) → Ends n r k ks
  unfolding behind hold_in item_frames
  by-item n v l e g =
      let h = sound-item k ks v (item-back-fits r bytes v e) (item-back-bytes r bytes v e) g.sound in
      let sh = left-shorter r some in
      let c : Ends n rest (with_value v.name k) ks = rec rest (omega arith) rest-bytes (at + frame_len r) (with_value v.name k) ks n l g.on in
      let cs = c.shorter in
      let t = h.1.timely in
      record {
        items = v ∷ c.items;
        below = c.below;
        left = c.left;
        place = c.place;
        frames = item_back r bytes v e ∙ ap (λ (u : List ℕ). item_frame v ++ u) c.frames ∙ sym (append_assoc (item_frame v) (item_frames c.items) (forest_frames c.below ++ (close_frame ++ c.left)));
        adding = value h.0 h.1.new c.adding;
        timely = λ q. absurd (omega arith);
        growing = c.growing;
        shorter = omega arith;
        bytes = c.bytes;
        goes_on = ap (judge c.left c.place) (close-any k (with_value v.name k) ks) ∙ c.goes_on;
      }

  -- the key closes
  by-close : (n : ℕ) → shape_of r ≡ closes → Goes r at (within (k ∷ ks)) closes → Ends n r k ks
  unfolding behind item_frames forest_frames
  by-close n e g = record {
    items = [];
    below = none;
    left = rest;
    place = at + frame_len r;
    frames = close-back r bytes e;
    adding = no_value;
    timely = λ q. refl;
    growing = no-key;
    shorter = left-shorter r some;
    bytes = rest-bytes;
    goes_on = g.on;
  }

  by_shape : (n : ℕ) → n + suc (length ks) ≡ 513 → (f : Shape) → shape_of r ≡ f → Goes r at (within (k ∷ ks)) f → Ends n r k ks
  by_shape n l unlaid e g = absurd (unlaid-flawed (within (k ∷ ks)) g.sound)
  by_shape n l (opens s x) e g = by_key n s x l e g
  by_shape n l (holds v) e g = by-item n v l e g
  by_shape n l closes e g = by-close n e g

ends : (m : ℕ) → Shorter m
ends zero r few bytes at k ks n l e = absurd (let z = within-some r at (k ∷ ks) e in omega arith)
ends (suc m) r few bytes at k ks n l e =
    let some = within-some r at (k ∷ ks) e in
    by_shape m (ends m) r few bytes at k ks some n l (shape_of r) refl (goes r at (within (k ∷ ks)) some e)

-- ---- from the start

root : (s : List ℕ) → AllBelow 256 s → 0 < length s → (t : ℕ) (x : List ℕ) → shape_of s ≡ opens t x → Goes s 0 (within []) (opens t x)
    → (f : Forest) × (s ≡ forest_frames f) × OneRoot f
unfolding behind open_in close_in count_of forest_frames
root s bytes some t x e g =
    let rest = drop (frame_len s) s in
    let fits = key-back-fits s bytes t x e in
    let name = passed-name t x fits.codes-fit (sound-passes (opens t x) (within []) g.sound).named in
    let c : Ends 512 rest fresh [] = ends (length rest) rest (omega arith) (below-drop 256 (frame_len s) s bytes) (0 + frame_len s) fresh [] 512 refl g.on in
    let end : c.left ≡ [] = over-ends c.left c.place c.goes_on in (
      more t x c.items c.below none,
      key_back s bytes t x e ∙ ap (λ (u : List ℕ). key_frame t x ++ u) (c.frames ∙ ap (λ (u : List ℕ). item_frames c.items ++ (forest_frames c.below ++ (close_frame ++ u))) end),
      record { single = refl; allowed = allowed-more (growing-key fits.stamp name c.adding c.growing) (growing-allowed c.growing) allowed-none },
    )

pub fine-written : (s : List ℕ) → AllBelow 256 s → stream_fault s ≡ Fine → (f : Forest) × (s ≡ forest_frames f) × OneRoot f
fine-written s bytes e =
    let some = within-some s 0 [] e in
    let g = goes s 0 (within []) some e in
    let o = root-opens (shape_of s) g.sound in
    root s bytes some o.0 o.1 o.2 (subst (Goes s 0 (within [])) o.2 g)
