-- A forest that is written is passed frame by frame without a fault.
use Prim.Native.Nat.{ℕ, suc, ◌+◌, ◌<◌}
use native.Mathlib.Omega.{arith}
use mathlib.Core.Path.{◌≡◌, refl, ap, subst, ◌∙◌}
use mathlib.Core.List.{List, [], ◌∷◌, ◌++◌, append_assoc}
use lib.ListN.{length, length-append}
use lib.Seq.{drop-append_seam}
use Rattle.stream.specs.Stream.{close_frame}
use Rattle.forest.specs.Forest.{Item, Forest, none, more, count_of, key_frame, item_frame, item_frames, forest_frames}
use Rattle.forest.specs.Allowed.{KeyAllowed, Allowed, allowed-more, OneRoot}
use Rattle.forest.specs.Faults.{Shape, opens, holds, closes, frame_len, shape_of, Open, State, within, over, fresh, with_value, with_subkey, open_in, hold_in, close_in, behind, is_above, frame_fault, Fine, judge, stream_fault}
use Rattle.forest.specs.Behind.{add_values, add_keys}
use Rattle.forest.proofs.Judge.{frame-some, judge-step, judge-end}
use Rattle.forest.proofs.Shapes.{key-shape, key-len, item-shape, item-len, close-shape, close-len, key_fits, item-fits}
use Rattle.forest.proofs.Tests.{key-sound, item-sound, close-sound, root-sound}
use Rattle.forest.proofs.Growing.{Adding, no_value, value, Growing, no-key, a_key, key-adding, allowed-growing}
use Rattle.std.specs.Prelude.{Ok}

-- a frame without a fault is passed
pub pass : (w t : List ℕ) (at : ℕ) (st : State) (f : Shape) → shape_of (w ++ t) ≡ f → frame_len (w ++ t) ≡ length w → frame_fault f st ≡ Ok tt
    → judge (w ++ t) at st ≡ judge t (at + length w) (behind f st)
pass w t at st f e l s =
    let some : 0 < length (w ++ t) = let a = length-append w t in let b = frame-some (w ++ t) in omega arith in
    judge-step (w ++ t) at st some ∙ rw (e, l, s, drop-append_seam w t)

-- ---- what is open behind some values

pub added-subkeys : (vs : List Item) (k : Open) → (add_values vs k).subkeys ≡ k.subkeys
unfolding add_values
added-subkeys [] k = refl
added-subkeys (v ∷ vs) k = added-subkeys vs (with_value v.name k)

-- which key closes makes no difference to what is open then
pub close-any : (k j : Open) (ks : List Open) → close_in (within (k ∷ ks)) ≡ close_in (within (j ∷ ks))
unfolding close_in
close-any k j [] = refl
close-any k j (i ∷ ks) = refl

pub close-pass : (k : Open) (ks : List Open) (at : ℕ) (t : List ℕ)
    → judge (close_frame ++ t) at (within (k ∷ ks)) ≡ judge t (at + length close_frame) (close_in (within (fresh ∷ ks)))
unfolding behind
close-pass k ks at t =
    pass close_frame t at (within (k ∷ ks)) closes (close-shape t) (close-len t) (close-sound k ks)
    ∙ ap (judge t (at + length close_frame)) (close-any k fresh ks)

-- ---- the values of a key

pub items-pass : {seen : List (List ℕ)} {vs : List Item} → Adding seen vs → (k : Open) (ks : List Open) (at : ℕ) (t : List ℕ) → k.values ≡ seen → k.subkeys ≡ []
    → judge (item_frames vs ++ t) at (within (k ∷ ks)) ≡ judge t (at + length (item_frames vs)) (within (add_values vs k ∷ ks))
unfolding item_frames add_values behind hold_in
items-pass no_value k ks at t p q = let e : at ≡ at + 0 = omega arith in ap (λ (n : ℕ). judge t n (within (k ∷ ks))) e
items-pass (value {v = v} {vs = vs} a e g) k ks at t p q =
    let z = length-append (item_frame v) (item_frames vs) in
    let y : at + length (item_frame v) + length (item_frames vs) ≡ at + length (item_frame v ++ item_frames vs) = omega arith in
    let none_below = ap length q in
    ap (λ (l : List ℕ). judge l at (within (k ∷ ks))) (append_assoc (item_frame v) (item_frames vs) t)
    ∙ pass (item_frame v) (item_frames vs ++ t) at (within (k ∷ ks)) (holds v) (item-shape v (item-fits a) (item_frames vs ++ t)) (item-len v (item-fits a) (item_frames vs ++ t))
    (item-sound k ks v a (record { timely = none_below; new = rw p e }))
    ∙ items-pass g (with_value v.name k) ks (at + length (item_frame v)) t (ap (λ (l : List (List ℕ)). v.name ∷ l) p) q
    ∙ ap (λ (n : ℕ). judge t n (within (add_values vs (with_value v.name k) ∷ ks))) y

-- ---- keys side by side

-- how far it is over a key and those beside it
module _ (s : ℕ) (x : List ℕ) (vs : List Item) (b r : Forest) where
  far : length (forest_frames (more s x vs b r))
      ≡ length (key_frame s x) + (length (item_frames vs) + (length (forest_frames b) + (length close_frame + length (forest_frames r))))
  unfolding forest_frames
  far =
      let a = length-append (key_frame s x) (item_frames vs ++ (forest_frames b ++ (close_frame ++ forest_frames r))) in
      let c = length-append (item_frames vs) (forest_frames b ++ (close_frame ++ forest_frames r)) in
      let d = length-append (forest_frames b) (close_frame ++ forest_frames r) in
      let e = length-append close_frame (forest_frames r) in
      omega arith

  pub in_a_row : (t : List ℕ) → forest_frames (more s x vs b r) ++ t ≡ key_frame s x ++ (item_frames vs ++ (forest_frames b ++ (close_frame ++ (forest_frames r ++ t))))
  unfolding forest_frames
  in_a_row t = simp append_assoc

opened : (s : ℕ) (x : List ℕ) (k : Open) (ks : List Open) (at : ℕ) (u : List ℕ) → shape_of (key_frame s x ++ u) ≡ opens s x → frame_len (key_frame s x ++ u) ≡ length (key_frame s x)
    → frame_fault (opens s x) (within (k ∷ ks)) ≡ Ok tt
    → judge (key_frame s x ++ u) at (within (k ∷ ks)) ≡ judge u (at + length (key_frame s x)) (within (fresh ∷ (with_subkey x k ∷ ks)))
unfolding behind open_in
opened s x k ks at u e f g = pass (key_frame s x) u at (within (k ∷ ks)) (opens s x) e f g

closed : (at : ℕ) (u : List ℕ) (k : Open) (ks : List Open) → judge u at (close_in (within (fresh ∷ (k ∷ ks)))) ≡ judge u at (within (k ∷ ks))
unfolding close_in
closed at u k ks = refl

pub forest-pass : {n : ℕ} {ys : List (List ℕ)} {f : Forest} → Growing n ys f → (k : Open) (ks : List Open) (at : ℕ) (t : List ℕ) → k.subkeys ≡ ys
    → n + suc (length ks) ≡ 513 → judge (forest_frames f ++ t) at (within (k ∷ ks)) ≡ judge t (at + length (forest_frames f)) (within (add_keys f k ∷ ks))
unfolding forest_frames add_keys
forest-pass no-key k ks at t p l = let e : at ≡ at + 0 = omega arith in ap (λ (n : ℕ). judge t n (within (k ∷ ks))) e
forest-pass (a_key {s = s} {x = x} {vs = vs} {b = b} {r = r} sf nm ab fw ad gb gr) k ks at t p l =
    let end = forest_frames r ++ t in
    let inner = forest_frames b ++ (close_frame ++ end) in
    let a₁ = at + length (key_frame s x) in
    let a₂ = a₁ + length (item_frames vs) in
    let a₃ = a₂ + length (forest_frames b) in
    let a₄ = a₃ + length close_frame in
    let up = with_subkey x k ∷ ks in
    let z = far s x vs b r in
    let y : a₄ + length (forest_frames r) ≡ at + length (forest_frames (more s x vs b r)) = omega arith in
    let elders = ap length p in
    ap (λ (u : List ℕ). judge u at (within (k ∷ ks))) (in_a_row s x vs b r t)
    ∙ opened s x k ks at (item_frames vs ++ inner) (key-shape s x (key_fits sf nm) (item_frames vs ++ inner)) (key-len s x (key_fits sf nm) (item_frames vs ++ inner))
    (key-sound k ks s x nm (record { above = rw p ab; level = omega arith; few = omega arith }))
    ∙ items-pass ad fresh up a₁ inner refl refl
    ∙ forest-pass gb (add_values vs fresh) up a₂ (close_frame ++ end) (added-subkeys vs fresh) (omega arith)
    ∙ close-pass (add_keys b (add_values vs fresh)) up a₃ end
    ∙ closed a₄ end (with_subkey x k) ks
    ∙ forest-pass gr (with_subkey x k) ks a₄ t (ap (λ (w : List (List ℕ)). x ∷ w) p) l
    ∙ ap (λ (m : ℕ). judge t m (within (add_keys r (with_subkey x k) ∷ ks))) y

-- ---- one root

allowed-inv : {n s : ℕ} {x : List ℕ} {vs : List Item} {b r : Forest} → Allowed n (more s x vs b r) → KeyAllowed s x vs b × ((m : ℕ) × (n ≡ suc m) × Allowed m b)
allowed-inv (allowed-more {n = n} k b r) = (k, (n, refl, b))

root-frames : (s : ℕ) (x : List ℕ) (vs : List Item) (b : Forest) → KeyAllowed s x vs b → Allowed 512 b → stream_fault (forest_frames (more s x vs b none)) ≡ Fine
unfolding forest_frames behind open_in close_in is_above
root-frames s x vs b k a =
    let fw = k.few in
    let g = allowed-growing a [] k.sorted (λ y m. refl) (omega arith) in
    let inner = forest_frames b ++ (close_frame ++ []) in
    let fits = key_fits k.stamp-fits k.name in
    let a₁ = 0 + length (key_frame s x) in
    let a₂ = a₁ + length (item_frames vs) in
    let a₃ = a₂ + length (forest_frames b) in
    pass (key_frame s x) (item_frames vs ++ inner) 0 (within []) (opens s x) (key-shape s x fits (item_frames vs ++ inner)) (key-len s x fits (item_frames vs ++ inner)) (root-sound s x k.name)
    ∙ items-pass (key-adding k) fresh [] a₁ inner refl refl
    ∙ forest-pass g (add_values vs fresh) [] a₂ (close_frame ++ []) (added-subkeys vs fresh) (omega arith)
    ∙ close-pass (add_keys b (add_values vs fresh)) [] a₃ []
    ∙ judge-end [] (a₃ + length close_frame) over refl

pub written-fine : (f : Forest) → OneRoot f → stream_fault (forest_frames f) ≡ Fine
unfolding count_of
written-fine none o = absurd (let z = o.single in omega arith)
written-fine (more s x vs b (more s' x' vs' b' r)) o = absurd (let z = o.single in omega arith)
written-fine (more s x vs b none) o =
    let i = allowed-inv o.allowed in
    let m = i.1.0 in
    let q : 513 ≡ suc m = i.1.1 in
    let e : m ≡ 512 = omega arith in
    root-frames s x vs b i.0 (subst (λ (n : ℕ). Allowed n b) e i.1.2)
