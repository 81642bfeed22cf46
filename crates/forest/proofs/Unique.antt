-- The frames of a forest say which forest it is.
use Prim.Native.Nat.{ℕ}
use native.Mathlib.Omega.{arith}
use mathlib.Core.Path.{◌≡◌, refl, sym, ap, ◌∙◌}
use mathlib.Core.List.{List, [], ◌∷◌, ◌++◌, append_assoc, Memᴰ}
use lib.ListN.{drop}
use Rattle.stream.specs.Stream.{close_frame}
use Rattle.forest.specs.Forest.{Item, Forest, more, key_frame, item_frame, item_frames, forest_frames}
use Rattle.forest.specs.Allowed.{ItemAllowed, KeyAllowed, Allowed, allowed-none, allowed-more, OneRoot}
use Rattle.forest.specs.Faults.{opens, holds, closes, frame_len, shape_of}
use Rattle.forest.proofs.Shapes.{KeyFits, key-shape, key_left, item-shape, item-left, close-shape, close-left, key_fits, item-fits}
use Rattle.forest.proofs.Written.{in_a_row}

-- what is left behind the first frame
abbrev left : List ℕ → List ℕ
left r = drop (frame_len r) r

of-key : {s : ℕ} {x : List ℕ} {vs : List Item} {b : Forest} → KeyAllowed s x vs b → KeyFits s x
of-key k = key_fits k.stamp-fits k.name

-- ---- the values

abbrev NoItem : List ℕ → Type 0
NoItem a = (v : Item) → shape_of a ≡ holds v → ⊥

items-same : (vs ws : List Item) → ((v : Item) → Memᴰ v vs → ItemAllowed v) → ((w : Item) → Memᴰ w ws → ItemAllowed w)
    → (a b : List ℕ) → NoItem a → NoItem b → item_frames vs ++ a ≡ item_frames ws ++ b → (vs ≡ ws) × (a ≡ b)
unfolding item_frames
items-same [] [] p q a b n m e = (refl, e)
items-same [] (w ∷ ws) p q a b n m e =
    let f = item-fits (q w (Memᴰ.head refl)) in
    absurd (n w (ap shape_of (e ∙ append_assoc (item_frame w) (item_frames ws) b) ∙ item-shape w f (item_frames ws ++ b)))
items-same (v ∷ vs) [] p q a b n m e =
    let f = item-fits (p v (Memᴰ.head refl)) in
    absurd (m v (ap shape_of (sym e ∙ append_assoc (item_frame v) (item_frames vs) a) ∙ item-shape v f (item_frames vs ++ a)))
items-same (v ∷ vs) (w ∷ ws) p q a b n m e =
    let f = item-fits (p v (Memᴰ.head refl)) in
    let g = item-fits (q w (Memᴰ.head refl)) in
    let row : item_frame v ++ (item_frames vs ++ a) ≡ item_frame w ++ (item_frames ws ++ b) =
    sym (append_assoc (item_frame v) (item_frames vs) a) ∙ e ∙ append_assoc (item_frame w) (item_frames ws) b in
    let shape : holds v ≡ holds w = sym (item-shape v f (item_frames vs ++ a)) ∙ ap shape_of row ∙ item-shape w g (item_frames ws ++ b) in
    let rest : item_frames vs ++ a ≡ item_frames ws ++ b = sym (item-left v f (item_frames vs ++ a)) ∙ ap left row ∙ item-left w g (item_frames ws ++ b) in
    let same : v ≡ w = cc in
    let tail = items-same vs ws (λ u i. p u (Memᴰ.tail i)) (λ u i. q u (Memᴰ.tail i)) a b n m rest in
    (both same tail.0, tail.1)
  where
    both : {v w : Item} {vs ws : List Item} → v ≡ w → vs ≡ ws → v ∷ vs ≡ w ∷ ws
    both e f = cc

-- ---- the keys

-- behind the values a key opens or closes
no_item : {n : ℕ} {b : Forest} → Allowed n b → (t : List ℕ) → NoItem (forest_frames b ++ (close_frame ++ t))
unfolding forest_frames
no_item allowed-none t v e = let z = sym (close-shape t) ∙ e in let y : ◌≡◌ {A = ℕ} 0 1 = cc in omega arith
no_item (allowed-more {s = s} {x = x} {vs = vs} {b = b} {r = r} k a c) t v e =
    let u = item_frames vs ++ (forest_frames b ++ (close_frame ++ (forest_frames r ++ (close_frame ++ t)))) in
    let z = sym (key-shape s x (of-key k) u) ∙ ap shape_of (sym (in_a_row s x vs b r (close_frame ++ t))) ∙ e in
    let y : ◌≡◌ {A = ℕ} 0 1 = cc in omega arith

forests-same : {n m : ℕ} {f g : Forest} → Allowed n f → Allowed m g → (t u : List ℕ) → forest_frames f ++ (close_frame ++ t) ≡ forest_frames g ++ (close_frame ++ u) → (f ≡ g) × (t ≡ u)
unfolding forest_frames
forests-same allowed-none allowed-none t u e = (refl, sym (close-left t) ∙ ap left e ∙ close-left u)
forests-same allowed-none (allowed-more {s = s} {x = x} {vs = vs} {b = b} {r = r} k a c) t u e =
    let w = item_frames vs ++ (forest_frames b ++ (close_frame ++ (forest_frames r ++ (close_frame ++ u)))) in
    let z : closes ≡ opens s x = sym (close-shape t) ∙ ap shape_of (e ∙ in_a_row s x vs b r (close_frame ++ u)) ∙ key-shape s x (of-key k) w in
    absurd (let y : ◌≡◌ {A = ℕ} 0 1 = cc in omega arith)
forests-same (allowed-more {s = s} {x = x} {vs = vs} {b = b} {r = r} k a c) allowed-none t u e =
    let w = item_frames vs ++ (forest_frames b ++ (close_frame ++ (forest_frames r ++ (close_frame ++ t)))) in
    let z : closes ≡ opens s x = sym (close-shape u) ∙ ap shape_of (sym e ∙ in_a_row s x vs b r (close_frame ++ t)) ∙ key-shape s x (of-key k) w in
    absurd (let y : ◌≡◌ {A = ℕ} 0 1 = cc in omega arith)
forests-same (allowed-more {s = s} {x = x} {vs = vs} {b = b} {r = r} k a c) (allowed-more {s = s'} {x = x'} {vs = vs'} {b = b'} {r = r'} k' a' c') t u e =
    let below = forest_frames b ++ (close_frame ++ (forest_frames r ++ (close_frame ++ t))) in
    let below' = forest_frames b' ++ (close_frame ++ (forest_frames r' ++ (close_frame ++ u))) in
    let row : key_frame s x ++ (item_frames vs ++ below) ≡ key_frame s' x' ++ (item_frames vs' ++ below') =
    sym (in_a_row s x vs b r (close_frame ++ t)) ∙ e ∙ in_a_row s' x' vs' b' r' (close_frame ++ u) in
    let shape : opens s x ≡ opens s' x' = sym (key-shape s x (of-key k) (item_frames vs ++ below)) ∙ ap shape_of row ∙ key-shape s' x' (of-key k') (item_frames vs' ++ below') in
    let rest : item_frames vs ++ below ≡ item_frames vs' ++ below' =
    sym (key_left s x (of-key k) (item_frames vs ++ below)) ∙ ap left row ∙ key_left s' x' (of-key k') (item_frames vs' ++ below') in
    let items = items-same vs vs' k.each k'.each below below' (no_item a (forest_frames r ++ (close_frame ++ t))) (no_item a' (forest_frames r' ++ (close_frame ++ u))) rest in
    let inner = forests-same a a' (forest_frames r ++ (close_frame ++ t)) (forest_frames r' ++ (close_frame ++ u)) items.1 in
    let beside = forests-same c c' t u inner.1 in
    (all shape items.0 inner.0 beside.0, beside.1)
  where
    all : {s s' : ℕ} {x x' : List ℕ} {vs vs' : List Item} {b b' r r' : Forest} → opens s x ≡ opens s' x' → vs ≡ vs' → b ≡ b' → r ≡ r'
        → more s x vs b r ≡ more s' x' vs' b' r'
    all h i j l = cc

-- the theorem: that forest is the only one
pub forest-unique : {f g : Forest} → OneRoot f → OneRoot g → forest_frames f ≡ forest_frames g → f ≡ g
forest-unique p q e = (forests-same p.allowed q.allowed [] [] (ap (λ (l : List ℕ). l ++ (close_frame ++ [])) e)).0
