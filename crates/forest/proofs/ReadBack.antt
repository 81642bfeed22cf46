-- The forest that a stream says: of the frames of a forest it is that forest.
use Prim.Native.Nat.{ℕ, zero, suc, ◌≤◌}
use native.Mathlib.Omega.{arith}
use mathlib.Core.Path.{◌≡◌, refl, sym, ap, ap₂, subst, ◌∙◌}
use mathlib.Core.Logic.{◌↔◌}
use mathlib.Core.List.{List, [], ◌∷◌, ◌++◌, append_assoc, append-nil, Memᴰ}
use lib.ListN.{length, length-append}
use Rattle.stream.specs.Stream.{close_frame}
use Rattle.forest.specs.Forest.{Item, Forest, none, more, key_frame, item_frame, item_frames, forest_frames}
use Rattle.forest.specs.Allowed.{AllBelow, ItemAllowed, KeyAllowed, Allowed, allowed-none, allowed-more, OneRoot}
use Rattle.forest.specs.Faults.{Shape, is_there, shape_of, Fine, stream_fault}
use Rattle.forest.specs.Parse.{Content, content, with_item, with_key, read_as, read_n, forest_in}
use Rattle.forest.proofs.Judge.{frame-some}
use Rattle.forest.proofs.Shapes.{key-length, key-shape, key_left, item-length, item-shape, item-left, close-shape, close-len, close-left, key_fits, item-fits}
use Rattle.forest.proofs.Written.{in_a_row, written-fine}
use Rattle.forest.proofs.Exactly.{built-exactly}

-- with enough turns
abbrev Reads : List ℕ → List Item → Forest → List ℕ → Type 0
Reads r vs f t = (n : ℕ) → length r ≤ n → read_n n r ≡ content vs f t

-- ---- where no frame comes

end_reads : Reads [] [] none []
unfolding read_n read_as shape_of is_there
end_reads zero l = refl
end_reads (suc n) l = refl

close-reads : (t : List ℕ) → Reads (close_frame ++ t) [] none t
unfolding read_n read_as
close-reads t zero l = let a = length-append close_frame t in let b = frame-some (close_frame ++ t) in let c = close-len t in absurd (omega arith)
close-reads t (suc n) l = ap₂ (λ (f : Shape) (u : List ℕ). read_as f (read_n n) u) (close-shape t) (close-left t)

-- ---- values, and then keys side by side

item-reads : (v : Item) → ItemAllowed v → (r : List ℕ) {vs : List Item} {f : Forest} {t : List ℕ} → Reads r vs f t → Reads (item_frame v ++ r) (v ∷ vs) f t
unfolding read_n read_as
item-reads v a r g zero l = let p = length-append (item_frame v) r in let q = item-length v in absurd (omega arith)
item-reads v a r g (suc n) l =
    let p = length-append (item_frame v) r in
    let q = item-length v in
    ap₂ (λ (w : Shape) (u : List ℕ). read_as w (read_n n) u) (item-shape v (item-fits a) r) (item-left v (item-fits a) r)
    ∙ ap (with_item v) (g n (omega arith))

items-read : (vs : List Item) → ((v : Item) → Memᴰ v vs → ItemAllowed v) → (r : List ℕ) {f : Forest} {t : List ℕ} → Reads r [] f t
    → Reads (item_frames vs ++ r) vs f t
unfolding item_frames
items-read [] each r g = g
items-read (v ∷ vs) each r {f} {t} g =
    subst (λ (u : List ℕ). Reads u (v ∷ vs) f t) (sym (append_assoc (item_frame v) (item_frames vs) r))
    (item-reads v (each v (Memᴰ.head refl)) (item_frames vs ++ r) (items-read vs (λ w m. each w (Memᴰ.tail m)) r g))

-- a key: what it holds, up to the bytes where those beside it start
key_reads : {s : ℕ} {x : List ℕ} {vs : List Item} {b f : Forest} {t : List ℕ} → KeyAllowed s x vs b → (r u : List ℕ) → length u ≤ length r → Reads r vs b u
    → Reads u [] f t → Reads (key_frame s x ++ r) [] (more s x vs b f) t
unfolding read_n read_as
key_reads {s = s} {x = x} k r u h c d zero l = let p = length-append (key_frame s x) r in let q = key-length s x in absurd (omega arith)
key_reads {s = s} {x = x} k r u h c d (suc n) l =
    let p = length-append (key_frame s x) r in
    let q = key-length s x in
    let fits = key_fits k.stamp-fits k.name in
    let inner = c n (omega arith) in
    ap₂ (λ (w : Shape) (i : List ℕ). read_as w (read_n n) i) (key-shape s x fits r) (key_left s x fits r)
    ∙ ap₂ (with_key s x) inner (ap (λ (w : Content). read_n n w.left) inner ∙ d n (omega arith))

keys-read : {m : ℕ} {f : Forest} → Allowed m f → (r : List ℕ) {t : List ℕ} → Reads r [] none t → Reads (forest_frames f ++ r) [] f t
unfolding forest_frames
keys-read allowed-none r g = g
keys-read (allowed-more {s = s} {x = x} {vs = vs} {b = b} {r = f} k a c) r {t} g =
    let beside = forest_frames f ++ r in
    let below = forest_frames b ++ (close_frame ++ beside) in
    let p = length-append (item_frames vs) below in
    let q = length-append (forest_frames b) (close_frame ++ beside) in
    let o = length-append close_frame beside in
    subst (λ (u : List ℕ). Reads u [] (more s x vs b f) t) (sym (in_a_row s x vs b f r))
    (key_reads k (item_frames vs ++ below) beside (omega arith)
    (items-read vs k.each below (keys-read a (close_frame ++ beside) (close-reads beside)))
    (keys-read c r g))

-- ---- the whole stream

pub read-written : (f : Forest) → OneRoot f → forest_in (forest_frames f) ≡ f
unfolding forest_in
read-written f o =
    let e = append-nil (forest_frames f) in
    let l = ap length e in
    ap (λ (u : List ℕ). (read_n (length (forest_frames f)) u).keys) (sym e)
    ∙ ap (λ (c : Content). c.keys) (keys-read o.allowed [] end_reads (length (forest_frames f)) (omega arith))

pub read_as_lem : {s : List ℕ} (f : Forest) → s ≡ forest_frames f → OneRoot f → forest_in s ≡ f
read_as_lem f e o = ap forest_in e ∙ read-written f o

-- the theorem: a stream has no fault exactly when it is the frames of the forest that it says, and that one is allowed and has one root
pub read-exactly : (s : List ℕ) → AllBelow 256 s → (stream_fault s ≡ Fine) ↔ ((s ≡ forest_frames (forest_in s)) × OneRoot (forest_in s))
read-exactly s bytes = (
  λ e.
      let x = (built-exactly s bytes).0 e in
      let same = read_as_lem x.0 x.1 x.2 in
      (x.1 ∙ ap forest_frames (sym same), subst OneRoot (sym same) x.2),
  λ w. ap (λ (u : List ℕ). stream_fault u) w.0 ∙ written-fine (forest_in s) w.1,
)
