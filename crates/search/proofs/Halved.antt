-- What a halving comes to. Where all before a cut say Right and all behind it Left, it is what the cut stops with, or Missing where the cut says Left or
-- is the end.
use Prim.Native.Nat.{ℕ, zero, suc, ◌-◌, ◌^◌, ◌<◌, ◌≤◌}
use native.Mathlib.Nat.{pow-suc}
use native.Mathlib.Omega.{arith}
use mathlib.Core.Path.{◌≡◌, refl, sym, ap, ◌∙◌, subst}
use mathlib.Core.Bool.{Bool, true, false, cond}
use mathlib.Core.List.{List, [], ◌∷◌, Memᴰ}
use lib.Dec.{ltb}
use lib.ListN.{length, get_or}
use borrow.Author.Tests.{ltb-true, ltb-false}
use Rattle.records.proofs.Elements.{at_in}
use Rattle.search.specs.declared.Turn.{Turn}
use Rattle.search.specs.declared.Turn.TheVariants.{Left, Right, Stop}
use Rattle.search.specs.Quick.{turned_by, middle, halve, halving}
use Rattle.fields.specs.declared.Flaw.{Flaw}
use Rattle.fields.specs.declared.Offset.{Offset}
use Rattle.std.specs.Prelude.{None, Ok, Option, Result}

-- what the cut p itself says, before the end hi
pub data AtCut (ask : ℕ → Turn) (hi p : ℕ) : Result (Option Offset) Flaw → Type 0 where
  stops : {a : Result (Option Offset) Flaw} → p < hi → ask p ≡ Stop a → AtCut ask hi p a
  turns : p < hi → ask p ≡ Left → AtCut ask hi p (Ok None)
  ends : p ≡ hi → AtCut ask hi p (Ok None)

-- all before the cut say Right, all behind it Left
pub record Cut (ask : ℕ → Turn) (lo hi p : ℕ) (a : Result (Option Offset) Flaw) : Type 0 where
  pub low : lo ≤ p
  pub before : (i : ℕ) → lo ≤ i → i < p → ask i ≡ Right
  pub behind : (i : ℕ) → p < i → i < hi → ask i ≡ Left
  pub at_cut : AtCut ask hi p a

module _ (ask : ℕ → Turn) where
  -- with nothing left there is nothing to stop at
  nothing : (lo hi p : ℕ) {a : Result (Option Offset) Flaw} → hi ≤ lo → lo ≤ p → AtCut ask hi p a → (Ok None) ≡ a
  nothing lo hi p e l (stops q s) = absurd (omega arith)
  nothing lo hi p e l (turns q s) = refl
  nothing lo hi p e l (ends q) = refl

  -- the turn at the middle m, where the halves answer as the whole
  module _ (lo hi p : ℕ) {a : Result (Option Offset) Flaw} (c : Cut ask lo hi p a) (m : ℕ) (from : lo ≤ m) (to : m < hi) where
    -- the cut stands behind it
    go_right : m < p → Cut ask (suc m) hi p a
    go_right q = record { low = omega arith; before = λ i r s. c.before i (omega arith) s; behind = c.behind; at_cut = c.at_cut }

    -- the cut stands before it
    go_left : p < m → Cut ask lo m p a
    go_left q = record { low = c.low; before = c.before; behind = λ i r s. c.behind i r (omega arith); at_cut = at c.at_cut }
      where
        at : {b : Result (Option Offset) Flaw} → AtCut ask hi p b → AtCut ask m p b
        at (stops r s) = stops q s
        at (turns r s) = turns q s
        at (ends r) = absurd (omega arith)

    -- it is the cut, and says Left: then it is the end of the left half
    go-end : m ≡ p → Cut ask lo m m (Ok None)
    go-end q = record { low = from; before = λ i r s. c.before i r (omega arith); behind = λ i r s. absurd (omega arith); at_cut = ends refl }

    -- so a turn there answers, if the half that it turns to does
    module _ (l r : Result (Option Offset) Flaw) (right : m < p → r ≡ a) (left : p < m → l ≡ a) (end : m ≡ p → l ≡ Ok None) where
      at-middle : {b : Result (Option Offset) Flaw} → m ≡ p → AtCut ask hi p b → turned_by (ask m) l r ≡ b
      at-middle q (stops s e) = rw (q, e)
      at-middle q (turns s e) = ap (λ (t : Turn). turned_by t l r) (ap ask q ∙ e) ∙ end q
      at-middle q (ends e) = absurd (omega arith)

      turn : turned_by (ask m) l r ≡ a
      turn = by (ltb m p) refl (ltb p m) refl
        where
          by : (t : Bool) → ltb m p ≡ t → (u : Bool) → ltb p m ≡ u → turned_by (ask m) l r ≡ a
          by true e u f = rw (c.before m from (ltb-true m p e)) (right (ltb-true m p e))
          by false e true f = rw (c.behind m (ltb-true p m f) to) (left (ltb-true p m f))
          by false e false f = at-middle (omega (arith, ltb-false m p e, ltb-false p m f)) c.at_cut

  pub halved : (n lo hi p : ℕ) {a : Result (Option Offset) Flaw} → hi - lo < 2 ^ n → Cut ask lo hi p a → halve n ask lo hi ≡ a
  unfolding halve
  halved zero lo hi p h c = nothing lo hi p (omega arith) c.low c.at_cut
  halved (suc n) lo hi p {a} h c =
      by (λ u v. halved n (suc (middle lo hi)) hi p u v) (λ k b u v. halved n lo (middle lo hi) k u v) (ltb lo hi) refl
    where
      by : (hi - suc (middle lo hi) < 2 ^ n → Cut ask (suc (middle lo hi)) hi p a → halve n ask (suc (middle lo hi)) hi ≡ a)
          → ((k : ℕ) (b : Result (Option Offset) Flaw) → middle lo hi - lo < 2 ^ n → Cut ask lo (middle lo hi) k b → halve n ask lo (middle lo hi) ≡ b)
          → (t : Bool) → ltb lo hi ≡ t
          → cond t (turned_by (ask (middle lo hi)) (halve n ask lo (middle lo hi)) (halve n ask (suc (middle lo hi)) hi)) (Ok None) ≡ a
      by right left false e = nothing lo hi p (ltb-false lo hi e) c.low c.at_cut
      by right left true e =
          let some = ltb-true lo hi e in
          let twice = pow-suc 2 n in
          let m = middle lo hi in
          let from : lo ≤ m = omega arith in
          let to : m < hi = omega arith in
          turn lo hi p c m from to (halve n ask lo m) (halve n ask (suc m) hi) (λ q. right (omega arith) (go_right lo hi p c m from to q))
          (λ q. left p a (omega arith) (go_left lo hi p c m from to q)) (λ q. left m (Ok None) (omega arith) (go-end lo hi p c m from to q))

-- Of a list: those before the cut say Right, those behind it Left.
pub data Parted {A : Type 0} (ask : A → Turn) : List A → Result (Option Offset) Flaw → Type 0 where
  on : {x : A} {xs : List A} {a : Result (Option Offset) Flaw} → ask x ≡ Right → Parted ask xs a → Parted ask (x ∷ xs) a
  stop : {x : A} {xs : List A} {a : Result (Option Offset) Flaw} → ask x ≡ Stop a → ((y : A) → Memᴰ y xs → ask y ≡ Left) → Parted ask (x ∷ xs) a
  gap : {xs : List A} → ((y : A) → Memᴰ y xs → ask y ≡ Left) → Parted ask xs (Ok None)

-- where that is what a search answers
pub parted-as : {A : Type 0} {ask : A → Turn} {xs : List A} {a b : Result (Option Offset) Flaw} → b ≡ a → Parted ask xs a → Parted ask xs b
parted-as {ask = ask} {xs = xs} e p = subst (λ (w : Result (Option Offset) Flaw). Parted ask xs w) (sym e) p

module _ {A : Type 0} (ask : A → Turn) (none : A) where
  abbrev at : List A → ℕ → Turn
  at xs i = ask (get_or xs i none)

  abbrev CutIn : List A → ℕ → Result (Option Offset) Flaw → Type 0
  CutIn xs p a = Cut (at xs) 0 (length xs) p a

  -- one that says Right in front
  cut_on : (x : A) (xs : List A) (p : ℕ) {a : Result (Option Offset) Flaw} → ask x ≡ Right → CutIn xs p a → CutIn (x ∷ xs) (suc p) a
  cut_on x xs p e c = record { low = omega arith; before = before; behind = behind; at_cut = at_cut c.at_cut }
    where
      before : (i : ℕ) → 0 ≤ i → i < suc p → at (x ∷ xs) i ≡ Right
      before zero l m = e
      before (suc i) l m = c.before i (omega arith) (omega arith)

      behind : (i : ℕ) → suc p < i → i < suc (length xs) → at (x ∷ xs) i ≡ Left
      behind zero l m = absurd (omega arith)
      behind (suc i) l m = c.behind i (omega arith) (omega arith)

      at_cut : {b : Result (Option Offset) Flaw} → AtCut (at xs) (length xs) p b → AtCut (at (x ∷ xs)) (suc (length xs)) (suc p) b
      at_cut (stops q s) = stops (omega arith) s
      at_cut (turns q s) = turns (omega arith) s
      at_cut (ends q) = ends (ap suc q)

  all_left : (xs : List A) → ((y : A) → Memᴰ y xs → ask y ≡ Left) → (i : ℕ) → i < length xs → at xs i ≡ Left
  all_left xs f i m = f (get_or xs i none) (at_in xs i none m)

  cut-stop : (x : A) (xs : List A) {a : Result (Option Offset) Flaw} → ask x ≡ Stop a → ((y : A) → Memᴰ y xs → ask y ≡ Left) → CutIn (x ∷ xs) 0 a
  cut-stop x xs e f = record { low = omega arith; before = λ i l m. absurd (omega arith); behind = behind; at_cut = stops (omega arith) e }
    where
      behind : (i : ℕ) → 0 < i → i < suc (length xs) → at (x ∷ xs) i ≡ Left
      behind zero l m = absurd (omega arith)
      behind (suc i) l m = all_left xs f i (omega arith)

  cut-gap : (xs : List A) → ((y : A) → Memᴰ y xs → ask y ≡ Left) → CutIn xs 0 (Ok None)
  cut-gap xs f = record { low = omega arith; before = λ i l m. absurd (omega arith); behind = λ i l m. all_left xs f i m; at_cut = end xs f }
    where
      end : (ys : List A) → ((y : A) → Memᴰ y ys → ask y ≡ Left) → AtCut (at ys) (length ys) 0 (Ok None)
      end [] g = ends refl
      end (y ∷ ys) g = turns (omega arith) (g y (Memᴰ.head refl))

  cut_of : {xs : List A} {a : Result (Option Offset) Flaw} → Parted ask xs a → (p : ℕ) × CutIn xs p a
  cut_of (on {x = x} {xs = xs} e c) = let r = cut_of c in (suc r.0, cut_on x xs r.0 e r.1)
  cut_of (stop {x = x} {xs = xs} e f) = (0, cut-stop x xs e f)
  cut_of (gap {xs = xs} f) = (0, cut-gap xs f)

  -- 16 turns are enough, because counts are below 2^16
  pub halved-list : (xs : List A) {a : Result (Option Offset) Flaw} → length xs < 65536 → Parted ask xs a → halving ask none xs ≡ a
  unfolding halving
  halved-list xs few c = let r = cut_of c in halved (at xs) 16 0 (length xs) r.0 (omega arith) r.1
