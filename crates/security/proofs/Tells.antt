-- Why the security items are charged, on bins data that are tiled, with their map.
use Prim.Native.Nat.{ℕ, zero, suc}
use mathlib.Core.Path.{◌≡◌, refl, ap, ◌∙◌}
use mathlib.Core.Bool.{Bool, true, false, ◌&&◌}
use mathlib.Core.Logic.{◌⊎◌, inl, inr, ⊎_elim}
use mathlib.Core.List.Memᴰ
use mathlib.Core.List.{List, [], ◌∷◌, Memᴰ}
use lib.Dec.{eqb}
use native.Mathlib.Omega.{arith}
use borrow.Author.Tests.{eq-eqb}
use Rattle.fields.specs.declared.Fault.TheVariants.{Security}
use Rattle.fields.specs.declared.Flaw.{Flaw}
use Rattle.fields.specs.declared.Offset.{Offset}
use Rattle.fields.specs.Faults.{flaw, unless}
use Rattle.fields.specs.Charges.{charge_of}
use Rattle.fields.proofs.Bools.{never}
use Rattle.fields.proofs.Every.{Every, every-sound, every-unless, every-next, every-cond}
use Rattle.fields.proofs.Firsts.{both, held}
use Rattle.fields.proofs.Charges.{clear_of, Charges, after-charges, flaw-charges}
use Rattle.cells.specs.Tiled.{BinsTile, Mapped}
use Rattle.records.specs.Keys.{security_of}
use Rattle.security.specs.Items.{is_item, item_of, has_room, is_linked, is_joined, named_by, link_fault, count_fault, item_fault, closes_at, ring_fault, ring_steps, is_among, off_charge, root_fault, root_ring, security_charge}
use Rattle.security.specs.Stands.{IsItem, Ring, closes, goes_on}
use Rattle.security.specs.Refused.{LinkStands, OnRing, the-first, the-next, OfSecurity, no_item, no_room, no-link, other-count, off-ring}
use Rattle.security.proofs.Items.{item-exactly, item-below, facts-room, facts-link, link-facts, joined-facts}
use Rattle.security.proofs.Ring.{sound-joined, whole-ring}
use Rattle.security.proofs.Exactly.{in-among, begun}
use Rattle.std.specs.Prelude.{Ok}

-- along a ring
ring-forward : {d : List ℕ} {first : Offset} {xs : List Offset} → Ring d first xs → (x : Offset) → Memᴰ x xs
    → Memᴰ (item_of d x).forward xs ⊎ ((item_of d x).forward ≡ first)
ring-forward {d} (closes {o} l) x k =
    ⊎_elim (λ (q : x ≡ o). inr (ap (λ (p : Offset). (item_of d p).forward) q ∙ l.forward)) (λ i. absurd (Memᴰ.not-nil i)) (Memᴰ.cases_cons k)
ring-forward {d} {first} (goes_on {o} {p} {os} l r) x k =
    ⊎_elim
    (λ (q : x ≡ o). inl (Memᴰ.tail (Memᴰ.head (ap (λ (y : Offset). (item_of d y).forward) q ∙ l.forward))))
    (λ i. ⊎_elim (λ j. inl (Memᴰ.tail j)) inr (ring-forward r x i))
    (Memᴰ.cases_cons k)

on-ring : {d : List ℕ} {first : Offset} {xs : List Offset} → Ring d first xs → Memᴰ first xs → {o : Offset} → OnRing d first o → Memᴰ o xs
on-ring r f (the-first i) = f
on-ring r f (the-next {o} t l) = ⊎_elim (λ j. j) (λ q. Memᴰ.cast q f) (ring-forward r o (on-ring r f t))

module _ (d m : List ℕ) (b : BinsTile d 0) (mapped : Mapped d m) (root : Offset) (ks : List Offset) where
  abbrev first : Offset
  first = security_of d root

  abbrev Why : Offset → Flaw → Type 0
  Why = OfSecurity d root ks

  -- an item that is no item
  lacking : (o : Offset) → is_item d m o ≡ false → IsItem d o → ⊥
  lacking o e i = never _ ((item-exactly d m o b mapped).1 i) e

  links : (o : Offset) → is_linked d m o ≡ true → LinkStands d o
  links o e = let l = link-facts d m o e in record { item = (item-exactly d m (item_of d o).forward b mapped).0 l.0; back = l.1 }

  unlinked : (o : Offset) → is_linked d m o ≡ false → LinkStands d o → ⊥
  unlinked o e l = never _ (facts-link d m o ((item-exactly d m (item_of d o).forward b mapped).1 l.item) l.back) e

  -- each test of an item
  item-tells : (o : Offset) → OnRing d first o → Every (Why root) (item_fault d m ks o)
  unfolding item_fault link_fault count_fault is_joined
  item-tells o r =
      every-next (Why root) (link_fault d m o) _
      (every-unless (Why root) (is_joined d m o) _ (λ e. by (has_room d o) refl e))
      (λ s. every-unless (Why root) (eqb (item_of d o).count (named_by d ks o)) _ (λ e. other-count r (λ c. never _ (eq-eqb _ _ c) e)))
    where
      by : (t : Bool) → has_room d o ≡ t → t && is_linked d m o ≡ false → Why root (flaw Security o)
      by false q e = no_room r (λ h. never _ (facts-room d o h) q)
      by true q e = no-link r (unlinked o e)

  ring-tells : (n : ℕ) (o : Offset) → OnRing d first o → Every (Why root) (ring_fault d m ks first n o)
  unfolding ring_fault
  ring-tells zero o r = every-sound (Why root)
  ring-tells (suc n) o r =
      every-next (Why root) (item_fault d m ks o) _ (item-tells o r)
      (λ s. every-cond (Why root) (closes_at d first o) _ _ (λ e. every-sound (Why root))
      (λ e. ring-tells n (item_of d o).forward (the-next r (links o (joined-facts d m o (sound-joined d m first ks o s)).1))))

  root-tells : Every (Why root) (root_fault d m root ks)
  root-tells =
      every-next (Why root) (unless (is_item d m first) (flaw Security root)) _
      (every-unless (Why root) (is_item d m first) _ (λ e. no_item (lacking first e)))
      (λ s. ring-tells (ring_steps d) first (the-first ((item-exactly d m first b mapped).0 (held (is_item d m first) _ s))))

  -- the keys, where the ring is sound
  off-tells : (xs : List Offset) → ((o : Offset) → OnRing d first o → Memᴰ o xs) → (js : List Offset)
      → ((k : Offset) → Memᴰ k js → Memᴰ k ks) → Charges Why (off_charge d xs js)
  unfolding off_charge
  off-tells xs f [] sub = λ r e. absurd (let z : ◌≡◌ {A = ℕ} 0 1 = cc in omega arith)
  off-tells xs f (k ∷ js) sub =
      after-charges Why _ _
      (flaw-charges Why k _ (every-unless (Why k) (is_among (security_of d k) xs) _
      (λ e. off-ring (sub k (Memᴰ.head refl)) (λ r. never _ (in-among _ _ (f _ r)) e))))
      (λ _. off-tells xs f js (λ j i. sub j (Memᴰ.tail i)))

  pub security-tells : Charges Why (security_charge d m root ks)
  unfolding security_charge
  security-tells =
      after-charges Why (charge_of root (root_fault d m root ks)) _ (flaw-charges Why root _ root-tells)
      (λ e. off-tells (root_ring d root) (held_by (clear_of root _ e)) ks (λ k i. i))
    where
      held_by : root_fault d m root ks ≡ Ok tt → (o : Offset) → OnRing d first o → Memᴰ o (root_ring d root)
      held_by e o r =
          let v = both (unless (is_item d m first) (flaw Security root)) _ e in
          let i = held (is_item d m first) _ v.0 in
          let w = whole-ring d m first ks i v.1 in
          let l = item-below d m first i in
          let s = begun d first (ring_steps d) (λ q. omega arith) in
          on-ring w.ring (rw s.1 (Memᴰ.head refl)) r
