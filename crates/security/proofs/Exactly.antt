-- The security items are charged with nothing exactly when they stand, on bins data that are tiled, with their map.
use Prim.Native.Nat.{ℕ, zero, suc, ◌≤◌}
use native.Mathlib.Omega.{arith}
use mathlib.Core.Path.{◌≡◌, refl, sym, ap, ◌∙◌, subst}
use mathlib.Core.Bool.{Bool, true, false, cond, ◌||◌}
use mathlib.Core.Logic.{◌↔◌, ⊎_elim}
use mathlib.Core.List.Memᴰ
use mathlib.Core.List.{List, [], ◌∷◌, Memᴰ}
use lib.Dec.{eqb}
use lib.ListN.{length}
use borrow.Author.Tests.{eqb-true, eqb-false, eq-eqb, ne_eqb}
use Rattle.fields.specs.declared.Fault.TheVariants.{Security}
use Rattle.fields.specs.declared.Offset.{Offset}
use Rattle.fields.specs.Faults.{flaw, unless, ◌next◌}
use Rattle.fields.specs.Charges.{Free, charge_of}
use Rattle.fields.proofs.Bools.{never}
use Rattle.fields.proofs.Firsts.{both, sound, held, holds}
use Rattle.fields.proofs.Charges.{both-free, free, clear_of}
use Rattle.cells.specs.Tiled.{BinsTile, Mapped}
use Rattle.records.specs.Keys.{security_of}
use Rattle.records.specs.Listed.{Once, cons}
use Rattle.records.proofs.Listed.{same-offset, pigeonhole}
use Rattle.security.specs.Items.{is_item, item_of, is_joined, named_by, link_fault, count_fault, item_fault, closes_at, ring_fault, ring_of, ring_steps, is_among, off_charge, root_fault, root_ring, security_charge}
use Rattle.security.specs.Stands.{ItemStands, Link, Ring, closes, goes_on, SecurityStands}
use Rattle.security.proofs.Items.{item-exactly, item-below, room-facts, facts-room, facts-link, joined-facts, facts-joined}
use Rattle.security.proofs.Ring.{whole-ring}
use Rattle.std.specs.Prelude.{Ok}

-- an offset is one of some items
pub among_in : (o : Offset) (is : List Offset) → is_among o is ≡ true → Memᴰ o is
unfolding is_among
among_in o [] e = absurd (never false e refl)
among_in o (i ∷ is) e = by (eqb o.0 i.0) refl e (among_in o is)
  where
    by : (t : Bool) → eqb o.0 i.0 ≡ t → t || is_among o is ≡ true → (is_among o is ≡ true → Memᴰ o is) → Memᴰ o (i ∷ is)
    by true q r rest = Memᴰ.head (same-offset o i (eqb-true _ _ q))
    by false q r rest = Memᴰ.tail (rest r)

pub in-among : (o : Offset) (is : List Offset) → Memᴰ o is → is_among o is ≡ true
unfolding is_among
in-among o [] k = absurd (Memᴰ.not-nil k)
in-among o (i ∷ is) k = by (eqb o.0 i.0) refl (in-among o is)
  where
    by : (t : Bool) → eqb o.0 i.0 ≡ t → (Memᴰ o is → is_among o is ≡ true) → t || is_among o is ≡ true
    by true q rest = refl
    by false q rest = ⊎_elim (λ (e : o ≡ i). absurd (eqb-false _ _ q (ap (λ (p : Offset). p.0) e))) rest (Memᴰ.cases_cons k)

-- a ring begins with its first item
pub begun : (d : List ℕ) (first : Offset) (n : ℕ) → (n ≡ 0 → ⊥) → (others : List Offset) × (ring_of d first n first ≡ first ∷ others)
unfolding ring_of
begun d first zero f = absurd (f refl)
begun d first (suc n) f = (cond (closes_at d first first) [] (ring_of d first n (item_of d first).forward), refl)

-- every key's offset is one of them
module _ (d : List ℕ) (items : List Offset) where
  pub all-on : (ks : List Offset) → off_charge d items ks ≡ Free → (k : Offset) → Memᴰ k ks → Memᴰ (security_of d k) items
  unfolding off_charge
  all-on [] e k i = absurd (Memᴰ.not-nil i)
  all-on (j ∷ ks) e k i =
      let b = both-free (charge_of j (unless (is_among (security_of d j) items) (flaw Security j))) _ e in
      let h = among_in _ _ (held (is_among (security_of d j) items) (flaw Security j) (clear_of j _ b.0)) in
      ⊎_elim (λ (q : k ≡ j). rw q h) (λ n. all-on ks b.1 k n) (Memᴰ.cases_cons i)

  pub none-off : (ks : List Offset) → ((k : Offset) → Memᴰ k ks → Memᴰ (security_of d k) items) → off_charge d items ks ≡ Free
  unfolding off_charge
  none-off [] f = refl
  none-off (k ∷ ks) f =
      free _ _ (ap (charge_of k) (holds {t = is_among (security_of d k) items} (flaw Security k) (in-among _ _ (f k (Memᴰ.head refl)))))
      (none-off ks (λ j i. f j (Memᴰ.tail i)))

module _ (d m : List ℕ) (b : BinsTile d 0) (mapped : Mapped d m) (ks : List Offset) where
  -- an item that passes its tests has room and the right count
  item-stands : (o : Offset) → is_item d m o ≡ true → item_fault d m ks o ≡ Ok tt → ItemStands d ks o
  unfolding item_fault link_fault count_fault
  item-stands o i e =
      let v = both (link_fault d m o) _ e in
      let j = joined-facts d m o (held (is_joined d m o) _ v.0) in
      record {
        item = (item-exactly d m o b mapped).0 i;
        room = room-facts d o j.0;
        count = eqb-true _ _ (held (eqb (item_of d o).count (named_by d ks o)) _ v.1);
      }

  -- and an item that stands, linked to another, passes them
  stands-item : {o p : Offset} → ItemStands d ks o → ItemStands d ks p → Link d o p → item_fault d m ks o ≡ Ok tt
  unfolding item_fault link_fault count_fault
  stands-item {o} {p} s t l =
      let i : is_item d m (item_of d o).forward ≡ true = rw l.forward ((item-exactly d m p b mapped).1 t.item) in
      let k : (item_of d (item_of d o).forward).backward ≡ o = rw l.forward l.backward in
      sound _ _ (holds {t = is_joined d m o} _ (facts-joined d m o (facts-room d o s.room) (facts-link d m o i k)))
      (holds {t = eqb (item_of d o).count (named_by d ks o)} _ (eq-eqb _ _ s.count))

  module _ (first : Offset) where
    closing : (o p : Offset) → (item_of d o).forward ≡ p → (p ≡ first) → closes_at d first o ≡ true
    unfolding closes_at
    closing o p e q = eq-eqb _ _ (ap (λ (x : Offset). x.0) (e ∙ q))

    going : (o p : Offset) → (item_of d o).forward ≡ p → (p ≡ first → ⊥) → closes_at d first o ≡ false
    unfolding closes_at
    going o p e f = ne_eqb _ _ (λ q. f (sym e ∙ same-offset _ _ q))

    -- a ring is walked to its end: its items, and no fault
    walked : (n : ℕ) (o : Offset) (os : List Offset) → length (o ∷ os) ≤ n → Ring d first (o ∷ os) → (Memᴰ first os → ⊥)
        → ItemStands d ks first → ((x : Offset) → Memᴰ x (o ∷ os) → ItemStands d ks x)
        → (ring_of d first n o ≡ o ∷ os) × (ring_fault d m ks first n o ≡ Ok tt)
    unfolding ring_of ring_fault ◌next◌
    walked zero o os h r f s each = absurd (omega arith)
    walked (suc n) o [] h (closes l) f s each =
        let e = closing o first l.forward refl in
        let i = stands-item (each o (Memᴰ.head refl)) s l in
        (rw e, rw (i, e))
    walked (suc n) o (p ∷ os) h (goes_on l r) f s each =
        let e = going o p l.forward (λ q. f (Memᴰ.head (sym q))) in
        let i = stands-item (each o (Memᴰ.head refl)) (each p (Memᴰ.tail (Memᴰ.head refl))) l in
        let w = walked n p os (omega arith) r (λ k. f (Memᴰ.tail k)) s (λ x k. each x (Memᴰ.tail k)) in
        (rw (e, l.forward, w.0), rw (i, e, l.forward) w.1)

  module _ (root : Offset) where
    abbrev first : Offset
    first = security_of d root

    to : security_charge d m root ks ≡ Free → SecurityStands d root ks
    unfolding security_charge
    to e =
        let c = both-free (charge_of root (root_fault d m root ks)) _ e in
        let v = both (unless (is_item d m first) (flaw Security root)) _ (clear_of root _ c.0) in
        let i = held (is_item d m first) _ v.0 in
        let w = whole-ring d m first ks i v.1 in
        let l = item-below d m first i in
        let s = begun d first (ring_steps d) (λ q. omega arith) in
        record {
          items = root_ring d root;
          others = s.0;
          begins = s.1;
          once = w.once;
          each = λ o k. let x = w.each o k in item-stands o x.0 x.1;
          ring = w.ring;
          all = all-on d (root_ring d root) ks c.1;
        }

    alone : {os : List Offset} → Once (first ∷ os) → Memᴰ first os → ⊥
    alone (cons f r) k = f k

    of-ring : (others : List Offset) → Once (first ∷ others) → ((o : Offset) → Memᴰ o (first ∷ others) → ItemStands d ks o)
        → Ring d first (first ∷ others) → ((k : Offset) → Memᴰ k ks → Memᴰ (security_of d k) (first ∷ others))
        → security_charge d m root ks ≡ Free
    unfolding security_charge
    of-ring others once each ring all =
        let s = each first (Memᴰ.head refl) in
        let i = (item-exactly d m first b mapped).1 s.item in
        let few = pigeonhole (length d) (first ∷ others) once (λ x k. item-below d m x ((item-exactly d m x b mapped).1 (each x k).item)) in
        let w = walked first (ring_steps d) first others few ring (alone once) s each in
        free _ _
        (ap (charge_of root) (sound _ _ (holds {t = is_item d m first} (flaw Security root) i) w.1))
        (none-off d (root_ring d root) ks (λ k j. rw w.0 (all k j)))

    of : SecurityStands d root ks → security_charge d m root ks ≡ Free
    of s =
        of-ring s.others (subst Once s.begins s.once)
        (λ o k. s.each o (subst (Memᴰ o) (sym s.begins) k))
        (subst (Ring d first) s.begins s.ring)
        (λ k j. subst (Memᴰ (security_of d k)) s.begins (s.all k j))

    -- the whole
    pub security-exactly : (security_charge d m root ks ≡ Free) ↔ SecurityStands d root ks
    security-exactly = (to, of)
