-- The loop that sets the bits of the ring's items: what is left of the ring, set on the map as it is, comes to the whole.
use Rattle.std.proofs.Common.{◌≡◌, ℕ, suc, ◌+◌, ◌-◌, ◌*◌, ◌/◌, ◌<◌, ◌≤◌, Bool, true, false, cond, List, [], ◌∷◌, length, sym, refl, ap, ◌∙◌, arith}
use Rattle.fields.specs.declared.Offset.{Offset}
use Rattle.bitmap.specs.Bits.{with_bit}
use Rattle.bitmap.proofs.Marks.{with-length}
use Rattle.cells.specs.Named.{data_at}
use Rattle.security.specs.Items.{is_item, item_of, closes_at, ring_fault, ring_of, ring_steps}
use Rattle.security.proofs.Items.{item-facts, item-below}
use Rattle.security.proofs.Ring.{Trail, start, step, trail-item, trail-few}
use Rattle.security_check.specs.Terms.{Rung, marked}
use Rattle.security_check.proofs.Rounds.{ring-on}
use Rattle.std.specs.Prelude.{Ok}

ring-step : (d : List ℕ) (first : Offset) (n f : ℕ) (o : Offset) → n ≡ suc f → ring_of d first n o ≡ o ∷ cond (closes_at d first o) [] (ring_of d first f (item_of d o).forward)
unfolding ring_of
ring-step d first n f o e = rw e

marked_step : (o : Offset) (os : List Offset) (m : List ℕ) → marked (o ∷ os) m ≡ marked os (with_bit m (o.0 / 8) true)
unfolding marked
marked_step o os m = refl

marked-none : (m : List ℕ) → marked [] m ≡ m
unfolding marked
marked-none m = refl

module _ (d : List ℕ) (first : Offset) (map₀ : List ℕ) where
  -- at an item, with so many met before it
  pub record Marking (map : List ℕ) (at : Offset) (met : ℕ) : Type 0 where
    pub rung : Rung d first
    pub passed : List Offset
    pub count : met ≡ length passed
    pub trail : Trail d rung.map first at passed
    pub sound : ring_fault d rung.map rung.keys first (length d - met) at ≡ Ok tt
    pub same : marked (ring_of d first (ring_steps d) first) map₀ ≡ marked (ring_of d first (length d - met) at) map
    pub size : length map ≡ length map₀
    pub space : length d ≤ length map₀ * 64

  pub marking-start : Rung d first → length d ≤ length map₀ * 64 → Marking map₀ first 0
  marking-start r s =
      let z : length d ≡ length d - 0 = omega arith in
      record {
        rung = r;
        passed = [];
        count = refl;
        trail = start r.item;
        sound = ap (λ (k : ℕ). ring_fault d r.map r.keys first k first) (sym z) ∙ r.sound;
        same = ap (λ (k : ℕ). marked (ring_of d first k first) map₀) z;
        size = refl;
        space = s;
      }

  module _ {map : List ℕ} {at : Offset} {met : ℕ} (g : Marking map at met) where
    pub marking-few : met < length d
    marking-few = let h = trail-few d g.rung.map first g.trail in omega (arith, g.count)

    pub marking-over : {A : Type 0} → length d ≤ met → A
    marking-over h = absurd (let z = marking-few in omega arith)

    item : is_item d g.rung.map at ≡ true
    item = trail-item d g.rung.map first g.trail

    pub marking-fits : 20 ≤ length (data_at d at)
    marking-fits = (item-facts d g.rung.map at item).fits

    pub marking-room : at.0 / 8 < 8 * length map
    marking-room = let h = item-below d g.rung.map at item in omega (arith, g.size, g.space)

    left : length d - met ≡ suc (length d - (met + 1))
    left = let h = marking-few in omega arith

    rest-is : (t : Bool) → closes_at d first at ≡ t
        → marked (ring_of d first (ring_steps d) first) map₀
        ≡ marked (cond t [] (ring_of d first (length d - (met + 1)) (item_of d at).forward)) (with_bit map (at.0 / 8) true)
    rest-is t e =
        g.same
        ∙ ap (λ (os : List Offset). marked os map) (ring-step d first (length d - met) (length d - (met + 1)) at left)
        ∙ marked_step at _ map
        ∙ ap (λ (b : Bool). marked (cond b [] (ring_of d first (length d - (met + 1)) (item_of d at).forward)) (with_bit map (at.0 / 8) true)) e

    module _ {map' : List ℕ} (q : map' ≡ with_bit map (at.0 / 8) true) where
      pub marking-done : closes_at d first at ≡ true → map' ≡ marked (ring_of d first (ring_steps d) first) map₀
      marking-done e = q ∙ sym (rest-is true e ∙ marked-none (with_bit map (at.0 / 8) true))

      pub marking-same : length map' ≡ length map₀
      marking-same = ap length q ∙ with-length map (at.0 / 8) marking-room true ∙ g.size

      pub marking-on : closes_at d first at ≡ false → Marking map' (item_of d at).forward (met + 1)
      marking-on e =
          let n = ring-on d g.rung.map g.rung.keys first (length d - (met + 1)) at
          (ap (λ (k : ℕ). ring_fault d g.rung.map g.rung.keys first k at) (sym left) ∙ g.sound) in
          record {
            rung = g.rung;
            passed = at ∷ g.passed;
            count = omega (arith, g.count);
            trail = step g.trail n.goes e;
            sound = n.rest e;
            same = rest-is false e ∙ ap (λ (m : List ℕ). marked (ring_of d first (length d - (met + 1)) (item_of d at).forward) m) (sym q);
            size = marking-same;
            space = g.space;
          }
