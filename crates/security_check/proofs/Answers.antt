-- What the entry's ways out come to.
use Rattle.std.proofs.Common.{◌≡◌, ℕ, ◌*◌, ◌/◌, ◌%◌, ◌^◌, ◌<◌, ◌≤◌, true, false, List, [], ◌∷◌, length, drop, replicate, sym, refl, ap, ◌∙◌, arith, length-append, length-drop, drop_at}
use mathlib.Core.List.{Memᴰ}
use lib.ListN.{length-replicate}
use Rattle.fields.specs.declared.Flaw.{Flaw}
use Rattle.fields.specs.declared.Offset.{Offset}
use Rattle.fields.specs.declared.Refusal.{Refusal}
use Rattle.fields.specs.Faults.{◌next◌, refusal_of, Verdict}
use Rattle.fields.specs.Charges.{Charge, Free, ◌after◌}
use Rattle.bitmap.specs.Bits.{zeros}
use Rattle.cells.specs.Map.{map_after}
use Rattle.cells.specs.Terms.{Data}
use Rattle.cells.specs.Tiling.{layout, survey_of}
use Rattle.cells.proofs.Cleared.{over}
use Rattle.cells.proofs.Naming.{sound-names}
use Rattle.cells.specs.Rule.{Map}
use Rattle.records.specs.Keys.{security_of}
use Rattle.security_pass.specs.Counting.{sought_in}
use Rattle.security.specs.Items.{is_item, ring_fault, ring_of, ring_steps, off_charge, security_charge}
use Rattle.security.proofs.Items.{item-facts, item-below}
use Rattle.security.proofs.Ring.{whole-ring}
use Rattle.security_check.specs.Terms.{summed, sum_over, Rung, marked, Complete, refused_at, answer_of, seeking, sought_charge}
use Rattle.security_check.proofs.Counts.{sum_is, within-most, within, first-in, rest_in}
use Rattle.security_check.proofs.Bits.{marked-length, marked-beyond, Placed, sought-off}
use Rattle.cells.specs.declared.Tally.{Tally}
use Rattle.std.specs.Prelude.{Err, None, Ok, Option, Result, Some}

-- ---- the ring

pub ring-flawed : (v : Verdict) (n : ℕ) {f : Flaw} → Err f ≡ summed v n → v ≡ Err f
ring-flawed (Ok tt) n e = absurd (let z : ◌≡◌ {A = ℕ} 0 1 = cc in omega arith)
ring-flawed (Err g) n e = cc

pub ring-summed : (v : Verdict) (n : ℕ) {s : ℕ} → Ok s ≡ summed v n → (v ≡ Ok tt) × (s ≡ n % 2 ^ 64)
ring-summed (Ok tt) n e = (refl, cc)
ring-summed (Err g) n e = absurd (let z : ◌≡◌ {A = ℕ} 0 1 = cc in omega arith)

-- the items of a sound ring, where they lie
pub rung-placed : (d : List ℕ) (first : Offset) → Rung d first → Placed d (ring_of d first (ring_steps d) first)
rung-placed d first r =
    record {
      below = λ o i. item-below d r.map o (there o i);
      eights = λ o i. (sound-names Map d r.map o (item-facts d r.map o (there o i)).cell).eights;
    }
  where
    there : (o : Offset) → Memᴰ o (ring_of d first (ring_steps d) first) → is_item d r.map o ≡ true
    there o i = ((whole-ring d r.map first r.keys r.item r.sound).each o i).0

-- ---- the map

module _ (d m : List ℕ) (fits : Data d m) where
  pub map-room : length d / 64 ≤ length m
  map-room = omega (arith, fits.room)

  pub map_whole : length d ≤ length d / 64 * 64
  map_whole = omega (arith, fits.whole.pages)

  pub zeros-length : length (zeros (length d / 64) m) ≡ length m
  unfolding zeros
  zeros-length = simp (length-append, length-replicate, length-drop) (let h = map-room in omega arith)

  zeros-beyond : drop (length d / 64) (zeros (length d / 64) m) ≡ drop (length d / 64) m
  unfolding zeros
  zeros-beyond = drop_at (replicate (length d / 64) 0) (drop (length d / 64) m) (length d / 64) (length-replicate (length d / 64) 0)

  module _ (first : Offset) (r : Rung d first) where
    fits-map : (o : Offset) → Memᴰ o (ring_of d first (ring_steps d) first) → o.0 / 8 < 8 * length (zeros (length d / 64) m)
    fits-map o i = let l = (rung-placed d first r).below o i in rw zeros-length (let h = map_whole in let g = map-room in omega arith)

    pub bits-length : length (marked (ring_of d first (ring_steps d) first) (zeros (length d / 64) m)) ≡ length m
    bits-length = marked-length (ring_of d first (ring_steps d) first) (zeros (length d / 64) m) fits-map ∙ zeros-length

    module _ {z : List ℕ} (k : z ≡ zeros (length d / 64) m) {w : List ℕ} (q : w ≡ marked (ring_of d first (ring_steps d) first) z) where
      w-is : w ≡ marked (ring_of d first (ring_steps d) first) (zeros (length d / 64) m)
      w-is = q ∙ ap (marked (ring_of d first (ring_steps d) first)) k

      -- after another survey the map is as it was
      pub map-restored : Complete d m → {s : Result Tally Flaw} {x : List ℕ} → s ≡ survey_of (layout d 0) 0 0 0 → x ≡ map_after d s w → x ≡ m
      map-restored e {s} g h =
          h
          ∙ ap (λ (t : Result Tally Flaw). map_after d t w) g
          ∙ over d (survey_of (layout d 0) 0 0 0) w m
          (ap (drop (length d / 64)) w-is
          ∙ marked-beyond (length d / 64) (ring_of d first (ring_steps d) first) (zeros (length d / 64) m)
          (λ o i. let l = (rung-placed d first r).below o i in let u = map_whole in omega arith)
          ∙ zeros-beyond)
          ∙ e

      pub key-sought : (ks : List Offset) {s : Option Offset} → s ≡ sought_in d w seeking ks → sought_charge s ≡ off_charge d (ring_of d first (ring_steps d) first) ks
      key-sought ks e =
          ap sought_charge (e ∙ ap (λ (l : List ℕ). sought_in d l seeking ks) w-is)
          ∙ sought-off d m (ring_of d first (ring_steps d) first) (length d / 64) (rung-placed d first r) map_whole map-room zeros-length ks

-- ---- every key on the ring

off-free : (d : List ℕ) (ks os : List Offset) → within d os ks ≡ length ks → off_charge d os ks ≡ Free
unfolding off_charge ◌after◌
off-free d [] os e = refl
off-free d (k ∷ ks) os e = rw (first-in d k ks os e, off-free d ks os (rest_in d k ks os e))

module _ (d m : List ℕ) (root : Offset) (ks : List Offset) where
  pub no_item : {o : Offset} → o ≡ security_of d root → is_item d m o ≡ false → refused_at root root ≡ answer_of (security_charge d m root ks)
  unfolding security_charge ◌after◌ ◌next◌
  no_item q e = let f : is_item d m (security_of d root) ≡ false = rw (← q) e in rw f

  module _ {o : Offset} (q : o ≡ security_of d root) (i : is_item d m o ≡ true) where
    same-ring : {v : Verdict} → ring_fault d m ks o (ring_steps d) o ≡ v → ring_fault d m ks (security_of d root) (ring_steps d) (security_of d root) ≡ v
    same-ring e = rw (← q) e

    pub at-fault : {f : Flaw} {r : Refusal} → ring_fault d m ks o (ring_steps d) o ≡ Err f → r ≡ refusal_of root f
        → Err r ≡ answer_of (security_charge d m root ks)
    unfolding security_charge ◌after◌ ◌next◌
    at-fault e z =
        let g : is_item d m (security_of d root) ≡ true = rw (← q) i in
        let h = same-ring e in
        ap (λ (x : Refusal). Err x) z ∙ rw (g, h)

    module _ (e : ring_fault d m ks o (ring_steps d) o ≡ Ok tt) where
      pub by-keys : answer_of (off_charge d (ring_of d o (ring_steps d) o) ks) ≡ answer_of (security_charge d m root ks)
      unfolding security_charge ◌after◌ ◌next◌
      by-keys =
          let g : is_item d m (security_of d root) ≡ true = rw (← q) i in
          let h = same-ring e in
          rw (g, h, q)

      pub all-on : length ks < 4294967296 → {n s : ℕ} → n ≡ length ks → s ≡ sum_over d ks (ring_of d o (ring_steps d) o) % 2 ^ 64 → s ≡ n
          → (Ok tt) ≡ answer_of (security_charge d m root ks)
      all-on few {n} {s} p t z =
          let once = (whole-ring d m o ks i e).once in
          let a = sum_is d ks (ring_of d o (ring_steps d) o) once in
          let b = within-most d ks (ring_of d o (ring_steps d) o) in
          let c : within d (ring_of d o (ring_steps d) o) ks ≡ length ks = omega arith in
          ap answer_of (sym (off-free d ks (ring_of d o (ring_steps d) o) c)) ∙ by-keys

-- ---- what the pass that seeks answers

pub seek-none : {s : Option Offset} (a : Charge) → s ≡ None → sought_charge s ≡ a → (Ok tt) ≡ answer_of a
seek-none a e q = ap answer_of (sym (ap sought_charge e) ∙ q)

pub seek-at : {s : Option Offset} {k : Offset} (a : Charge) → s ≡ Some k → sought_charge s ≡ a → refused_at k k ≡ answer_of a
seek-at a e q = ap answer_of (sym (ap sought_charge e) ∙ q)
