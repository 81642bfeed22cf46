-- On any bytes: a class name or a descriptor that is answered lies in the hive, and every refusal of the two calls says why.
use Prim.Native.Nat.{ℕ, ◌+◌, ◌≤◌}
use native.Mathlib.Omega.{arith}
use mathlib.Core.Path.{◌≡◌, refl, sym, ◌∙◌}
use mathlib.Core.Bool.{Bool, true, false, cond}
use mathlib.Core.List.{List, []}
use lib.Dec.{eqb}
use lib.ListN.{length}
use Rattle.fields.specs.declared.Flaw.{Flaw}
use Rattle.fields.specs.declared.Offset.{Offset}
use Rattle.fields.specs.declared.Refusal.{Refusal}
use Rattle.fields.specs.Faults.{no_key, refusal_of, Because, Verdict}
use Rattle.fields.proofs.Every.{Every, every-next}
use Rattle.fields.proofs.Firsts.{both}
use Rattle.base.specs.Block.{bins_data, base_fault}
use Rattle.base.proofs.Refusals.{base-refuses}
use Rattle.cells.specs.Rule.{Header}
use Rattle.cells.proofs.Parts.{place-room}
use Rattle.cells.proofs.Refusals.{Ruled, by-header}
use Rattle.records.specs.Keys.{security_of}
use Rattle.security.specs.Items.{item_of}
use Rattle.security.specs.Descriptor.{descriptor_fault, descriptor_place}
use Rattle.security.proofs.Descriptor.{descriptor-stands, descriptor-refuses}
use Rattle.values.specs.declared.ValueData.TheVariants.{OneCell}
use Rattle.values.specs.Segments.{room_fault, data_fault}
use Rattle.values.specs.Refused.{a_key, Fit}
use Rattle.values.proofs.Refusals.{key-fit, key-unfit, data-unfit}
use Rattle.values.proofs.Rooms.{roomy}
use Rattle.listing.specs.declared.Piece.{Piece}
use Rattle.listing.specs.Pieces.{given_fault, class_cell, class_length, class_where, class_below, class_after, class_answer, security_where, security_below, security_after, security_answer}
use Rattle.listing.specs.Refused.{of-base, of-record, of-named, OfFacts, OfClass, OfSecurity, as-facts, of-item}
use Rattle.std.specs.Prelude.{Err, None, Ok, Option, Result, Some}

-- ---- what is answered lies in the hive, so a host may read it there

class-where-at : (k : Offset) (v : Verdict) (x : Piece) {p : Piece} → class_where k v x ≡ Ok (Some p) → (v ≡ Ok tt) × (x ≡ p)
class-where-at k (Ok tt) x e = (refl, cc)
class-where-at k (Err f) x e = absurd (let z : ◌≡◌ {A = ℕ} 0 1 = cc in omega arith)

class-below-at : (t : Bool) (a : Result (Option Piece) Refusal) {p : Piece} → cond t (Ok None) a ≡ Ok (Some p) → a ≡ Ok (Some p)
class-below-at true a e = absurd (let z : ◌≡◌ {A = ℕ} 0 1 = cc in omega arith)
class-below-at false a e = e

class-after-at : (v : Verdict) (a : Result (Option Piece) Refusal) {p : Piece} → class_after v a ≡ Ok (Some p) → (v ≡ Ok tt) × (a ≡ Ok (Some p))
class-after-at (Ok tt) a e = (refl, e)
class-after-at (Err f) a e = absurd (let z : ◌≡◌ {A = ℕ} 0 1 = cc in omega arith)

security-where-at : (k : Offset) (v : Verdict) (x : Piece) {p : Piece} → security_where k v x ≡ Ok p → (v ≡ Ok tt) × (x ≡ p)
security-where-at k (Ok tt) x e = (refl, cc)
security-where-at k (Err f) x e = absurd (let z : ◌≡◌ {A = ℕ} 0 1 = cc in omega arith)

security-after-at : (v : Verdict) (a : Result Piece Refusal) {p : Piece} → security_after v a ≡ Ok p → (v ≡ Ok tt) × (a ≡ Ok p)
security-after-at (Ok tt) a e = (refl, e)
security-after-at (Err f) a e = absurd (let z : ◌≡◌ {A = ℕ} 0 1 = cc in omega arith)

module _ (h : List ℕ) (k : Offset) where
  abbrev d : List ℕ
  d = bins_data h

  abbrev cell : Offset
  cell = class_cell d k

  abbrev n : ℕ
  n = class_length d k

  abbrev item : Offset
  item = security_of d k

  pub class-lies : {p : Piece} → class_answer h k ≡ Ok (Some p) → p.at.0 + p.len ≤ length h
  unfolding class_answer class_below
  class-lies e =
      let a = class-after-at (given_fault h k) _ e in
      let w = class-where-at k (room_fault Header d [] cell n) _ (class-below-at (eqb n 0) _ a.1) in
      let r = roomy Header d [] cell n w.0 in
      rw (← w.1) (place-room cell 0 n h (both (base_fault h) _ a.0).0 (omega arith))

  pub descriptor-lies : {p : Piece} → security_answer h k ≡ Ok p → p.at.0 + p.len ≤ length h
  unfolding security_answer security_below descriptor_place
  descriptor-lies e =
      let a = security-after-at (given_fault h k) _ e in
      let w = security-where-at k (descriptor_fault Header d [] item) _ a.1 in
      let r = descriptor-stands Header d [] item w.0 in
      rw (← w.1) (place-room item 20 (item_of d item).size h (both (base_fault h) _ a.0).0 r.room)

  -- ---- refusals

  ruled : Ruled Header d []
  ruled = by-header d []

  -- those of the given key
  given-each : Every (OfFacts h k) (given_fault h k)
  given-each =
      every-next (OfFacts h k) (base_fault h) _ (λ f e. of-base (base-refuses h f e)) (λ a f e. of-record (key-unfit Header d [] ruled k f e))

  given-fit : given_fault h k ≡ Ok tt → Fit Header d a_key k
  given-fit e = key-fit Header d [] ruled k (both (base_fault h) _ e).1

  -- the room that a class name asks for is that of a value's data
  room-data : eqb n 0 ≡ false → room_fault Header d [] cell n ≡ data_fault Header d [] (OneCell cell n)
  unfolding data_fault
  room-data z = rw z

  given-class : Every (OfClass h k no_key) (given_fault h k)
  given-class =
      every-next (OfClass h k no_key) (base_fault h) _ (λ f e. of-base (base-refuses h f e)) (λ a f e. of-record (key-unfit Header d [] ruled k f e))

  module _ {r : Refusal} where
    class_of : (P : Offset → Flaw → Type 0) (v : Verdict) (x : Piece) → Every (P k) v → class_where k v x ≡ Err r → Because P r
    class_of P (Ok tt) x p q = absurd (let z : ◌≡◌ {A = ℕ} 0 1 = cc in omega arith)
    class_of P (Err g) x p q = (k, g, let z : refusal_of k g ≡ r = cc in sym z, p g refl)

    class-by : (P : Offset → Flaw → Type 0) (t : Bool) (a : Result (Option Piece) Refusal) → (t ≡ false → a ≡ Err r → Because P r)
        → cond t (Ok None) a ≡ Err r → Because P r
    class-by P true a p q = absurd (let z : ◌≡◌ {A = ℕ} 0 1 = cc in omega arith)
    class-by P false a p q = p refl q

    class-after : (P : Offset → Flaw → Type 0) (v : Verdict) (a : Result (Option Piece) Refusal) → Every (P no_key) v → (v ≡ Ok tt → a ≡ Err r → Because P r)
        → class_after v a ≡ Err r → Because P r
    class-after P (Ok tt) a p s q = s refl q
    class-after P (Err g) a p s q = (no_key, g, let z : refusal_of no_key g ≡ r = cc in sym z, p g refl)

    pub class-refuses : class_answer h k ≡ Err r → Because (OfClass h k) r
    unfolding class_answer class_below
    class-refuses =
        let P = OfClass h k in
        class-after P (given_fault h k) _ given-class
        (λ a. class-by P (eqb n 0) _
        (λ z. class_of P (room_fault Header d [] cell n) _
        (λ f e. of-named (given-fit a) (data-unfit Header d [] ruled (OneCell cell n) f (sym (room-data z) ∙ e)))))

    security-of : (P : Offset → Flaw → Type 0) (v : Verdict) (x : Piece) → Every (P k) v → security_where k v x ≡ Err r → Because P r
    security-of P (Ok tt) x p q = absurd (let z : ◌≡◌ {A = ℕ} 0 1 = cc in omega arith)
    security-of P (Err g) x p q = (k, g, let z : refusal_of k g ≡ r = cc in sym z, p g refl)

    security-after : (P : Offset → Flaw → Type 0) (v : Verdict) (a : Result Piece Refusal) → Every (P no_key) v → (v ≡ Ok tt → a ≡ Err r → Because P r)
        → security_after v a ≡ Err r → Because P r
    security-after P (Ok tt) a p s q = s refl q
    security-after P (Err g) a p s q = (no_key, g, let z : refusal_of no_key g ≡ r = cc in sym z, p g refl)

    pub security-refuses : security_answer h k ≡ Err r → Because (OfSecurity h k) r
    unfolding security_answer security_below
    security-refuses =
        let P = OfSecurity h k in
        security-after P (given_fault h k) _ (λ f e. as-facts (given-each f e))
        (λ a. security-of P (descriptor_fault Header d [] item) _ (λ f e. of-item (given-fit a) (descriptor-refuses Header d [] item ruled f e)))
