-- The calls for a key's class name and its descriptor: a law for each way out.
use Prim.Native.Nat.{ℕ, ◌≤◌}
use native.Mathlib.Omega.{arith}
use mathlib.Core.Path.{◌≡◌, ap}
use mathlib.Core.List.{List, []}
use lib.ListN.{length}
use borrow.Author.Tests.{eq-eqb, ne_eqb}
use Rattle.fields.specs.declared.Flaw.{Flaw}
use Rattle.fields.specs.declared.Offset.{Offset}
use Rattle.fields.specs.declared.Place.{Place}
use Rattle.fields.specs.Number.{u16_at, u32_at}
use Rattle.fields.specs.Faults.{no_key, refusal_of, Verdict}
use Rattle.fields.proofs.Firsts.{on, stop, both}
use Rattle.base.specs.Block.{bins_data, base_fault}
use Rattle.cells.specs.Rule.{Header}
use Rattle.cells.specs.Named.{data_at, part_in}
use Rattle.cells.proofs.Parts.{part_length, u16-part}
use Rattle.records.specs.declared.Key.{Key}
use Rattle.records.specs.Keys.{key_fault, key_of, keyed}
use Rattle.records.proofs.LawsKey.{key-room}
use Rattle.records.proofs.LawsAnswer.{keyed-whole, keyed-flawed}
use Rattle.security.specs.declared.Item.{Item}
use Rattle.security.specs.Items.{item_of}
use Rattle.security.specs.Descriptor.{descriptor_fault, described, descriptor_place}
use Rattle.security.proofs.Descriptor.{described-whole, described-flawed}
use Rattle.values.specs.declared.ValueData.TheVariants.{OneCell}
use Rattle.values.specs.Segments.{data_fault}
use Rattle.listing.specs.declared.Piece.{Piece}
use Rattle.listing.specs.Pieces.{given_fault, class_cell, class_length, class_piece, class_where, class_below, class_after, class_answer, descriptor_piece, security_where, security_below, security_after, security_answer}
use Rattle.std.specs.Prelude.{Err, None, Ok, Some}

-- the given key
module _ (d : List ℕ) (k : Offset) where
  pub key-bad : {f : Flaw} → keyed (key_fault Header d [] k) (key_of d k) ≡ Err f → key_fault Header d [] k ≡ Err f
  key-bad e = keyed-flawed (key_fault Header d [] k) _ e

  pub key-good : {x : Key} → keyed (key_fault Header d [] k) (key_of d k) ≡ Ok x → key_fault Header d [] k ≡ Ok tt
  key-good e = (keyed-whole (key_fault Header d [] k) _ e).0

module _ (h : List ℕ) (k : Offset) where
  pub given-base : {f : Flaw} → base_fault h ≡ Err f → given_fault h k ≡ Err f
  given-base e = stop _ _ e

  pub given-key : base_fault h ≡ Ok tt → given_fault h k ≡ key_fault Header (bins_data h) [] k
  given-key e = on _ _ e

  module _ (e : given_fault h k ≡ Ok tt) where
    pub given-on : base_fault h ≡ Ok tt
    given-on = (both (base_fault h) _ e).0

    pub given-room : 76 ≤ length (data_at (bins_data h) k)
    given-room = key-room Header (bins_data h) [] k (both (base_fault h) _ e).1

-- the length of a class name
module _ (d : List ℕ) (k : Offset) (r : 76 ≤ length (data_at d k)) where
  pub length-room : length (part_in d k 74 2) ≡ 2
  length-room = part_length (data_at d k) 74 2 (omega arith)

  pub length-is : u16_at (part_in d k 74 2) 0 ≡ class_length d k
  unfolding class_length
  length-is = u16-part (data_at d k) 74 2 0 (omega arith)

-- the class name of a key that was tested
module _ (k : Offset) (v : Verdict) where
  pub class-bad : {f : Flaw} → v ≡ Err f → (x : Piece) → class_where k v x ≡ Err (refusal_of k f)
  class-bad e x = rw e

  pub class-good : v ≡ Ok tt → (x : Piece) → class_where k v x ≡ Ok (Some x)
  class-good e x = rw e

module _ (d : List ℕ) (k : Offset) {n : ℕ} (l : n ≡ class_length d k) where
  pub class-none : n ≡ 0 → class_below d k ≡ Ok None
  unfolding class_below
  class-none z = rw (← l, eq-eqb n 0 z)

  -- its cell is tested as one of a value's data
  pub class-some : (n ≡ 0 → ⊥) → {c : ℕ} → c ≡ u32_at (data_at d k) 48
      → let o : Offset = record { 0 = c } in class_below d k ≡ class_where k (data_fault Header d [] (OneCell o n)) (class_piece o n)
  unfolding class_below class_cell data_fault
  class-some z c = rw (← l, ← c, ne_eqb n 0 z)

-- the descriptor of the item that it names
module _ (d : List ℕ) (k o : Offset) where
  pub security-bad : {f : Flaw} → described (descriptor_fault Header d [] o) (item_of d o) ≡ Err f
      → security_where k (descriptor_fault Header d [] o) (descriptor_piece d o) ≡ Err (refusal_of k f)
  security-bad e = rw (described-flawed (descriptor_fault Header d [] o) _ e)

  pub security-good : {i : Item} → described (descriptor_fault Header d [] o) (item_of d o) ≡ Ok i → {p : Place} → p ≡ descriptor_place o i
      → security_where k (descriptor_fault Header d [] o) (descriptor_piece d o) ≡ Ok (record { at = p; len = i.size })
  security-good e p = let w = described-whole (descriptor_fault Header d [] o) _ e in rw (w.0, p, w.1)

-- in a hive
module _ (h : List ℕ) (k : Offset) where
  module _ {f : Flaw} (e : given_fault h k ≡ Err f) where
    pub class-stop : class_answer h k ≡ Err (refusal_of no_key f)
    unfolding class_answer
    class-stop = ap (λ (v : Verdict). class_after v (class_below (bins_data h) k)) e

    pub security-stop : security_answer h k ≡ Err (refusal_of no_key f)
    unfolding security_answer
    security-stop = ap (λ (v : Verdict). security_after v (security_below (bins_data h) k)) e

  module _ (e : given_fault h k ≡ Ok tt) where
    pub class-on : class_answer h k ≡ class_below (bins_data h) k
    unfolding class_answer
    class-on = ap (λ (v : Verdict). class_after v (class_below (bins_data h) k)) e

    pub security-on : security_answer h k ≡ security_below (bins_data h) k
    unfolding security_answer
    security-on = ap (λ (v : Verdict). security_after v (security_below (bins_data h) k)) e

-- the ways out, for the tactics
pub ruleset given_ways = (on, stop, key-bad, key-good)

pub ruleset class_ways = (length-room, length-is, class-bad, class-good, class-none, class-some, class-stop, class-on)

pub ruleset security_ways = (security-bad, security-good, security-stop, security-on)
