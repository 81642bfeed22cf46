-- What an item with its descriptor says, and why one is refused.
use Prim.Native.Nat.{ℕ, ◌+◌, ◌≤◌}
use native.Mathlib.Omega.{arith}
use mathlib.Core.Path.{◌≡◌, refl, sym, ◌∙◌}
use mathlib.Core.Bool.{true, false}
use mathlib.Core.Logic.{◌↔◌}
use mathlib.Core.List.{List}
use lib.Dec.{leb}
use lib.ListN.{length}
use borrow.Author.Tests.{le-leb, leb-true}
use Rattle.fields.specs.declared.Fault.TheVariants.{Record}
use Rattle.fields.specs.declared.Flaw.{Flaw}
use Rattle.fields.specs.declared.Offset.{Offset}
use Rattle.fields.specs.Number.{u32_at}
use Rattle.fields.specs.Faults.{flaw, Verdict}
use Rattle.fields.proofs.Bools.{and-inv, and_both, never}
use Rattle.fields.proofs.Every.{Every, every-next, every-unless}
use Rattle.cells.specs.Rule.{Rule}
use Rattle.cells.specs.Named.{cell_fault, data_at}
use Rattle.cells.proofs.Naming.{cell-fault-is}
use Rattle.cells.proofs.Refusals.{Ruled}
use Rattle.records.proofs.Facts.{signed-exactly}
use Rattle.records.proofs.LawsRecord.{record-tested}
use Rattle.security.specs.declared.Item.{Item}
use Rattle.security.specs.Items.{is_sk, item_in, item_of}
use Rattle.security.specs.Descriptor.{is_described, descriptor_fault, described}
use Rattle.security.specs.Refused.{HasDescriptor, OfDescriptor, no_cell, no-descriptor}
use Rattle.security.proofs.Items.{sk-long}
use Rattle.std.specs.Prelude.{Err, Ok}

-- the tests of an item and its descriptor, a law for each way out
module _ (r : List ℕ) where
  pub no-sk : is_sk r ≡ false → is_described r ≡ false
  unfolding is_described
  no-sk e = rw e

  pub by_size : is_sk r ≡ true → is_described r ≡ leb (20 + u32_at r 16) (length r)
  unfolding is_described item_in
  by_size e = rw e

  pub described-long : is_described r ≡ true → 20 ≤ length r
  unfolding is_described
  described-long e = sk-long r (and-inv (is_sk r) _ e).0

pub described_room : (r : List ℕ) → is_described r ≡ true → 20 ≤ length r
described_room r e = described-long r e

-- what an answer says of the verdict behind it
pub described-whole : (v : Verdict) (i : Item) {j : Item} → described v i ≡ Ok j → (v ≡ Ok tt) × (j ≡ i)
described-whole (Ok tt) i {j} e = (refl, let q : i ≡ j = cc in sym q)
described-whole (Err f) i e = absurd (let z : ◌≡◌ {A = ℕ} 0 1 = cc in omega arith)

pub described-flawed : (v : Verdict) (i : Item) {f : Flaw} → described v i ≡ Err f → v ≡ Err f
described-flawed (Ok tt) i e = absurd (let z : ◌≡◌ {A = ℕ} 0 1 = cc in omega arith)
described-flawed (Err g) i e = cc

-- the test, and the plain facts
module _ (d : List ℕ) (o : Offset) where
  to : is_described (data_at d o) ≡ true → HasDescriptor d o
  unfolding is_described item_of
  to e =
      let a = and-inv (is_sk (data_at d o)) _ e in
      let b = and-inv (leb 20 (length (data_at d o))) _ a.0 in
      record { sk = (signed-exactly (data_at d o) 115 107).0 b.1; fields_fit = leb-true 20 _ b.0; room = leb-true _ _ a.1 }

  of : HasDescriptor d o → is_described (data_at d o) ≡ true
  unfolding is_described item_of
  of h = and_both (and_both (le-leb 20 _ h.fields_fit) ((signed-exactly (data_at d o) 115 107).1 h.sk)) (le-leb _ _ h.room)

  pub descriptor-exactly : (is_described (data_at d o) ≡ true) ↔ HasDescriptor d o
  descriptor-exactly = (to, of)

module _ (rule : Rule) (d m : List ℕ) (o : Offset) where
  -- an item that passes has its descriptor
  pub descriptor-stands : descriptor_fault rule d m o ≡ Ok tt → HasDescriptor d o
  unfolding descriptor_fault
  descriptor-stands e = to d o (record-tested is_described rule d m o e)

  -- one that does not is refused for a reason
  pub descriptor-refuses : Ruled rule d m → Every (OfDescriptor rule d o) (descriptor_fault rule d m o)
  unfolding descriptor_fault
  descriptor-refuses ruled =
      every-next (OfDescriptor rule d o) (cell_fault rule d m o) _
      (λ f e. rw (cell-fault-is rule d m o e)
      (no_cell (λ u. let z : (Ok tt) ≡ Err f = sym (ruled.used_sound o u) ∙ e in absurd (let y : ◌≡◌ {A = ℕ} 0 1 = cc in omega arith))))
      (λ s. every-unless (OfDescriptor rule d o) (is_described (data_at d o)) (flaw Record o)
      (λ e. no-descriptor (ruled.sound-used o s) (λ h. never _ (of d o h) e)))
