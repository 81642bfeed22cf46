-- The next record past a position: what a turn of `seek` keeps.
use Prim.Native.Nat.{ℕ, ◌+◌, ◌≤◌}
use native.Mathlib.Omega.{arith}
use mathlib.Core.Path.{◌≡◌, refl, sym, ap, ◌∙◌}
use mathlib.Core.List.{List, [], ◌∷◌, ◌++◌}
use lib.ListN.{length}
use Rattle.cells.specs.declared.Gap.{Gap}
use Rattle.cells.specs.Terms.{free_from, NextFree}
use Rattle.cells.proofs.Gaps.{free-start, free-end}
use Rattle.remnants.specs.declared.Kind.{Kind}
use Rattle.remnants.specs.declared.Hit.{Hit}
use Rattle.std.specs.Prelude.{None, Option, Some}
use Rattle.remnants.specs.declared.Cursor.{Cursor}
use Rattle.remnants.specs.declared.Remain.{Remain}
use Rattle.remnants.specs.Remnants.{remain_at, spots_in, spots_of, remnants_of, not_below}
use Rattle.remnants.specs.Terms.{Free, Hits, left, left_at, cursor, At, Sought, Sees, sought_left}
use Rattle.remnants.proofs.Held.{remain-offset}
use Rattle.remnants.proofs.Spots.{below-append, below-keeps, below-nil, spots-end, spots-some, spots-gap, spots-nil}

-- what the loop of `seek` keeps: what is left at a position gives what the start gives
pub record Looked (d : List ℕ) (xs : List Remain) (from at cell bin : ℕ) : Type 0 where
  pub here : At d (cursor at cell bin)
  pub same : xs ≡ sought_left d from (cursor at cell bin)

-- what is left past a cell is the next free cell, and what is left past that; and nothing at the end
left-next : {d : List ℕ} {cell bin : ℕ} {n : Gap} → NextFree d cell bin n → left d cell bin ≡ left_at d n.at n.end n.bin
left-next {d} {cell} {bin} {n} f = ap (spots_of d) f.same ∙ spots-gap d (free_from d n.end n.bin) f.order

left_end : (d : List ℕ) → left d (length d) (length d) ≡ []
left_end d = ap (spots_of d) (free-end d) ∙ spots-nil d

-- a position lies in a free cell
pub at-free : {d : List ℕ} {c : Cursor} → At d c → Free d c.at c.cell
at-free a =
    let s = a.stands in
    record { order = a.order; eights = a.eights; ends = s.eights; inside = omega (arith, s.order, s.inside); small = s.small }

module _ {d : List ℕ} {xs : List Remain} {from at cell bin : ℕ} (l : Looked d xs from at cell bin) where
  -- in the free cell
  in_cell : {r : Hit} → Hits d at cell from r → xs ≡ not_below from (left_at d r.at cell bin)
  in_cell {r} h =
      l.same ∙ below-append from (spots_in d at cell) (left d cell bin)
      ∙ ap (λ (x : List Remain). x ++ not_below from (left d cell bin)) h.same
      ∙ sym (below-append from (spots_in d r.at cell) (left d cell bin))

  pub seen : {c : Cursor} → xs ≡ sought_left d from c → {r : Hit} → Hits d at cell from r → (r.kind ≡ None → ⊥)
      → Sees d c from (record { at = r.at; cell = cell; bin = bin; kind = r.kind })
  seen p {r} h s =
      let f = h.free in
      record {
        sought = record {
          at = record { order = f.order; eights = f.eights; stands = l.here.stands };
          found = h.found;
          lost = λ e. absurd (s e);
        };
        same = sym p ∙ in_cell h;
      }

  -- past it
  pub looked-on : {r : Hit} → Hits d at cell from r → r.kind ≡ None → {n : Gap} → NextFree d cell bin n
      → Looked d xs from n.at n.end n.bin
  looked-on {r} h s {n} f =
      let e = h.lost s in
      record {
        here = record { order = f.order; eights = f.eights; stands = f.stands };
        same =
            in_cell h ∙ ap (λ (x : ℕ). not_below from (left_at d x cell bin)) e
            ∙ ap (λ (x : List Remain). not_below from (x ++ left d cell bin)) (spots-end d cell)
            ∙ ap (not_below from) (left-next f);
      }

  -- at the end
  pub unseen : {c : Cursor} → xs ≡ sought_left d from c → length d ≤ at → Sees d c from (cursor at cell bin)
  unseen p le =
      let o = l.here.order in
      let s = l.here.stands in
      let u : at ≡ length d = omega (arith, s.order, s.inside) in
      let q : cell ≡ length d = omega (arith, s.order, s.inside) in
      let t : bin ≡ length d = omega (arith, s.order, s.inside) in
      record {
        sought = record {
          at = l.here;
          found = λ k e. absurd (let z : ◌≡◌ {A = ℕ} 0 1 = cc in omega arith);
          lost = λ e. nothing u q t;
        };
        same = sym p ∙ l.same;
      }
    where
      nothing : at ≡ length d → cell ≡ length d → bin ≡ length d → not_below from (left_at d at cell bin) ≡ []
      nothing p q t = rw (p, q, t, spots-end d (length d), left_end d) (below-nil from)

-- the start: all is left
pub all_left : (d : List ℕ) → left_at d 0 0 0 ≡ remnants_of d
unfolding remnants_of
all_left d = rw (spots-end d 0, free-start d)

-- what is there is some kind
pub a-kind : (o : Option Kind) → (o ≡ None → ⊥) → (k : Kind) × (o ≡ Some k)
a-kind (Some k) n = (k, refl)
a-kind None n = absurd (n refl)

-- a record that was found is the first of those left
module _ {d : List ℕ} {from : ℕ} {r : Cursor} (s : Sought d from r) where
  pub first-left : {k : Kind} → r.kind ≡ Some k
      → sought_left d from r ≡ remain_at d r.at r.cell k ∷ sought_left d from (cursor (r.at + 8) r.cell r.bin)
  first-left {k} e =
      let t = s.found k e in
      let f = at-free s.at in
      ap (λ (x : List Remain). not_below from (x ++ left d r.cell r.bin))
      (spots-some d f.eights f.ends t.before t.is)
      ∙ below-keeps from (remain_at d r.at r.cell k) (left_at d (r.at + 8) r.cell r.bin) (omega (arith, t.past, remain-offset d r.at r.cell k))

-- the first of all
module _ {d : List ℕ} {from : ℕ} {r : Cursor} (v : Sees d (cursor 0 0 0) from r) where
  pub from_start : not_below from (remnants_of d) ≡ sought_left d from r
  from_start = sym (ap (not_below from) (all_left d)) ∙ v.same

  pub none_left : r.kind ≡ None → not_below from (remnants_of d) ≡ []
  none_left e = from_start ∙ v.sought.lost e

  pub one_left : {k : Kind} → r.kind ≡ Some k
      → not_below from (remnants_of d) ≡ remain_at d r.at r.cell k ∷ sought_left d from (cursor (r.at + 8) r.cell r.bin)
  one_left e = from_start ∙ first-left v.sought e
