-- What is reported, exactly: a record is in the list when some free cell holds it, as the plain facts say.
use Prim.Native.Nat.{ℕ, zero, suc, ◌+◌, ◌-◌, ◌*◌, ◌/◌, ◌%◌, ◌≤◌, ◌<◌}
use native.Mathlib.Omega.{arith}
use mathlib.Core.Path.{◌≡◌, refl, sym, ap, ◌∙◌, subst}
use mathlib.Core.Bool.{Bool, true, false}
use mathlib.Core.Logic.{◌↔◌, ⊎_elim}
use mathlib.Core.List.Memᴰ
use mathlib.Core.List.{List, [], ◌∷◌, ◌++◌, Memᴰ}
use lib.Dec.{eqb}
use borrow.Author.Tests.{eqb-true, eqb-false}
use Rattle.fields.specs.Number.{size_at}
use Rattle.cells.specs.Tiling.{layout}
use Rattle.cells.specs.Free.{Span, free_cells, FreeBin}
use Rattle.cells.proofs.Free.{the-span, free-lies, free-exactly}
use Rattle.records.specs.Keys.{is_key}
use Rattle.records.specs.Facts.{KeyRecord}
use Rattle.records.proofs.Facts.{key-exactly}
use Rattle.values.specs.Facts.{OldValueRecord}
use Rattle.values.proofs.Facts.{old-exactly}
use Rattle.remnants.specs.declared.Kind.{Kind}
use Rattle.remnants.specs.declared.Kind.TheVariants as kind
use Rattle.remnants.specs.declared.Remain.{Remain}
use Rattle.remnants.specs.Remnants.{rest_of, kind_at, remain_of, remain_at, spot, spots_n, spots_in, spots_of, remnants_of}
use Rattle.remnants.specs.Found.{Inside, rest_in, Left, a_key, a-value}
use Rattle.std.specs.Prelude.{None, Option, Some}
use Rattle.remnants.proofs.Held.{a_key as is-a-key, a-value as is-a-value, key-is, value-is, kind-of-rest, remain-offset}

-- a record of a free cell, by its offset
pub record Spot (d : List ℕ) (at end : ℕ) (x : Remain) : Type 0 where
  pub o : ℕ
  pub after : at ≤ o
  pub before : o < end
  pub eights : o % 8 ≡ 0
  pub kind : Kind
  pub some : kind_at d o end ≡ Some kind
  pub is : x ≡ remain_at d o end kind

past-it : (o a : ℕ) → a ≤ o → o % 8 ≡ 0 → a % 8 ≡ 0 → (o ≡ a → ⊥) → a + 8 ≤ o
past-it o a p q r ne = omega arith

module _ (d : List ℕ) where
  -- the records of one free cell
  in_spot : (k : Option Kind) (x : Remain) (f : Kind → Remain) → Memᴰ x (spot k f) → (j : Kind) × (k ≡ Some j) × (x ≡ f j)
  in_spot (Some j) x f m = (j, refl, ⊎_elim (λ e. e) (λ q. absurd (Memᴰ.not-nil q)) (Memᴰ.cases_cons m))
  in_spot None x f m = absurd (Memᴰ.not-nil m)

  spot_in_lem : {k : Option Kind} {x : Remain} (f : Kind → Remain) {j : Kind} → k ≡ Some j → x ≡ f j → Memᴰ x (spot k f)
  spot_in_lem f s e = rw s (Memᴰ.head e)

  spots-of : (n at end : ℕ) (x : Remain) → at % 8 ≡ 0 → at + 8 * n ≡ end → Memᴰ x (spots_n n d at end) → Spot d at end x
  unfolding spots_n
  spots-of zero at end x a p m = absurd (Memᴰ.not-nil m)
  spots-of (suc n) at end x a p m =
      ⊎_elim here (λ q. past (spots-of n (at + 8) end x (omega arith) (omega arith) q)) (Memᴰ.append_cases (spot (kind_at d at end) (remain_at d at end)) m)
    where
      here : Memᴰ x (spot (kind_at d at end) (remain_at d at end)) → Spot d at end x
      here q =
          let i = in_spot (kind_at d at end) x (remain_at d at end) q in
          record { o = at; after = omega arith; before = omega arith; eights = a; kind = i.0; some = i.1; is = i.2 }

      past : Spot d (at + 8) end x → Spot d at end x
      past s = record { o = s.o; after = omega (arith, s.after); before = s.before; eights = s.eights; kind = s.kind; some = s.some; is = s.is }

  of-spots : (n at end : ℕ) (x : Remain) → at % 8 ≡ 0 → at + 8 * n ≡ end → Spot d at end x → Memᴰ x (spots_n n d at end)
  unfolding spots_n
  of-spots zero at end x a p s = absurd (omega (arith, s.after, s.before))
  of-spots (suc n) at end x a p s =
      by (eqb s.o at) refl (λ q. of-spots n (at + 8) end x (omega arith) (omega arith) q)
    where
      by : (t : Bool) → eqb s.o at ≡ t → (Spot d (at + 8) end x → Memᴰ x (spots_n n d (at + 8) end))
          → Memᴰ x (spot (kind_at d at end) (remain_at d at end) ++ spots_n n d (at + 8) end)
      by true e ih =
          let q = eqb-true s.o at e in
          Memᴰ.append_left (spots_n n d (at + 8) end)
          (spot_in_lem (remain_at d at end) (subst (λ (o : ℕ). kind_at d o end ≡ Some s.kind) q s.some)
          (s.is ∙ ap (λ (o : ℕ). remain_at d o end s.kind) q))
      by false e ih =
          let q = eqb-false s.o at e in
          let lt = past-it s.o at s.after s.eights a q in
          Memᴰ.append_right (spot (kind_at d at end) (remain_at d at end))
          (ih (record { o = s.o; after = lt; before = s.before; eights = s.eights; kind = s.kind; some = s.some; is = s.is }))

  pub spots-exactly : (at end : ℕ) (x : Remain) → at % 8 ≡ 0 → end % 8 ≡ 0 → at ≤ end → Memᴰ x (spots_in d at end) ↔ Spot d at end x
  unfolding spots_in
  spots-exactly at end x a e p =
      let n : at + 8 * ((end - at) / 8) ≡ end = omega arith in
      (spots-of ((end - at) / 8) at end x a n, of-spots ((end - at) / 8) at end x a n)

  -- a record of some free cell
  some-span : (ss : List Span) (x : Remain) → Memᴰ x (spots_of d ss) → (s : Span) × Memᴰ s ss × Memᴰ x (spots_in d s.from s.to)
  unfolding spots_of
  some-span [] x m = absurd (Memᴰ.not-nil m)
  some-span (s ∷ ss) x m =
      ⊎_elim (λ q. (s, Memᴰ.head refl, q)) (λ q. let r = some-span ss x q in (r.0, Memᴰ.tail r.1, r.2))
      (Memᴰ.append_cases (spots_in d s.from s.to) m)

  span-some : (ss : List Span) (s : Span) (x : Remain) → Memᴰ s ss → Memᴰ x (spots_in d s.from s.to) → Memᴰ x (spots_of d ss)
  unfolding spots_of
  span-some [] s x m q = absurd (Memᴰ.not-nil m)
  span-some (t ∷ ss) s x m q =
      ⊎_elim (λ e. Memᴰ.append_left (spots_of d ss) (subst (λ (y : Span). Memᴰ x (spots_in d y.from y.to)) e q))
      (λ r. Memᴰ.append_right (spots_in d t.from t.to) (span-some ss s x r q)) (Memᴰ.cases_cons m)

  -- a kind, by the plain facts
  two-signatures : (r : List ℕ) → OldValueRecord r → is_key r ≡ false
  two-signatures r v = by (is_key r) refl
    where
      by : (t : Bool) → is_key r ≡ t → is_key r ≡ false
      by false e = e
      by true e =
          let k = ((key-exactly r).0 e).nk in
          let q = sym k ∙ v.vk in
          let n : ◌≡◌ {A = ℕ} 110 118 = cc in
          absurd (omega arith)

  -- a record of a free cell
  pub record Holds (x : Remain) : Type 0 where
    pub start : ℕ
    pub free : FreeBin d start 0
    pub spot : Spot d start (start + (size_at d start).bytes) x

  pub held_of : (x : Remain) → Memᴰ x (remnants_of d) → Holds x
  unfolding remnants_of
  held_of x m =
      let r = some-span (free_cells (layout d 0)) x m in
      let f = (free-exactly d r.0).0 r.1 in
      let l = free-lies d f.at-start in
      let q = subst (λ (e : ℕ). Memᴰ x (spots_in d r.0.from e)) f.ends r.2 in
      record {
        start = r.0.from;
        free = f.at-start;
        spot = (spots-exactly r.0.from (r.0.from + (size_at d r.0.from).bytes) x l.eights (omega (arith, l.whole, l.eights)) (omega arith)).0 q;
      }

  of-held : (x : Remain) → Holds x → Memᴰ x (remnants_of d)
  unfolding remnants_of
  of-held x g =
      let n = (size_at d g.start).bytes in
      let l = free-lies d g.free in
      span-some (free_cells (layout d 0)) (the-span g.start n) x ((free-exactly d (the-span g.start n)).1 (record { at-start = g.free; ends = refl }))
      ((spots-exactly g.start (g.start + n) x l.eights (omega (arith, l.whole, l.eights)) (omega arith)).1 g.spot)

  left-of : (x : Remain) → Holds x → Left d x
  unfolding remain_at
  left-of x g = by s.kind s.some s.is
    where
      end : ℕ
      end = g.start + (size_at d g.start).bytes

      s : Spot d g.start end x
      s = g.spot

      at-o : x.at.0 ≡ s.o
      at-o = ap (λ (y : Remain). y.at.0) s.is ∙ remain-offset d s.o end s.kind

      inside : Inside d g.start s.o
      inside = record { free = g.free; after = s.after; before = s.before; eights = s.eights }

      by : (k : Kind) → kind_at d s.o end ≡ Some k → x ≡ remain_of k (rest_of d s.o end) s.o → Left d x
      by kind.Key e t =
          let r = (key-exactly (rest_of d s.o end)).0 (key-is (rest_of d s.o end) (sym (kind-of-rest d s.o end) ∙ e)) in
          a_key (subst (Inside d g.start) (sym at-o) inside) (subst (λ (o : ℕ). KeyRecord (rest_of d o end)) (sym at-o) r)
          (subst (λ (o : ℕ). x ≡ remain_of kind.Key (rest_of d o end) o) (sym at-o) t)
      by kind.Value e t =
          let r = (old-exactly (rest_of d s.o end)).0 (value-is (rest_of d s.o end) (sym (kind-of-rest d s.o end) ∙ e)) in
          a-value (subst (Inside d g.start) (sym at-o) inside) (subst (λ (o : ℕ). OldValueRecord (rest_of d o end)) (sym at-o) r)
          (subst (λ (o : ℕ). x ≡ remain_of kind.Value (rest_of d o end) o) (sym at-o) t)

  spotted : (x : Remain) {start : ℕ} (k : Kind) → Inside d start x.at.0 → kind_at d x.at.0 (start + (size_at d start).bytes) ≡ Some k
      → x ≡ remain_of k (rest_in d start x.at.0) x.at.0 → Holds x
  unfolding remain_at
  spotted x {start} k i e p =
      record {
        start = start;
        free = i.free;
        spot = record {
          o = x.at.0;
          after = i.after;
          before = i.before;
          eights = i.eights;
          kind = k;
          some = e;
          is = p;
        };
      }

  of_left : (x : Remain) → Left d x → Holds x
  of_left x (a_key {start} i r p) =
      let rest = rest_in d start x.at.0 in
      spotted x kind.Key i (kind-of-rest d x.at.0 (start + (size_at d start).bytes) ∙ is-a-key rest ((key-exactly rest).1 r)) p
  of_left x (a-value {start} i r p) =
      let rest = rest_in d start x.at.0 in
      spotted x kind.Value i
      (kind-of-rest d x.at.0 (start + (size_at d start).bytes) ∙ is-a-value rest (two-signatures rest r) ((old-exactly rest).1 r)) p

  pub remnant-exactly : (x : Remain) → Memᴰ x (remnants_of d) ↔ Left d x
  remnant-exactly x = (λ m. left-of x (held_of x m), λ l. of-held x (of_left x l))
