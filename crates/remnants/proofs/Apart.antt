-- A record that is reported lies in a free cell: no cell in use reaches into it, and its name lies in the file.
use Prim.Native.Nat.{ℕ, ◌+◌, ◌-◌, ◌≤◌}
use native.Mathlib.Omega.{arith}
use mathlib.Core.Path.{◌≡◌, ap, ◌∙◌}
use mathlib.Core.Logic.{◌⊎◌, inl, inr, ⊎_elim}
use mathlib.Core.List.{List, Memᴰ}
use lib.ListN.{length, length-take, length-drop}
use Rattle.fields.specs.declared.Offset.{Offset}
use Rattle.fields.specs.declared.Place.{Place}
use Rattle.fields.specs.Number.{size_at, u16_at}
use Rattle.fields.specs.Position.{place_of}
use Rattle.base.specs.Block.{sector, bins_of, bins_data}
use Rattle.base.proofs.Laws.{base-facts}
use Rattle.cells.specs.Tiled.{InUse}
use Rattle.cells.specs.Free.{FreeBin}
use Rattle.cells.proofs.Free.{free-lies, free-apart}
use Rattle.cells.proofs.Parts.{place-some}
use Rattle.records.specs.Facts.{KeyRecord}
use Rattle.values.specs.Facts.{OldValueRecord}
use Rattle.remnants.specs.declared.Kind.TheVariants as kind
use Rattle.remnants.specs.declared.Remain.{Remain}
use Rattle.remnants.specs.Remnants.{remain_of, remnants_of, tiles_fault, remnant_answer}
use Rattle.remnants.specs.Found.{Inside, rest_in, Left, a_key, a-value}
use Rattle.remnants.proofs.Tests.{base-sound}
use Rattle.remnants.proofs.Exact.{remnant-exactly}
use Rattle.remnants.proofs.Refusals.{next-finds}
use Rattle.std.specs.Prelude.{Ok, Some}

module _ (d : List ℕ) where
  -- a record and its name end inside the free cell, and start in it
  record Ends (x : Remain) : Type 0 where
    start : ℕ
    free : FreeBin d start 0
    after : start ≤ x.at.0
    ends : x.name.0 + x.len ≤ 4096 + (start + (size_at d start).bytes)

  fits : (start o : ℕ) {k : ℕ} → k ≤ length (rest_in d start o) → k ≤ start + (size_at d start).bytes - (o + 4)
  fits start o {k} q = let q' = simp (length-take, length-drop) at q in omega arith

  key-ends : (x : Remain) {start : ℕ} → Inside d start x.at.0 → KeyRecord (rest_in d start x.at.0)
      → x ≡ remain_of kind.Key (rest_in d start x.at.0) x.at.0 → Ends x
  unfolding remain_of
  key-ends x {start} i r p =
      let n : x.name.0 ≡ (place_of x.at).0 + 4 + 76 = ap (λ (y : Remain). y.name.0) p ∙ ap (λ (q : Place). q.0) (place-some x.at 76 (u16_at (rest_in d start x.at.0) 72) (λ z. omega arith)) in
      let l : x.len ≡ u16_at (rest_in d start x.at.0) 72 = ap (λ (y : Remain). y.len) p in
      let room : 76 + u16_at (rest_in d start x.at.0) 72 ≤ start + (size_at d start).bytes - (x.at.0 + 4) = fits start x.at.0 r.room in
      record { start = start; free = i.free; after = i.after; ends = omega (arith, room) }

  value-ends : (x : Remain) {start : ℕ} → Inside d start x.at.0 → OldValueRecord (rest_in d start x.at.0)
      → x ≡ remain_of kind.Value (rest_in d start x.at.0) x.at.0 → Ends x
  unfolding remain_of
  value-ends x {start} i r p =
      let n : x.name.0 ≡ (place_of x.at).0 + 4 + 20 = ap (λ (y : Remain). y.name.0) p ∙ ap (λ (q : Place). q.0) (place-some x.at 20 (u16_at (rest_in d start x.at.0) 2) (λ z. omega arith)) in
      let l : x.len ≡ u16_at (rest_in d start x.at.0) 2 = ap (λ (y : Remain). y.len) p in
      let room : 20 + u16_at (rest_in d start x.at.0) 2 ≤ start + (size_at d start).bytes - (x.at.0 + 4) = fits start x.at.0 r.room in
      record { start = start; free = i.free; after = i.after; ends = omega (arith, room) }

  left-ends : (x : Remain) → Left d x → Ends x
  left-ends x (a_key i r p) = key-ends x i r p
  left-ends x (a-value i r p) = value-ends x i r p

  -- no cell in use reaches into a record that is reported: it ends before the record's cell starts, or starts where the name has ended
  pub remnant-free : (x : Remain) → Memᴰ x (remnants_of d) → (u : Offset) → InUse d u
      → (u.0 + (size_at d u.0).bytes ≤ x.at.0) ⊎ (x.name.0 + x.len ≤ 4096 + u.0)
  remnant-free x m u i =
      let s = left-ends x ((remnant-exactly d x).0 m) in
      ⊎_elim (λ p. inl (omega (arith, s.after))) (λ p. inr (omega (arith, s.ends))) (free-apart d u i s.free)

  -- it ends inside the bins data
  ends-inside : (x : Remain) → Memᴰ x (remnants_of d) → x.name.0 + x.len ≤ 4096 + length d
  ends-inside x m =
      let s = left-ends x ((remnant-exactly d x).0 m) in
      let l = free-lies d s.free in
      omega (arith, s.ends, l.before)

-- the name's bytes lie in the file, on any bytes
pub remnant-name : (h : List ℕ) → tiles_fault h ≡ Ok tt → (x : Remain) → Memᴰ x (remnants_of (bins_data h)) → x.name.0 + x.len ≤ length h
remnant-name h e x m =
    let b = base-facts h (base-sound h e) in
    let n : length (bins_data h) ≡ bins_of (sector h) = simp (length-take, length-drop) (omega (arith, b.inside)) in
    omega (arith, ends-inside (bins_data h) x m, b.inside)

-- so does the name that a step answers with
pub next-name : (h : List ℕ) (from : ℕ) {x : Remain} → remnant_answer h from ≡ Ok (Some x) → x.name.0 + x.len ≤ length h
next-name h from {x} e = let f = next-finds h from e in remnant-name h f.0 x f.1
