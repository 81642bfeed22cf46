-- What an answer says of the verdict behind it: for each kind of answer, that it holds what was found, or the flaw.
use Prim.Native.Nat.{ℕ}
use native.Mathlib.Omega.{arith}
use mathlib.Core.Path.{◌≡◌, refl, sym}
use Rattle.fields.specs.declared.Flaw.{Flaw}
use Rattle.records.specs.declared.Key.{Key}
use Rattle.records.specs.declared.Leaf.{Leaf}
use Rattle.records.specs.declared.Leaves.{Leaves}
use Rattle.records.specs.declared.Name.{Name}
use Rattle.records.specs.Keys.{keyed, called}
use Rattle.records.specs.Terms.{headed, leafed, totalled}
use Rattle.fields.specs.Faults.{Verdict}
use Rattle.std.specs.Prelude.{Err, Ok}

pub keyed-whole : (v : Verdict) (k : Key) {k' : Key} → keyed v k ≡ Ok k' → (v ≡ Ok tt) × (k' ≡ k)
keyed-whole (Ok tt) k {k'} e = (refl, let q : k ≡ k' = cc in sym q)
keyed-whole (Err f) k e = absurd (let z : ◌≡◌ {A = ℕ} 0 1 = cc in omega arith)

pub keyed-flawed : (v : Verdict) (k : Key) {f : Flaw} → keyed v k ≡ Err f → v ≡ Err f
keyed-flawed (Ok tt) k e = absurd (let z : ◌≡◌ {A = ℕ} 0 1 = cc in omega arith)
keyed-flawed (Err g) k e = cc

pub called-whole : (v : Verdict) (n : Name) {n' : Name} → called v n ≡ Ok n' → (v ≡ Ok tt) × (n' ≡ n)
called-whole (Ok tt) n {n'} e = (refl, let q : n ≡ n' = cc in sym q)
called-whole (Err f) n e = absurd (let z : ◌≡◌ {A = ℕ} 0 1 = cc in omega arith)

pub called-flawed : (v : Verdict) (n : Name) {f : Flaw} → called v n ≡ Err f → v ≡ Err f
called-flawed (Ok tt) n e = absurd (let z : ◌≡◌ {A = ℕ} 0 1 = cc in omega arith)
called-flawed (Err g) n e = cc

pub headed-whole : (v : Verdict) (ls : Leaves) {ls' : Leaves} → headed v ls ≡ Ok ls' → (v ≡ Ok tt) × (ls' ≡ ls)
headed-whole (Ok tt) ls {ls'} e = (refl, let q : ls ≡ ls' = cc in sym q)
headed-whole (Err f) ls e = absurd (let z : ◌≡◌ {A = ℕ} 0 1 = cc in omega arith)

pub headed-flawed : (v : Verdict) (ls : Leaves) {f : Flaw} → headed v ls ≡ Err f → v ≡ Err f
headed-flawed (Ok tt) ls e = absurd (let z : ◌≡◌ {A = ℕ} 0 1 = cc in omega arith)
headed-flawed (Err g) ls e = cc

pub leafed-whole : (v : Verdict) (l : Leaf) {l' : Leaf} → leafed v l ≡ Ok l' → (v ≡ Ok tt) × (l' ≡ l)
leafed-whole (Ok tt) l {l'} e = (refl, let q : l ≡ l' = cc in sym q)
leafed-whole (Err f) l e = absurd (let z : ◌≡◌ {A = ℕ} 0 1 = cc in omega arith)

pub leafed-flawed : (v : Verdict) (l : Leaf) {f : Flaw} → leafed v l ≡ Err f → v ≡ Err f
leafed-flawed (Ok tt) l e = absurd (let z : ◌≡◌ {A = ℕ} 0 1 = cc in omega arith)
leafed-flawed (Err g) l e = cc

pub totalled-total : (v : Verdict) (n : ℕ) {n' : ℕ} → totalled v n ≡ Ok n' → (v ≡ Ok tt) × (n' ≡ n)
totalled-total (Ok tt) n {n'} e = (refl, let q : n ≡ n' = cc in sym q)
totalled-total (Err f) n e = absurd (let z : ◌≡◌ {A = ℕ} 0 1 = cc in omega arith)

pub totalled-flawed : (v : Verdict) (n : ℕ) {f : Flaw} → totalled v n ≡ Err f → v ≡ Err f
totalled-flawed (Ok tt) n e = absurd (let z : ◌≡◌ {A = ℕ} 0 1 = cc in omega arith)
totalled-flawed (Err g) n e = cc
