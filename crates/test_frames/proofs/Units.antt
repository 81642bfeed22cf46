-- The units of a path, written one by one.
use Prim.Native.Nat.{ℕ, ◌+◌, ◌-◌, ◌*◌, ◌<◌}
use native.Mathlib.Numerals.{add-one}
use native.Mathlib.Omega.{arith}
use mathlib.Core.Path.{◌≡◌, sym, ap, ap₂, ◌∙◌}
use mathlib.Core.Bool.{false}
use mathlib.Core.List.{List, [], ◌∷◌, ◌++◌}
use lib.ListN.{length, take, drop, set, take-append-drop}
use lib.Seq.{take-suc, take-suc-set}
use Rattle.fields.specs.Number.{u16_at}
use Rattle.names.specs.Codes.{codes}
use Rattle.names.proofs.LawsCodes.{wide_at}

pub one_more : (s us : List ℕ) (i v : ℕ) → i < length us → i < length (codes false s) → v ≡ u16_at s (i * 2) → take i us ≡ take i (codes false s)
    → take (i + 1) (set us i v) ≡ take (i + 1) (codes false s)
one_more s us i v g h e t =
    rw add-one
    (take-suc-set us i v g ∙ ap₂ (λ (a : List ℕ) (x : ℕ). a ++ (x ∷ [])) t (e ∙ sym (wide_at s i h)) ∙ sym (take-suc (codes false s) i 0 h))

-- the first n units, as a part of the slice is written
pub units-part : (us cs : List ℕ) (n : ℕ) → take n us ≡ cs → take (n - 0) us ≡ cs
units-part us cs n e = let m : n - 0 ≡ n = omega arith in ap (λ (k : ℕ). take k us) m ∙ e

-- the units that are written and those that stay are all
pub all-units : (n : ℕ) (us cs vs : List ℕ) → take n us ≡ cs → drop n us ≡ vs → us ≡ cs ++ vs
all-units n us cs vs a b = sym (take-append-drop n us) ∙ ap₂ ◌++◌ a b
