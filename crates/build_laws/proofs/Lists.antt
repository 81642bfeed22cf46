-- A value list, read back.
use Prim.Native.Nat.{ℕ, ◌+◌, ◌≤◌}
use native.Mathlib.Omega.{arith}
use mathlib.Core.Path.{◌≡◌, refl, sym, ap, ap₂, ◌∙◌}
use mathlib.Core.List.{List, [], ◌∷◌, ◌++◌, append_assoc}
use lib.ListN.{length, length-append}
use Rattle.fields.specs.declared.Offset.{Offset}
use Rattle.fields.specs.Number.{u32_at, le32}
use Rattle.fields.proofs.Little.{length-le32}
use Rattle.records.specs.Offsets.{offsets_at}
use Rattle.forest.specs.Forest.{Item}
use Rattle.layout.specs.Layout.{zeros, value_size, values_size, value_offsets}
use Rattle.build_laws.specs.Written.{items_at}
use Rattle.build_laws.proofs.Bytes.{word-there}
use Rattle.layout.proofs.Bounds.{value-least}

-- behind so many bytes
offsets-behind : (vs : List Item) (at i : ℕ) (p t : List ℕ) → length p ≡ i → at + values_size vs ≤ 4294967296
    → offsets_at (p ++ (value_offsets vs at ++ t)) i (length vs) ≡ items_at vs at
unfolding offsets_at value_offsets items_at values_size
offsets-behind [] at i p t e h = refl
offsets-behind (v ∷ vs) at i p t e h =
    let s = value-least v in
    let tail = value_offsets vs (at + value_size v) ++ t in
    let same : p ++ (value_offsets (v ∷ vs) at ++ t) ≡ p ++ (le32 at ++ tail) =
    ap (λ (w : List ℕ). p ++ w) (append_assoc (le32 at) (value_offsets vs (at + value_size v)) t) in
    let long : length (p ++ le32 at) ≡ i + 4 = length-append p (le32 at) ∙ ap₂ ◌+◌ e (length-le32 at) in
    ap (λ (w : List ℕ). record { 0 = u32_at w i } ∷ offsets_at w (i + 4) (length vs)) same
    ∙ ap₂ (λ (n : ℕ) (os : List Offset). record { 0 = n } ∷ os) (word-there p at tail i e (omega arith))
    (ap (λ (w : List ℕ). offsets_at w (i + 4) (length vs)) (sym (append_assoc p (le32 at) tail))
    ∙ offsets-behind vs (at + value_size v) (i + 4) (p ++ le32 at) t long (omega arith))

pub offsets-read : (vs : List Item) (at k : ℕ) → at + values_size vs ≤ 4294967296
    → offsets_at (value_offsets vs at ++ zeros k) 0 (length vs) ≡ items_at vs at
offsets-read vs at k h = offsets-behind vs at 0 [] (zeros k) refl h
