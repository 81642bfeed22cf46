-- Offsets that stand one after the other in a record: those of an `ri`, of a value list and of a segment list.
use Rattle.std.specs.Prelude.{ℕ, zero, suc, ◌+◌, List, [], ◌∷◌}
use Rattle.fields.specs.declared.Offset.{Offset}
use Rattle.fields.specs.Number.{u32_at}

abbrev pub offset_at : List ℕ → ℕ → Offset
offset_at r p = record { 0 = u32_at r p }

-- n offsets from position p on
unfoldable pub offsets_at : List ℕ → ℕ → ℕ → List Offset
offsets_at r p zero = []
offsets_at r p (suc n) = offset_at r p ∷ offsets_at r (p + 4) n
