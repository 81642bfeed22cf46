-- Cells that are placed hold their data, one by one and in a row.
use Prim.Native.Nat.{ℕ, ◌+◌, ◌-◌}
use mathlib.Core.Path.{refl}
use mathlib.Core.List.{List, [], ◌∷◌}
use lib.ListN.{length}
use Rattle.layout.specs.Layout.{cell_size}
use Rattle.layout.proofs.Splits.{Split, Part, part-first, part-rest}
use Rattle.layout.proofs.Built.{Placed}
use Rattle.build_laws.proofs.Held.{Holds}
use Rattle.build_laws.proofs.Held_data.{Rows, row-end, row_on}

pub placed-holds : {d : List ℕ} {o : ℕ} {x : List ℕ} → Placed d o x → Holds d o x
placed-holds {x = x} c = (cell_size (length x) - (4 + length x), c.holds)

-- a part of a row whose every cell is placed
pub part-rows : {d : List ℕ} {cs : List (List ℕ)} {from : ℕ} → ((o : ℕ) (x : List ℕ) → Split cs from o x → Placed d o x)
    → (xs : List (List ℕ)) {o : ℕ} → Part cs from xs o → Rows d xs o
part-rows f [] c = row-end
part-rows f (x ∷ xs) {o} c = row_on (placed-holds (f o x (part-first x xs c))) (part-rows f xs (part-rest x xs refl c))
