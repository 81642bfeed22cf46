-- By which rule an offset names a cell: the check has a map, and lookup goes by the cell's own header.
use denote.Ref.{Bor}
use Rattle.std.specs.Prelude.{ℕ, List, [], Option, Some, None}

pub data Rule : Type 0 where
  Map : Rule
  Header : Rule

-- the rule of a caller who lends a map, or none
abbrev pub rule_of : {A : Type 0} → Option A → Rule
rule_of (Some m) = Map
rule_of None = Header

-- the map that is lent
abbrev pub lent : Option (Bor (List ℕ)) → List ℕ
lent (Some m) = m.now
lent None = []
