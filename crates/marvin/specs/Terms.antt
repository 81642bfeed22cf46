-- Words that a turn of a loop mixes in at once.
use Rattle.std.specs.Prelude.{ℕ, ◌+◌, List}
use Rattle.fields.specs.Number.{u32_at}
use Rattle.marvin.specs.declared.Marvin.{Marvin}
use Rattle.marvin.specs.Hash.{mixed}

-- the four words from a position on
abbrev pub four_mixed : Marvin → List ℕ → ℕ → Marvin
four_mixed s m i = mixed (mixed (mixed (mixed s (u32_at m i)) (u32_at m (i + 4))) (u32_at m (i + 8))) (u32_at m (i + 12))
