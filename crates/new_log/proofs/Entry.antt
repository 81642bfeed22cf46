-- Some entry counts exactly when the first one is valid.
use Prim.Native.Nat.{ℕ, suc, ◌-◌, ◌/◌, ◌≤◌}
use native.Mathlib.Omega.{arith}
use mathlib.Core.Path.{◌≡◌, refl, ap, ◌∙◌}
use mathlib.Core.Bool.{Bool, true, false, cond, not}
use mathlib.Core.List.{List, [], ◌∷◌}
use lib.ListN.{length}
use Rattle.fields.specs.Number.{u32_at}
use Rattle.base.specs.Block.{sector}
use Rattle.log_entries.specs.Entries.{Entry, is_entry, counted_from, counted}
use Rattle.new_log.specs.Tests.{is_empty}

pub some-entry : (l : List ℕ) → 512 ≤ length l → not (is_empty (counted l)) ≡ is_entry l 512 (u32_at (sector l) 4)
unfolding counted counted_from
some-entry l long =
    let k = length l / 512 - 1 in
    let e : length l / 512 ≡ suc k = omega arith in
    let n = u32_at (sector l) 4 in
    ap (λ (m : ℕ). not (is_empty (counted_from m l 512 n))) e ∙ by (is_entry l 512 n) _ _
  where
    by : (b : Bool) (first : Entry) (rest : List Entry) → not (is_empty (cond b (first ∷ rest) [])) ≡ b
    by true first rest = refl
    by false first rest = refl
