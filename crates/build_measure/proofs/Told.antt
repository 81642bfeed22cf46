-- What the answer to a stream tells, each of its two cases by itself.
use Prim.Native.Nat.{ℕ}
use mathlib.Core.Path.{◌≡◌, subst}
use mathlib.Core.List.{List}
use Rattle.forest.specs.Faults.{Wrong, stream_fault}
use Rattle.build_measure.specs.declared.StreamFlaw.{StreamFlaw}
use Rattle.build_measure.specs.declared.Whole.{Whole}
use Rattle.build_measure.specs.Terms.{FitsAs, JudgedAs}
use Rattle.std.specs.Prelude.{Err, Ok, Result}

module _ (s : List ℕ) {r : Result Whole StreamFlaw} where
  pub told-fits : {w : Whole} → r ≡ Ok w → JudgedAs s r → FitsAs s w
  told-fits e x = subst (JudgedAs s) e x

  pub told-amiss : {x : StreamFlaw} → r ≡ Err x → JudgedAs s r → stream_fault s ≡ Wrong x.flaw x.at
  told-amiss e x = subst (JudgedAs s) e x
