-- What the first tests of a call give to the rest of it.
use Rattle.std.specs.Prelude.{ℕ, Err, Ok, Result}
use Rattle.logs.specs.declared.LogFormat.{LogFormat}
use Rattle.recovery.specs.declared.Begun.TheVariants as begun
use Rattle.recovery.specs.declared.Started.TheVariants as start
use Rattle.fields.specs.declared.Refusal.{Refusal}
use Rattle.recovery.specs.declared.Begun.{Begun}
use Rattle.recovery.specs.declared.Started.{Started}

-- the start's answer, what was read of the log, and how many pages its own tests have counted
abbrev pub begun_by : Result Started Refusal → LogFormat → ℕ → Result Begun Refusal
begun_by (Ok start.Clean) r k = Ok begun.Clean
begun_by (Ok (start.Pages n)) r k = Ok (begun.Ready r k)
begun_by (Err x) r k = Err x
