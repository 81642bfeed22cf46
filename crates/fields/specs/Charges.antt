-- A refusal, or none: what an examination of keys comes to, with the key under examination.
use Rattle.fields.specs.declared.Offset.{Offset}
use Rattle.fields.specs.declared.Refusal.{Refusal}
use Rattle.fields.specs.Faults.{refusal_of, Verdict}
use Rattle.std.specs.Prelude.{Err, Ok}

-- a refusal, or none
pub data Charge : Type 0 where
  Free : Charge
  Of : Refusal → Charge

-- a flaw as a refusal, found in the examination of a key
abbrev pub charge_of : Offset → Verdict → Charge
charge_of key (Ok tt) = Free
charge_of key (Err f) = Of (refusal_of key f)

-- a charge, and another where there is none
infixr 60 ◌after◌
unfoldable pub ◌after◌ : Charge → Charge → Charge
Free after b = b
(Of f) after b = Of f
