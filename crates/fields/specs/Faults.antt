-- The numbers given back, and the first fault of several tests.
use Rattle.std.specs.Prelude.{ℕ, ◌≡◌, Bool, true, false, List, [], ◌∷◌, Err, Ok, Result}
use Rattle.fields.specs.declared.Fault.{Fault}
use Rattle.fields.specs.declared.Fault.TheVariants as named
use Rattle.fields.specs.declared.Offset.{Offset}
use Rattle.fields.specs.declared.Flaw.{Flaw}
use Rattle.fields.specs.declared.Refusal.{Refusal}

abbrev pub number_of : Fault → ℕ
number_of named.HiveShort = 1
number_of named.NoRegf = 2
number_of named.Checksum = 3
number_of named.Version = 4
number_of named.BinsSize = 5
number_of named.BinsCut = 6
number_of named.Sequences = 7
number_of named.MapSmall = 8
number_of named.BinHeader = 9
number_of named.CellSize = 10
number_of named.NoCell = 11
number_of named.Record = 12
number_of named.Order = 13
number_of named.Parent = 14
number_of named.Level = 15
number_of named.PathParts = 16
number_of named.NoKey = 17
number_of named.NoValue = 18
number_of named.Segmented = 19
number_of named.OutputShort = 20
number_of named.LogBase = 21
number_of named.LogShort = 22
number_of named.NoDirt = 23
number_of named.HiveCut = 24
number_of named.Stamps = 25
number_of named.NotDirty = 26
number_of named.NotIn = 27
number_of named.Security = 28
number_of named.Namesake = 29
number_of named.NoFrame = 30
number_of named.ValueLate = 31
number_of named.Unbalanced = 32
number_of named.Unsorted = 33
number_of named.Repeated = 34
number_of named.NameSize = 35
number_of named.DataSize = 36
number_of named.Depth = 37
number_of named.Subkeys = 38
number_of named.HiveSize = 39

-- "Each refusal is a number and a place, here an offset in the bins data (0 unless stated)."
abbrev pub flaw : Fault → Offset → Flaw
flaw fault place = record { fault = fault; place = place }

abbrev pub nowhere : Offset
nowhere = record { 0 = 0 }

-- the key under examination, where there is none: no cell starts there
abbrev pub no_key : Offset
no_key = record { 0 = 4294967295 }

-- a flaw, found in the examination of a key: that of the last key whose record was accepted
abbrev pub refusal_of : Offset → Flaw → Refusal
refusal_of key f = record { fault = f.fault; place = f.place; key = key }

-- what a test finds: nothing, or a flaw
abbrev pub Verdict : Type 0
Verdict = Result (Unit {0}) Flaw

-- why a refusal: a reason for its key, its number and its place
abbrev pub Because : (Offset → Flaw → Type 0) → Refusal → Type 0
Because reason r = (k : Offset) × (f : Flaw) × (r ≡ refusal_of k f) × reason k f

-- a refusal with no key under examination: a reason for its number and its place
abbrev pub Keyless : (Flaw → Type 0) → Refusal → Type 0
Keyless reason r = (f : Flaw) × (r ≡ refusal_of no_key f) × reason f

-- a flaw where a test fails
abbrev pub unless : Bool → Flaw → Verdict
unless true f = Ok tt
unless false f = Err f

-- whether a test found nothing
abbrev pub is_sound : Verdict → Bool
is_sound (Ok tt) = true
is_sound (Err f) = false

-- "The first fault in this order answers."
infixr 60 ◌next◌
unfoldable pub ◌next◌ : Verdict → Verdict → Verdict
(Ok tt) next b = b
(Err f) next b = Err f

-- the first fault of some things, one after the other
unfoldable pub fault_over : {A : Type 0} → (A → Verdict) → List A → Verdict
fault_over each [] = Ok tt
fault_over each (x ∷ xs) = each x next fault_over each xs
