-- What it is to be the first fault of a stream: of the earliest frame at fault, the lowest number.
use Rattle.std.specs.Prelude.{ℕ, ◌+◌, ◌<◌, ◌≡◌, Bool, true, false, length, drop, Err, Ok}
use mathlib.Core.List.{List, [], ◌∷◌, Memᴰ}
use Rattle.fields.specs.declared.Fault.{Fault}
use Rattle.fields.specs.declared.Fault.TheVariants.{NoFrame, ValueLate, Unbalanced, Unsorted, Repeated, NameSize, DataSize, Depth, Subkeys}
use Rattle.fields.specs.declared.Flaw.{Flaw}
use Rattle.fields.specs.Faults.{number_of, flaw, nowhere}
use Rattle.forest.specs.Faults.{Shape, frame_len, shape_of, Open, State, within, behind, is_laid, is_timely, is_inside, is_sorted, is_single, is_named, is_small, is_shallow, is_few, frame_fault}

-- "the earliest frame": none of the frames before a position is at fault, and what is open there
pub data Comes (s : List ℕ) : ℕ → State → Type 0 where
  start : Comes s 0 (within [])
  past : {at : ℕ} {st : State} → Comes s at st → frame_fault (shape_of (drop at s)) st ≡ Ok tt
      → Comes s (at + frame_len (drop at s)) (behind (shape_of (drop at s)) st)

-- a test of one frame: the cause that it looks for, and whether the frame passes
pub record Test : Type 0 where
  pub cause : Fault
  pub passes : Bool

abbrev pub test : Fault → Bool → Test
test c t = record { cause = c; passes = t }

unfoldable pub tests : Shape → State → List Test
tests f st =
    test NoFrame (is_laid f) ∷ test ValueLate (is_timely f st) ∷ test Unbalanced (is_inside f st) ∷ test Unsorted (is_sorted f st) ∷ test Repeated (is_single f st)
    ∷ test NameSize (is_named f) ∷ test DataSize (is_small f) ∷ test Depth (is_shallow f st) ∷ test Subkeys (is_few f st) ∷ []

-- "the lowest number": a test for this cause fails, and every test with a lower number passes
pub record Lowest (ts : List Test) (c : Fault) : Type 0 where
  pub fails : (t : Test) × Memᴰ t ts × (t.cause ≡ c) × (t.passes ≡ false)
  pub lower : (t : Test) → Memᴰ t ts → number_of t.cause < number_of c → t.passes ≡ true

-- the first fault: that of the frame which starts at a position, or that the stream ends there without the root's closing
pub data FirstFault (s : List ℕ) (f : Flaw) (at : ℕ) : Type 0 where
  in_frame : {st : State} → Comes s at st → at < length s → frame_fault (shape_of (drop at s)) st ≡ Err f → Lowest (tests (shape_of (drop at s)) st) f.fault
      → FirstFault s f at
  at-end : {ks : List Open} → Comes s at (within ks) → at ≡ length s → f ≡ flaw Unbalanced nowhere → FirstFault s f at
