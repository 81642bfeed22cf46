-- What is wrong with a stream, a number for each cause: the earliest frame at fault answers, and of its faults the lowest number. Total on any bytes.
use Rattle.std.specs.Prelude.{ℕ, zero, suc, ◌+◌, ◌-◌, ◌%◌, Bool, true, false, cond, not, ◌&&◌, List, [], ◌∷◌, eqb, leb, length, take, drop, Err, Ok}
use Rattle.fields.specs.declared.Fault.TheVariants.{NoFrame, ValueLate, Unbalanced, Unsorted, Repeated, NameSize, DataSize, Depth, Subkeys}
use Rattle.fields.specs.declared.Flaw.{Flaw}
use Rattle.fields.specs.Number.{u16_at, u32_at, u64_at}
use Rattle.fields.specs.Faults.{flaw, nowhere, unless, ◌next◌, Verdict}
use Rattle.names.specs.Codes.{codes, has_code, backslash}
use Rattle.names.specs.Comparison.{compare, same_name}
use Rattle.tree.specs.Tree.{is_before}
use Rattle.forest.specs.Forest.{Item}

-- ---- a frame, at the start of what is left of a stream

-- what a frame says; `unlaid` is a frame that is "not laid out as in request 10"
pub data Shape : Type 0 where
  unlaid : Shape
  opens : (stamp : ℕ) (name : List ℕ) → Shape
  holds : Item → Shape
  closes : Shape

-- "4-byte payload length, 2-byte kind, payload": how long the frame is that starts here, and its payload
unfoldable pub frame_len : List ℕ → ℕ
frame_len r = 6 + u32_at r 0

abbrev pub payload : List ℕ → List ℕ
payload r = take (u32_at r 0) (drop 6 r)

-- "header or payload cut"
unfoldable pub is_there : List ℕ → Bool
is_there r = leb 6 (length r) && leb (frame_len r) (length r)

abbrev pub is_even : ℕ → Bool
is_even n = eqb (n % 2) 0

-- "16 with a payload under 8 bytes or of odd length"
unfoldable pub open_shape : List ℕ → Shape
open_shape p = cond (leb 8 (length p) && is_even (length p)) (opens (u64_at p 0) (codes false (drop 8 p))) unlaid

-- "17 under 8 bytes, with a name length that is odd or more than the rest"
unfoldable pub item_shape : List ℕ → Shape
item_shape p =
    let n = u32_at p 4 in
    cond (leb 8 (length p) && (is_even n && leb n (length p - 8)))
    (holds (record { kind = u32_at p 0; name = codes false (take n (drop 8 p)); bytes = drop n (drop 8 p) }))
    unlaid

-- "18 with a payload"
unfoldable pub close_shape : List ℕ → Shape
close_shape p = cond (eqb (length p) 0) closes unlaid

-- "kind not 16, 17, 18"
unfoldable pub kind_shape : ℕ → List ℕ → Shape
kind_shape kind p = cond (eqb kind 16) (open_shape p) (cond (eqb kind 17) (item_shape p) (cond (eqb kind 18) (close_shape p) unlaid))

unfoldable pub shape_of : List ℕ → Shape
shape_of r = cond (is_there r) (kind_shape (u16_at r 4) (payload r)) unlaid

-- ---- what is open when a frame comes

-- an open key: the names of its values and of its subkeys so far, the latest first
pub record Open : Type 0 where
  pub values : List (List ℕ)
  pub subkeys : List (List ℕ)

-- the open keys, the deepest first; or the root has been closed
pub data State : Type 0 where
  within : List Open → State
  over : State

abbrev pub fresh : Open
fresh = record { values = []; subkeys = [] }

abbrev pub with_value : List ℕ → Open → Open
with_value x k = record { values = x ∷ k.values; subkeys = k.subkeys }

abbrev pub with_subkey : List ℕ → Open → Open
with_subkey x k = record { values = k.values; subkeys = x ∷ k.subkeys }

-- what is open behind a frame that is not at fault
unfoldable pub open_in : List ℕ → State → State
open_in x (within []) = within (fresh ∷ [])
open_in x (within (k ∷ ks)) = within (fresh ∷ (with_subkey x k ∷ ks))
open_in x over = over

unfoldable pub hold_in : List ℕ → State → State
hold_in x (within []) = within []
hold_in x (within (k ∷ ks)) = within (with_value x k ∷ ks)
hold_in x over = over

unfoldable pub close_in : State → State
close_in (within []) = within []
close_in (within (k ∷ [])) = over
close_in (within (k ∷ (j ∷ ks))) = within (j ∷ ks)
close_in over = over

unfoldable pub behind : Shape → State → State
behind unlaid st = st
behind (opens s x) st = open_in x st
behind (holds v) st = hold_in v.name st
behind closes st = close_in st

-- the deepest key that is open: the names of its values and of its subkeys so far; none where no key is open
unfoldable pub values_seen : State → List (List ℕ)
values_seen (within []) = []
values_seen (within (k ∷ ks)) = k.values
values_seen over = []

unfoldable pub subkeys_seen : State → List (List ℕ)
subkeys_seen (within []) = []
subkeys_seen (within (k ∷ ks)) = k.subkeys
subkeys_seen over = []

-- how many keys are open: the level of a key that opens now
unfoldable pub level_of : State → ℕ
level_of (within ks) = length ks
level_of over = 0

unfoldable pub is_over : State → Bool
is_over (within ks) = false
is_over over = true

-- ---- the tests of one frame, each true where it does not apply

-- 30
unfoldable pub is_laid : Shape → Bool
is_laid unlaid = false
is_laid (opens s x) = true
is_laid (holds v) = true
is_laid closes = true

-- 31: "value after a subkey"
unfoldable pub is_timely : Shape → State → Bool
is_timely unlaid st = true
is_timely (opens s x) st = true
is_timely (holds v) st = eqb (length (subkeys_seen st)) 0
is_timely closes st = true

-- 32: "a second root, a value or closing outside of any key, any frame after the root's closing"
unfoldable pub is_inside : Shape → State → Bool
is_inside unlaid st = true
is_inside (opens s x) st = not (is_over st)
is_inside (holds v) st = leb 1 (level_of st)
is_inside closes st = leb 1 (level_of st)

-- 33: "subkey's name not above its elder sibling's"
unfoldable pub is_above : List ℕ → List (List ℕ) → Bool
is_above x [] = true
is_above x (y ∷ ys) = is_before (compare y x)

unfoldable pub is_sorted : Shape → State → Bool
is_sorted unlaid st = true
is_sorted (opens s x) st = is_above x (subkeys_seen st)
is_sorted (holds v) st = true
is_sorted closes st = true

-- 34: "value with an earlier namesake in its key"
unfoldable pub is_new : List ℕ → List (List ℕ) → Bool
is_new x [] = true
is_new x (y ∷ ys) = not (same_name y x) && is_new x ys

unfoldable pub is_single : Shape → State → Bool
is_single unlaid st = true
is_single (opens s x) st = true
is_single (holds v) st = is_new v.name (values_seen st)
is_single closes st = true

-- 35: "key name of 0 or over 255 characters or with a backslash; value name over 16,383"
unfoldable pub is_named : Shape → Bool
is_named unlaid = true
is_named (opens s x) = leb 1 (length x) && (leb (length x) 255 && not (has_code backslash x))
is_named (holds v) = leb (length v.name) 16383
is_named closes = true

-- 36: "data over 1,048,576 bytes"
unfoldable pub is_small : Shape → Bool
is_small unlaid = true
is_small (opens s x) = true
is_small (holds v) = leb (length v.bytes) 1048576
is_small closes = true

-- 37: "key at level 513 (the root is 0)"
unfoldable pub is_shallow : Shape → State → Bool
is_shallow unlaid st = true
is_shallow (opens s x) st = leb (level_of st) 512
is_shallow (holds v) st = true
is_shallow closes st = true

-- 38: "subkey 65,536 of a key"
unfoldable pub is_few : Shape → State → Bool
is_few unlaid st = true
is_few (opens s x) st = leb (suc (length (subkeys_seen st))) 65535
is_few (holds v) st = true
is_few closes st = true

-- "of one frame 30, 31, .. 38 in this order"
unfoldable pub frame_fault : Shape → State → Verdict
frame_fault f st =
    unless (is_laid f) (flaw NoFrame nowhere)
    next unless (is_timely f st) (flaw ValueLate nowhere)
    next unless (is_inside f st) (flaw Unbalanced nowhere)
    next unless (is_sorted f st) (flaw Unsorted nowhere)
    next unless (is_single f st) (flaw Repeated nowhere)
    next unless (is_named f) (flaw NameSize nowhere)
    next unless (is_small f) (flaw DataSize nowhere)
    next unless (is_shallow f st) (flaw Depth nowhere)
    next unless (is_few f st) (flaw Subkeys nowhere)

-- ---- the whole stream

-- no fault, or a flaw and the position in the stream where the frame at fault starts
pub data Judged : Type 0 where
  Fine : Judged
  Wrong : Flaw → ℕ → Judged

-- "a key open, or no frame at all", at "the stream's end"
abbrev pub ended : State → ℕ → Judged
ended over at = Fine
ended (within ks) at = Wrong (flaw Unbalanced nowhere) at

abbrev pub judged : Verdict → ℕ → Judged → Judged
judged (Ok tt) at go = go
judged (Err f) at go = Wrong f at

-- frame by frame; r is what is left of the stream from a position on. Each frame has at least 6 bytes, so as many turns as there are bytes are enough.
unfoldable pub judge_n : ℕ → List ℕ → ℕ → State → Judged
judge_n zero r at st = ended st at
judge_n (suc n) r at st =
    let f = shape_of r in
    let go = judge_n n (drop (frame_len r) r) (at + frame_len r) (behind f st) in
    cond (eqb (length r) 0) (ended st at) (judged (frame_fault f st) at go)

unfoldable pub judge : List ℕ → ℕ → State → Judged
judge r at st = judge_n (length r) r at st

abbrev pub stream_fault : List ℕ → Judged
stream_fault s = judge s 0 (within [])
