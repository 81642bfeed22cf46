-- What the first pass over a stream s finds, in the words of the definitions.
use Rattle.std.specs.Prelude.{ℕ, zero, suc, ◌+◌, ◌-◌, ◌*◌, ◌^◌, ◌≤◌, ◌<◌, ◌≡◌, true, cond, List, [], ◌∷◌, ◌++◌, leb, length, drop, Err, None, Ok, Option, Result, Some}
use Rattle.base.specs.Block.{bins_limit}
use Rattle.layout.specs.Layout.{cell_size, stored, value_size, values_size, list_size, leaf_size, size_of}
use Rattle.fields.specs.declared.Fault.TheVariants.{Repeated}
use Rattle.fields.specs.Faults.{flaw, nowhere, Verdict}
use Rattle.forest.specs.Forest.{Item, Forest, count_of, key_count, item_names, item_frames, forest_frames}
use Rattle.forest.specs.Allowed.{Apart, KeyName, KeyAllowed, Allowed, OneRoot}
use Rattle.stream.specs.Stream.{close_frame}
use Rattle.fields.specs.declared.Flaw.{Flaw}
use Rattle.forest.specs.Faults.{Shape as Said, unlaid, opens, holds, closes, frame_len, shape_of, Open, within, over, fresh, close_in, is_new, is_named, is_small, frame_fault, Fine, Wrong, judge, stream_fault}
use Rattle.forest.specs.Behind.{add_values}
use Rattle.build_frames.specs.declared.Opening.{Opening}
use Rattle.build_frames.specs.Terms.{name_in, TextLies, NameLies, Ends}
use Rattle.build_namesakes.specs.Rows.{start_of, Row}
use Rattle.build_measure.specs.declared.Values.{Values}
use Rattle.build_measure.specs.declared.Here.{Here}
use Rattle.build_measure.specs.declared.Sofar.{Sofar}
use Rattle.build_measure.specs.declared.Tested.{Tested}
use Rattle.build_measure.specs.declared.Whole.{Whole}
use Rattle.build_measure.specs.declared.StreamFlaw.{StreamFlaw}

-- a sum of sizes, of which no more is told than that it is past the largest bins size
unfoldable pub cap : ℕ → ℕ
cap n = cond (leb n bins_limit) n (suc bins_limit)

-- ---- the values of a key

-- the value that a frame holds
unfoldable pub item_of : Said → Item
item_of (holds v) = v
item_of unlaid = record { kind = 0; name = []; bytes = [] }
item_of (opens s x) = record { kind = 0; name = []; bytes = [] }
item_of closes = record { kind = 0; name = []; bytes = [] }

-- a value with a name of at most 16,383 characters and data of at most 1,048,576 bytes
pub record Good (f : Said) : Type 0 where
  pub is : f ≡ holds (item_of f)
  pub named : is_named f ≡ true
  pub small : is_small f ≡ true

-- the size of such a value, 0 for any other frame
pub record Sized (f : Said) (r : ℕ) : Type 0 where
  pub few : r ≤ 2000000
  pub good : 0 < r → Good f
  pub size : 0 < r → r ≡ value_size (item_of f)
  pub other : r ≡ 0 → Good f → ⊥

-- n values whose frames stand in a row from a position on
unfoldable pub items_from : List ℕ → ℕ → ℕ → List Item
items_from s at zero = []
items_from s at (suc n) = item_of (shape_of (drop at s)) ∷ items_from s (at + frame_len (drop at s)) n

-- n good values in a row from a position on, which end at another: their sizes added, and each has six bytes at least
pub record Passed (s : List ℕ) (at n end size : ℕ) : Type 0 where
  pub each : (j : ℕ) → j < n → Good (shape_of (drop (start_of s at j) s))
  pub ends : end ≡ start_of s at n
  pub inside : end ≤ length s
  pub room : at + 6 * n ≤ end
  pub size_is : size ≡ cap (values_size (items_from s at n))

-- all good values from a position on
pub record AllValues (s : List ℕ) (at : ℕ) (r : Values) : Type 0 where
  pub passed : Passed s at r.count r.at r.size
  pub last : Good (shape_of (drop r.at s)) → ⊥

-- how many in a row are asked for namesakes: these, and the frame behind them where that is a value too
pub record Asked (s : List ℕ) (at : ℕ) (r : Values) (n : ℕ) : Type 0 where
  pub row : Row s at n
  pub least : r.count ≤ n
  pub most : n ≤ suc r.count
  pub held : (v : Item) → shape_of (drop r.at s) ≡ holds v → r.count < n

-- no value has an earlier namesake: they are passed, and the frame behind them, where it is a value, is new
pub record NoneTwice (s : List ℕ) (at : ℕ) (r : Values) : Type 0 where
  pub judged : (ks : List Open) → judge (drop at s) at (within (fresh ∷ ks)) ≡ judge (drop r.at s) r.at (within (add_values (items_from s at r.count) fresh ∷ ks))
  pub apart : Apart (item_names (items_from s at r.count))
  pub new : (v : Item) → shape_of (drop r.at s) ≡ holds v → is_new v.name (add_values (items_from s at r.count) fresh).values ≡ true

-- one has, and is at fault where its frame starts
abbrev pub TwiceAt : List ℕ → ℕ → ℕ → Type 0
TwiceAt s at p = (ks : List Open) → judge (drop at s) at (within (fresh ∷ ks)) ≡ Wrong (flaw Repeated nowhere) p

abbrev pub TwiceIn : List ℕ → ℕ → Values → Option ℕ → Type 0
TwiceIn s at r None = NoneTwice s at r
TwiceIn s at r (Some p) = TwiceAt s at p

-- ---- a frame behind the values of a key that is open

-- the names of the subkeys before it, the latest first: so many, and the name of the latest
pub record Elders (s : List ℕ) (h : Here) (ys : List (List ℕ)) : Type 0 where
  pub count : length ys ≡ h.subkeys
  pub latest : (x : List ℕ) (xs : List (List ℕ)) → ys ≡ x ∷ xs → x ≡ name_in s h.elder

-- where it comes: at so many levels below the root, behind these subkeys; a value that comes before any subkey is new
pub record Stands (s : List ℕ) (f : Said) (h : Here) (k : Open) (ks : List Open) : Type 0 where
  pub level : length ks ≡ h.level
  pub elders : Elders s h k.subkeys
  pub new : (v : Item) → f ≡ holds v → h.subkeys ≡ 0 → is_new v.name k.values ≡ true

-- what is wrong with it
abbrev pub FaultHere : List ℕ → Said → Here → Verdict → Type 0
FaultHere s f h r = (k : Open) (ks : List Open) → Stands s f h k ks → r ≡ frame_fault f (within (k ∷ ks))

-- the numbers that are reckoned with fit
pub record HereFits (s : List ℕ) (h : Here) : Type 0 where
  pub elder : TextLies s h.elder
  pub level : h.level ≤ 512
  pub few : h.subkeys ≤ 65535

-- ---- the next frame of a key that is open, behind its values

-- no good value stands there that was not passed
pub record StepFits (s : List ℕ) (p : ℕ) (h : Here) : Type 0 where
  pub inside : p ≤ length s
  pub here : HereFits s h
  pub no_value : h.subkeys ≡ 0 → Good (shape_of (drop p s)) → ⊥

-- a subkey opens, and nothing is wrong with it
pub record KeyStep (s : List ℕ) (p : ℕ) (h : Here) (o : Opening) : Type 0 where
  pub says : shape_of (drop p s) ≡ opens o.stamp (name_in s o.name)
  pub lies : NameLies s o.name
  pub sound : (k : Open) (ks : List Open) → Stands s (shape_of (drop p s)) h k ks → frame_fault (shape_of (drop p s)) (within (k ∷ ks)) ≡ Ok tt

-- something is wrong there
abbrev pub WrongHere : List ℕ → ℕ → Here → Flaw → Type 0
WrongHere s p h x = (k : Open) (ks : List Open) → Stands s (shape_of (drop p s)) h k ks → judge (drop p s) p (within (k ∷ ks)) ≡ Wrong x p

abbrev pub StepAs : List ℕ → ℕ → Here → Result (Option Opening) Flaw → Type 0
StepAs s p h (Ok (Some o)) = KeyStep s p h o
StepAs s p h (Ok None) = shape_of (drop p s) ≡ closes
StepAs s p h (Err x) = WrongHere s p h x

-- ---- the sums of a key that is open

-- behind its values: their sizes and that of the value list
pub record Begun (s : List ℕ) (at : ℕ) (r : Values) (w : Sofar) : Type 0 where
  pub place : w.at ≡ r.at
  pub size_is : w.size ≡ cap (values_size (items_from s at r.count) + list_size r.count)
  pub keys : w.keys ≡ 0
  pub subkeys : w.subkeys ≡ 0
  pub elder : TextLies s w.elder

-- room for one subkey more
pub record AddFits (s : List ℕ) (w : Sofar) (o : Opening) (t : Tested) : Type 0 where
  pub lies : NameLies s o.name
  pub short : o.name.len ≤ 510
  pub size_fits : w.size ≤ suc bins_limit
  pub below-fits : t.size ≤ suc bins_limit
  pub keys-fit : w.keys + t.keys + 1 < 2 ^ 64
  pub few : w.subkeys < 65535

-- behind one subkey more: its own cell, and those below it
pub record Added (s : List ℕ) (w : Sofar) (o : Opening) (t : Tested) (r : Sofar) : Type 0 where
  pub place : r.at ≡ t.at
  pub size_is : r.size ≡ cap (w.size + (cell_size (76 + length (stored (name_in s o.name))) + t.size))
  pub keys : r.keys ≡ w.keys + t.keys + 1
  pub subkeys : r.subkeys ≡ w.subkeys + 1
  pub elder : r.elder ≡ o.name

-- behind its closing frame: its leaf
pub record Ended (s : List ℕ) (w : Sofar) (t : Tested) : Type 0 where
  pub place : Ends s w.at t.at
  pub size_is : t.size ≡ cap (w.size + leaf_size w.subkeys)
  pub keys : t.keys ≡ w.keys

-- ---- a key whose opening frame was passed

-- up to its closing frame: its values and the keys below it, the sizes of their cells, and what is judged behind it
pub record ClosedAs (s : List ℕ) (at level : ℕ) (t : Tested) : Type 0 where
  pub items : List Item
  pub below : Forest
  pub frames : drop at s ≡ item_frames items ++ (forest_frames below ++ (close_frame ++ drop t.at s))
  pub own : (n : ℕ) (x : List ℕ) → n < 2 ^ 64 → KeyName x → KeyAllowed n x items below
  pub levels : Allowed (512 - level) below
  pub size_is : t.size ≡ cap (values_size items + (list_size (length items) + (size_of below + leaf_size (count_of below))))
  pub keys : t.keys ≡ key_count below
  pub inside : t.at ≤ length s
  pub room : at + 6 * t.keys + 6 ≤ t.at
  pub judged : (ks : List Open) → length ks ≡ level → judge (drop at s) at (within (fresh ∷ ks)) ≡ judge (drop t.at s) t.at (close_in (within (fresh ∷ ks)))

abbrev pub MeasuredAs : List ℕ → ℕ → ℕ → Result Tested StreamFlaw → Type 0
MeasuredAs s at level (Ok t) = ClosedAs s at level t
MeasuredAs s at level (Err x) = (ks : List Open) → length ks ≡ level → judge (drop at s) at (within (fresh ∷ ks)) ≡ Wrong x.flaw x.at

-- ---- the whole stream

-- its first frame opens a key
pub record RootOpens (s : List ℕ) (o : Opening) : Type 0 where
  pub says : shape_of (drop 0 s) ≡ opens o.stamp (name_in s o.name)
  pub lies : NameLies s o.name

-- the root, with a name of a key
pub record RootFrame (s : List ℕ) (o : Opening) : Type 0 where
  pub opens : RootOpens s o
  pub named : is_named (shape_of (drop 0 s)) ≡ true

abbrev pub FirstAs : List ℕ → Result Opening Flaw → Type 0
FirstAs s (Ok o) = RootFrame s o
FirstAs s (Err x) = stream_fault s ≡ Wrong x 0

-- behind the root's closing frame: the stream's end, or a frame at fault
abbrev pub AfterAs : List ℕ → ℕ → Verdict → Type 0
AfterAs s p (Ok tt) = p ≡ length s
AfterAs s p (Err x) = judge (drop p s) p over ≡ Wrong x p

-- the root's own cell with those below it, and the root with the keys below it
pub record RootFits (s : List ℕ) (o : Opening) (t : Tested) : Type 0 where
  pub lies : NameLies s o.name
  pub short : o.name.len ≤ 510
  pub below-fits : t.size ≤ suc bins_limit
  pub keys-fit : t.keys + 1 < 2 ^ 64

pub record Summed (s : List ℕ) (o : Opening) (t : Tested) (r : Whole) : Type 0 where
  pub size_is : r.size ≡ cap (cell_size (76 + length (stored (name_in s o.name))) + t.size)
  pub keys : r.keys ≡ t.keys + 1

-- no fault: the stream is that of an allowed forest with one root, whose sizes and keys these are
pub record FitsAs (s : List ℕ) (r : Whole) : Type 0 where
  pub fine : stream_fault s ≡ Fine
  pub forest : Forest
  pub frames : s ≡ forest_frames forest
  pub root : OneRoot forest
  pub size_is : r.size ≡ cap (size_of forest)
  pub keys : r.keys ≡ key_count forest

abbrev pub JudgedAs : List ℕ → Result Whole StreamFlaw → Type 0
JudgedAs s (Ok r) = FitsAs s r
JudgedAs s (Err x) = stream_fault s ≡ Wrong x.flaw x.at
