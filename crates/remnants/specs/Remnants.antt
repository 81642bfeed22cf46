-- What deletion left behind: the records that still lie in free cells, of which source document 004 tells that freed cells merge unwiped. d is the bins
-- data and h the hive.
use Rattle.std.specs.Prelude.{ℕ, zero, suc, ◌+◌, ◌-◌, ◌*◌, ◌/◌, cond, List, [], ◌∷◌, ◌++◌, leb, length, take, drop, Err, None, Ok, Option, Result, Some}
use Rattle.fields.specs.declared.Fault.TheVariants.{OutputShort}
use Rattle.fields.specs.Number.{u16_at}
use Rattle.fields.specs.Faults.{flaw, nowhere, no_key, refusal_of, ◌next◌, Verdict}
use Rattle.base.specs.Block.{base_fault, bins_data}
use Rattle.cells.specs.Tiling.{layout, survey_of}
use Rattle.cells.specs.Free.{Span, free_cells}
use Rattle.cells.specs.Named.{data_to, part_place}
use Rattle.records.specs.Keys.{is_key, key_narrow}
use Rattle.values.specs.Records.{is_old_value, value_narrow}
use Rattle.remnants.specs.declared.Kind.{Kind}
use Rattle.remnants.specs.declared.Kind.TheVariants as kind
use Rattle.remnants.specs.declared.Remain.{Remain}
use Rattle.cells.specs.declared.Tally.{Tally}
use Rattle.fields.specs.declared.Flaw.{Flaw}
use Rattle.fields.specs.declared.Refusal.{Refusal}

-- "has "nk" or "vk" 4 bytes further on": the bytes from there to the end of the free cell
abbrev pub rest_of : List ℕ → ℕ → ℕ → List ℕ
rest_of d o end = data_to d o end

-- "where the record starting there ends inside that free cell and has an admissible name": what these bytes start with
unfoldable pub kind_of : List ℕ → Option Kind
kind_of r = cond (is_key r) (Some kind.Key) (cond (is_old_value r) (Some kind.Value) None)

unfoldable pub kind_at : List ℕ → ℕ → ℕ → Option Kind
kind_at d o end = kind_of (rest_of d o end)

-- "Each is reported with its kind and name length": and where in the file its name stands, and whether it has one byte per character; r is the record at o
unfoldable pub remain_of : Kind → List ℕ → ℕ → Remain
remain_of kind.Key r o =
    record { at = record { 0 = o }; kind = kind.Key; name = part_place (record { 0 = o }) 76 (u16_at r 72); len = u16_at r 72; narrow = key_narrow r }
remain_of kind.Value r o =
    record { at = record { 0 = o }; kind = kind.Value; name = part_place (record { 0 = o }) 20 (u16_at r 2); len = u16_at r 2; narrow = value_narrow r }

unfoldable pub remain_at : List ℕ → ℕ → ℕ → Kind → Remain
remain_at d o end k = remain_of k (rest_of d o end) o

-- one finding, or none
abbrev pub spot : Option Kind → (Kind → Remain) → List Remain
spot (Some k) remain = remain k ∷ []
spot None remain = []

-- "every offset that is a multiple of 8 inside a free cell": n of them from an offset on, and all up to the cell's end
unfoldable pub spots_n : ℕ → List ℕ → ℕ → ℕ → List Remain
spots_n zero d o end = []
spots_n (suc n) d o end = spot (kind_at d o end) (remain_at d o end) ++ spots_n n d (o + 8) end

unfoldable pub spots_in : List ℕ → ℕ → ℕ → List Remain
spots_in d o end = spots_n ((end - o) / 8) d o end

-- "in rising order": one free cell after the other
unfoldable pub spots_of : List ℕ → List Span → List Remain
spots_of d [] = []
spots_of d (s ∷ ss) = spots_in d s.from s.to ++ spots_of d ss

unfoldable pub remnants_of : List ℕ → List Remain
remnants_of d = spots_of d (free_cells (layout d 0))

-- "by steps that resume at an offset": those "at or past that offset"
unfoldable pub not_below : ℕ → List Remain → List Remain
not_below from [] = []
not_below from (x ∷ xs) = cond (leb from x.at.0) (x ∷ not_below from xs) (not_below from xs)

-- "Only bins and cells need be well formed for this: 1 to 7, 9 and 10 apply"
abbrev pub flaw_in : Result Tally Flaw → Verdict
flaw_in (Ok t) = Ok tt
flaw_in (Err f) = Err f

unfoldable pub tiles_fault : List ℕ → Verdict
tiles_fault h = base_fault h next flaw_in (survey_of (layout (bins_data h) 0) 0 0 0)

-- a step: the first of them; "With none left at or past that offset a step says "done"."
abbrev pub first_of : List Remain → Result (Option Remain) Refusal
first_of [] = Ok None
first_of (x ∷ xs) = Ok (Some x)

abbrev pub stepped : Verdict → Result (Option Remain) Refusal → Result (Option Remain) Refusal
stepped (Ok tt) a = a
stepped (Err f) a = Err (refusal_of no_key f)

unfoldable pub remnant_answer : List ℕ → ℕ → Result (Option Remain) Refusal
remnant_answer h from = stepped (tiles_fault h) (first_of (not_below from (remnants_of (bins_data h))))

-- The same in bulk: four words for each, its offset, 1 for a key or 2 for a value, its name's length, and 1 where that has one byte per character.
abbrev pub kind_word : Kind → ℕ
kind_word kind.Key = 1
kind_word kind.Value = 2

abbrev pub words_of : Remain → List ℕ
words_of x = x.at.0 ∷ kind_word x.kind ∷ x.len ∷ cond x.narrow 1 0 ∷ []

unfoldable pub rows_of : List Remain → List ℕ
rows_of [] = []
rows_of (x ∷ xs) = words_of x ++ rows_of xs

-- as many as there is room for, in so many words; 20 where one is left and there is no room for it
abbrev pub fitting : ℕ → List Remain → List Remain
fitting room xs = take (room / 4) xs

abbrev pub filled_with : ℕ → List Remain → Result (Option ℕ) Refusal
filled_with room [] = Ok None
filled_with room (x ∷ xs) =
    cond (leb 4 room) (Ok (Some (length (fitting room (x ∷ xs))))) (Err (refusal_of no_key (flaw OutputShort nowhere)))

abbrev pub filled_by : Verdict → Result (Option ℕ) Refusal → Result (Option ℕ) Refusal
filled_by (Ok tt) a = a
filled_by (Err f) a = Err (refusal_of no_key f)

unfoldable pub rows_answer : List ℕ → ℕ → ℕ → Result (Option ℕ) Refusal
rows_answer h from room = filled_by (tiles_fault h) (filled_with room (not_below from (remnants_of (bins_data h))))

-- the words after it: the rows, and those behind them as they were
unfoldable pub poured : List Remain → List ℕ → List ℕ
poured xs rows = rows_of (fitting (length rows) xs) ++ drop (4 * length (fitting (length rows) xs)) rows

abbrev pub out_by : Verdict → List ℕ → List ℕ → List ℕ
out_by (Ok tt) after rows = after
out_by (Err f) after rows = rows

unfoldable pub rows_out : List ℕ → ℕ → List ℕ → List ℕ
rows_out h from rows = out_by (tiles_fault h) (poured (not_below from (remnants_of (bins_data h))) rows) rows
