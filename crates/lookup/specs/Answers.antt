-- The answers of the value calls: "Order: 1 to 7; 16; then the records in list order up to the first match [..]; 17; 18; for a view 19 before any data cell
-- is read; then the data's own 11 or 12"; and the same where the key is searched by halving. What is found below the key of the path is found in its
-- examination. h is the hive, us the path, x the value's name.
use Rattle.std.specs.Prelude.{ℕ, cond, List, [], ◌++◌, leb, length, take, drop, Err, None, Ok, Option, Result, Some}
use Rattle.fields.specs.declared.Offset.{Offset}
use Rattle.fields.specs.declared.Place.{Place}
use Rattle.fields.specs.declared.Fault.TheVariants.{NoKey, NoValue, Segmented, OutputShort}
use Rattle.fields.specs.Faults.{flaw, nowhere, ◌next◌, refusal_of, Verdict}
use Rattle.base.specs.Block.{sector, minor_of, bins_data}
use Rattle.cells.specs.Rule.{Header}
use Rattle.cells.specs.Named.{part_place}
use Rattle.records.specs.Keys.{key_of}
use Rattle.values.specs.declared.Value.{Value}
use Rattle.values.specs.declared.ValueData.{ValueData}
use Rattle.values.specs.declared.ValueData.TheVariants.{Inline, OneCell, Segments}
use Rattle.values.specs.Records.{value_fault, data_in, value_of}
use Rattle.values.specs.Segments.{data_fault, bytes_of, length_of}
use Rattle.values.specs.Parts.{part_of}
use Rattle.search.specs.declared.How.{How}
use Rattle.search.specs.declared.How.TheVariants.{InTurn, Halving}
use Rattle.paths.specs.declared.Way.TheVariants as way
use Rattle.paths.specs.Answers.{key_look_by, find_by}
use Rattle.lookup.specs.declared.Info.{Info}
use Rattle.lookup.specs.declared.Spot.TheVariants.{Found, Missing}
use Rattle.lookup.specs.Search.{lookup_value}
use Rattle.fields.specs.declared.Flaw.{Flaw}
use Rattle.fields.specs.declared.Refusal.{Refusal}
use Rattle.lookup.specs.declared.Spot.{Spot}
use Rattle.paths.specs.declared.Way.{Way}

-- a search among the values of a key, which is the key under examination
abbrev pub in_key : Offset → Result (Option Offset) Flaw → Result Spot Refusal
in_key k (Ok (Some v)) = Ok (Found k v)
in_key k (Ok None) = Ok (Missing k)
in_key k (Err f) = Err (refusal_of k f)

-- what a value call does with the key: where there is none, 17
abbrev pub on_key : Result Way Refusal → (Offset → Result (Option Offset) Flaw) → Result Spot Refusal
on_key (Ok (way.Found o)) go = in_key o (go o)
on_key (Ok (way.Missing k)) go = Err (refusal_of k (flaw NoKey nowhere))
on_key (Err r) go = Err r

-- the value of that name, of the key of that path by either search
unfoldable pub value_look_by : How → List ℕ → List ℕ → List ℕ → Result Spot Refusal
value_look_by how h us x = on_key (key_look_by how h us) (λ o. lookup_value (bins_data h) (minor_of (sector h)) x (key_of (bins_data h) o))

abbrev pub value_look : List ℕ → List ℕ → List ℕ → Result Spot Refusal
value_look h us x = value_look_by InTurn h us x

-- where in the file the data lie: where their part stands, or the `db` of segments; no data lie at 0
unfoldable pub place_in : ValueData → Place
place_in x = let p = part_of x in part_place p.cell p.at p.len

-- "The sister call of the view gives refusal or the data's place, length and case, and the value's registry type"
unfoldable pub info_of : Value → Info
info_of x = record { kind = x.kind; content = x.content; at = place_in x.content; len = length_of x.content }

-- "19: view asked of segmented data", at the value
unfoldable pub view_fault : Offset → ValueData → Verdict
view_fault v (Inline o len) = Ok tt
view_fault v (OneCell o len) = Ok tt
view_fault v (Segments o len) = Err (flaw Segmented v)

-- of a value by itself: its record, 19 "before any data cell is read", "then the data's own 11 or 12"
unfoldable pub viewed_fault : List ℕ → ℕ → Offset → Verdict
viewed_fault d minor v =
    value_fault Header d [] v
    next view_fault v (data_in d minor v)
    next data_fault Header d [] (data_in d minor v)

-- the facts of a value where its tests are passed, in the examination of a key
abbrev pub info_where : Offset → Verdict → Info → Result Info Refusal
info_where k (Ok tt) i = Ok i
info_where k (Err f) i = Err (refusal_of k f)

-- "18: no such value"
abbrev pub value_found : Result Spot Refusal → (Offset → Offset → Result Info Refusal) → Result Info Refusal
value_found (Ok (Found k v)) go = go k v
value_found (Ok (Missing k)) go = Err (refusal_of k (flaw NoValue nowhere))
value_found (Err r) go = Err r

-- the value found, then its data's own 11 or 12
unfoldable pub info_by : How → List ℕ → List ℕ → List ℕ → Result Info Refusal
info_by how h us x =
    let d = bins_data h in
    let minor = minor_of (sector h) in
    value_found (value_look_by how h us x) (λ k v. info_where k (data_fault Header d [] (data_in d minor v)) (info_of (value_of d minor v)))

-- value_info
abbrev pub info_answer : List ℕ → List ℕ → List ℕ → Result Info Refusal
info_answer h us x = info_by InTurn h us x

-- quick_info
abbrev pub quick_info : List ℕ → List ℕ → List ℕ → Result Info Refusal
quick_info h us x = info_by Halving h us x

-- the view's sister: the same with 19 "before any data cell is read"
unfoldable pub view_by : How → List ℕ → List ℕ → List ℕ → Result Info Refusal
view_by how h us x =
    let d = bins_data h in
    let minor = minor_of (sector h) in
    value_found (value_look_by how h us x)
    (λ k v. info_where k (view_fault v (data_in d minor v) next data_fault Header d [] (data_in d minor v)) (info_of (value_of d minor v)))

-- view_info
abbrev pub view_answer : List ℕ → List ℕ → List ℕ → Result Info Refusal
view_answer h us x = view_by InTurn h us x

-- quick_view_info
abbrev pub quick_view : List ℕ → List ℕ → List ℕ → Result Info Refusal
quick_view h us x = view_by Halving h us x

-- "A view is the very part of the lent hive that holds the data, empty on refusal"
abbrev pub viewed_in : List ℕ → Result Info Refusal → List ℕ
viewed_in h (Ok i) = take i.len (drop i.at.0 h)
viewed_in h (Err f) = []

-- where in the hive that part starts; the empty part stands at its start
abbrev pub part_start : Result Info Refusal → ℕ
part_start (Ok i) = i.at.0
part_start (Err f) = 0

unfoldable pub view_start_by : How → List ℕ → List ℕ → List ℕ → ℕ
view_start_by how h us x = part_start (view_by how h us x)

unfoldable pub view_bytes_by : How → List ℕ → List ℕ → List ℕ → List ℕ
view_bytes_by how h us x = viewed_in h (view_by how h us x)

-- value_view
abbrev pub view_start : List ℕ → List ℕ → List ℕ → ℕ
view_start h us x = view_start_by InTurn h us x

abbrev pub view_bytes : List ℕ → List ℕ → List ℕ → List ℕ
view_bytes h us x = view_bytes_by InTurn h us x

-- quick_view
abbrev pub quick_view_start : List ℕ → List ℕ → List ℕ → ℕ
quick_view_start h us x = view_start_by Halving h us x

abbrev pub quick_view_bytes : List ℕ → List ℕ → List ℕ → List ℕ
quick_view_bytes h us x = view_bytes_by Halving h us x

-- "a copy checks all segments, then 20, and writes only the data's length", in the examination of a key
abbrev pub copied_to : Offset → ℕ → Result Info Refusal → Result ℕ Refusal
copied_to k n (Ok i) = cond (leb i.len n) (Ok i.len) (Err (refusal_of k (flaw OutputShort nowhere)))
copied_to k n (Err f) = Err f

-- the key that is found, or that under examination where none is
abbrev pub key_asked : Result Offset Refusal → Offset
key_asked (Ok o) = o
key_asked (Err r) = r.key

unfoldable pub copy_by : How → List ℕ → List ℕ → List ℕ → ℕ → Result ℕ Refusal
copy_by how h us x n = copied_to (key_asked (find_by how h us)) n (info_by how h us x)

abbrev pub written : List ℕ → List ℕ → Result Info Refusal → List ℕ
written d out (Ok i) = cond (leb i.len (length out)) (bytes_of d i.content ++ drop i.len out) out
written d out (Err f) = out

-- the output afterwards
unfoldable pub copy_out_by : How → List ℕ → List ℕ → List ℕ → List ℕ → List ℕ
copy_out_by how h us x out = written (bins_data h) out (info_by how h us x)

-- value_copy
abbrev pub copy_answer : List ℕ → List ℕ → List ℕ → ℕ → Result ℕ Refusal
copy_answer h us x n = copy_by InTurn h us x n

abbrev pub copy_out : List ℕ → List ℕ → List ℕ → List ℕ → List ℕ
copy_out h us x out = copy_out_by InTurn h us x out

-- quick_copy
abbrev pub quick_copy : List ℕ → List ℕ → List ℕ → ℕ → Result ℕ Refusal
quick_copy h us x n = copy_by Halving h us x n

abbrev pub quick_out : List ℕ → List ℕ → List ℕ → List ℕ → List ℕ
quick_out h us x out = copy_out_by Halving h us x out
