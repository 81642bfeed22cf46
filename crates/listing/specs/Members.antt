-- What a key holds, one by one, for a host that lists it. The tests are lookup's, in its order: 1 to 7; the key's own record; its list's head; "one leaf of
-- an `ri` at a time", each tested when it is reached, up to the one that has the element; then the element's own record. Each is tested "only for 11
-- and 12 (not order, hash, parent or total)". Once the given key's own record is accepted, it is the key under examination. h is the hive, d its bins data, o the key's offset, n counts from 0.
use Rattle.std.specs.Prelude.{ℕ, ◌-◌, cond, List, [], ◌∷◌, eqb, leb, length, get_or, Err, None, Ok, Option, Result, Some}
use Rattle.fields.specs.declared.Offset.{Offset}
use Rattle.fields.specs.Number.{u64_at}
use Rattle.fields.specs.Faults.{nowhere, no_key, refusal_of, ◌next◌, Verdict}
use Rattle.base.specs.Block.{sector, minor_of, bins_data, base_fault}
use Rattle.cells.specs.Rule.{Header}
use Rattle.cells.specs.Named.{data_at, part_place}
use Rattle.records.specs.declared.Key.{Key}
use Rattle.records.specs.declared.Name.{Name}
use Rattle.records.specs.Keys.{key_fault, key_of}
use Rattle.records.specs.Lists.{leaf_fault, head_fault, leaf_children, leaves_of}
use Rattle.records.specs.Terms.{no_child}
use Rattle.values.specs.Records.{value_fault, value_of}
use Rattle.values.specs.Lists.{values_of, value_list_fault, whole_value_fault}
use Rattle.search.specs.Search.{on_sound}
use Rattle.lookup.specs.Answers.{info_of, info_where, copied_to, written}
use Rattle.listing.specs.declared.Entry.{Entry}
use Rattle.listing.specs.declared.Facts.{Facts}
use Rattle.fields.specs.declared.Flaw.{Flaw}
use Rattle.fields.specs.declared.Refusal.{Refusal}
use Rattle.lookup.specs.declared.Info.{Info}

-- a record that a list names, and where in the file its name stands
unfoldable pub entry_of : Offset → Name → Entry
entry_of o n = record { at = o; name = part_place n.cell n.at n.len; len = n.len; narrow = n.narrow }

-- what a key lists, where it passes its tests
abbrev pub member_where : Offset → Verdict → Entry → Result (Option Entry) Refusal
member_where k (Ok tt) e = Ok (Some e)
member_where k (Err f) e = Err (refusal_of k f)

-- what is named below a key, past the end "no more", or the fault on the way
abbrev pub member_of : Offset → Result (Option Offset) Flaw → (Offset → Result (Option Entry) Refusal) → Result (Option Entry) Refusal
member_of k (Ok (Some o)) go = go o
member_of k (Ok None) go = Ok None
member_of k (Err f) go = Err (refusal_of k f)

-- tests that are made before the key is accepted, a hive's own 1 to 7 and that of the key's record, then what follows them
abbrev pub in_hive : Verdict → Result (Option Entry) Refusal → Result (Option Entry) Refusal
in_hive (Ok tt) a = a
in_hive (Err f) a = Err (refusal_of no_key f)

-- element n of the elements of some leaves: in the first leaf if that has so many, else the rest are counted from its end on
unfoldable pub nth_in : List ℕ → List Offset → ℕ → Result (Option Offset) Flaw
nth_in d [] n = Ok None
nth_in d (l ∷ ls) n =
    let cs = leaf_children (data_at d l) in
    on_sound (leaf_fault Header d [] l) (cond (leb (length cs) n) (nth_in d ls (n - length cs)) (Ok (Some (get_or cs n no_child).at)))

-- below a key: "The subkey count is only asked whether it is 0"
unfoldable pub nth_below : List ℕ → Key → ℕ → Result (Option Offset) Flaw
nth_below d k n = cond (eqb k.subkeys 0) (Ok None) (on_sound (head_fault Header d [] k.list) (nth_in d (leaves_of d k.list) n))

unfoldable pub subkey_below : List ℕ → Offset → Key → ℕ → Result (Option Entry) Refusal
subkey_below d o k n = member_of o (nth_below d k n) (λ c. member_where o (key_fault Header d [] c) (entry_of c (key_of d c).name))

unfoldable pub subkey_in : List ℕ → Offset → ℕ → Result (Option Entry) Refusal
subkey_in d o n = in_hive (key_fault Header d [] o) (subkey_below d o (key_of d o) n)

-- nth_subkey
unfoldable pub subkey_answer : List ℕ → Offset → ℕ → Result (Option Entry) Refusal
subkey_answer h o n = in_hive (base_fault h) (subkey_in (bins_data h) o n)

-- value n of a key
unfoldable pub nth_of : List ℕ → Key → ℕ → Result (Option Offset) Flaw
nth_of d k n = on_sound (value_list_fault Header d [] k) (cond (leb (length (values_of d k)) n) (Ok None) (Ok (Some (get_or (values_of d k) n nowhere))))

unfoldable pub value_below : List ℕ → ℕ → Offset → Key → ℕ → Result (Option Entry) Refusal
value_below d minor o k n = member_of o (nth_of d k n) (λ v. member_where o (value_fault Header d [] v) (entry_of v (value_of d minor v).name))

unfoldable pub value_in : List ℕ → ℕ → Offset → ℕ → Result (Option Entry) Refusal
value_in d minor o n = in_hive (key_fault Header d [] o) (value_below d minor o (key_of d o) n)

-- nth_value
unfoldable pub value_answer : List ℕ → Offset → ℕ → Result (Option Entry) Refusal
value_answer h o n = in_hive (base_fault h) (value_in (bins_data h) (minor_of (sector h)) o n)

-- info_at: as `value_info` answers for the value that it finds; no key is asked, and lists may be shared, so none is named
unfoldable pub info_at : List ℕ → Offset → Result Info Refusal
info_at h v =
    let d = bins_data h in
    let minor = minor_of (sector h) in
    info_where no_key (base_fault h next whole_value_fault Header d [] minor v) (info_of (value_of d minor v))

-- copy_at: as `value_copy` copies the value that it finds
unfoldable pub copy_at : List ℕ → Offset → ℕ → Result ℕ Refusal
copy_at h v n = copied_to no_key n (info_at h v)

-- the output afterwards
unfoldable pub out_at : List ℕ → Offset → List ℕ → List ℕ
out_at h v out = written (bins_data h) out (info_at h v)

-- what a key's record says of it: "Its stamp, the 64-bit number at 4 of its record, says when it was last written"
unfoldable pub facts_of : List ℕ → Offset → Facts
facts_of d o =
    let k = key_of d o in
    record { entry = entry_of o k.name; stamp = u64_at (data_at d o) 4; parent = k.parent; subkeys = k.subkeys; values = k.values }

abbrev pub facts_where : Verdict → Facts → Result Facts Refusal
facts_where (Ok tt) k = Ok k
facts_where (Err f) k = Err (refusal_of no_key f)

-- key_facts: 1 to 7, then the key's own 11 or 12
unfoldable pub facts_answer : List ℕ → Offset → Result Facts Refusal
facts_answer h o = facts_where (base_fault h next key_fault Header (bins_data h) [] o) (facts_of (bins_data h) o)
