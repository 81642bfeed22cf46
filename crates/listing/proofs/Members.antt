-- The calls: a law for each way out of a leaf, a list, a key and a value.
use Prim.Native.Nat.{ℕ, ◌+◌, ◌-◌, ◌<◌, ◌≤◌}
use native.Mathlib.Omega.{arith}
use native.Mathlib.Numerals.{add-one}
use mathlib.Core.Path.{◌≡◌, ap, ◌∙◌}
use mathlib.Core.List.{List, []}
use lib.ListN.{length, get_or, drop}
use lib.Seq.{drop-cons}
use borrow.Author.Tests.{eq-eqb, ne_eqb, le-leb, lt-leb}
use Rattle.fields.specs.declared.Flaw.{Flaw}
use Rattle.fields.specs.declared.Offset.{Offset}
use Rattle.fields.specs.declared.Refusal.{Refusal}
use Rattle.fields.specs.Number.{u64_at}
use Rattle.fields.specs.Faults.{nowhere, no_key, refusal_of, ◌next◌, Verdict}
use Rattle.fields.proofs.Firsts.{on, stop, both}
use Rattle.fields.proofs.Loops.{drop_all}
use Rattle.base.specs.Block.{sector, minor_of, bins_data, base_fault}
use Rattle.cells.specs.Rule.{Header}
use Rattle.cells.specs.Named.{data_at, part_in}
use Rattle.cells.proofs.Parts.{part_length, u64-part}
use Rattle.records.specs.declared.Child.{Child}
use Rattle.records.specs.declared.Key.{Key}
use Rattle.records.specs.declared.Leaf.{Leaf}
use Rattle.records.specs.declared.Leaves.{Leaves}
use Rattle.records.specs.Keys.{key_fault, key_in, key_of, keyed}
use Rattle.records.specs.Lists.{leaf_children, leaf_fault, head_fault}
use Rattle.records.specs.Terms.{leaf_of, leafed, ElementsLie, child_named, leaves_at, headed, LeavesLie, leaves_named}
use Rattle.records.proofs.LawsKey.{key-room}
use Rattle.records.proofs.LawsAnswer.{keyed-whole, keyed-flawed, leafed-whole, leafed-flawed, headed-whole, headed-flawed}
use Rattle.records.proofs.LawsElements.{elements-length, element-at, elements-are}
use Rattle.records.proofs.LawsPlaces.{elements_lie, leaves-lie, leaves-are, named-length, named-at}
use Rattle.values.specs.declared.Entries.{Entries}
use Rattle.values.specs.declared.Value.{Value}
use Rattle.values.specs.Entries.{entries_of}
use Rattle.values.specs.Terms.{Room, entered, Lies}
use Rattle.values.specs.Records.{value_fault, data_in, fields_of, value_of, valued}
use Rattle.values.specs.Segments.{length_of}
use Rattle.values.specs.Lists.{values_of, value_list_fault, value_entries, whole_value_fault}
use Rattle.values.proofs.LawsLists.{list-room, list-values}
use Rattle.values.proofs.LawsValues.{lies}
use Rattle.values.proofs.Rooms.{entries-length}
use Rattle.values.proofs.Segment_faults.{entered-whole, entered-flawed}
use Rattle.values.proofs.Valued_at.{is_whole, is-flawed}
use Rattle.lookup.specs.declared.Info.{Info}
use Rattle.lookup.specs.Answers.{info_of, info_where, copied_to, written}
use Rattle.lookup.proofs.Answered.{where-at}
use Rattle.listing.specs.declared.Entry.{Entry}
use Rattle.listing.specs.Members.{entry_of, member_where, nth_in, nth_below, subkey_below, subkey_in, subkey_answer, nth_of, value_below, value_in, value_answer, info_at, copy_at, out_at, facts_of, facts_where, facts_answer}
use Rattle.std.specs.Prelude.{Err, None, Ok, Some}

-- a record by its offset, which a key lists
module _ (d : List ℕ) (q o : Offset) where
  pub key-bad : {f : Flaw} → keyed (key_fault Header d [] o) (key_of d o) ≡ Err f
      → member_where q (key_fault Header d [] o) (entry_of o (key_of d o).name) ≡ Err (refusal_of q f)
  key-bad e = rw (keyed-flawed (key_fault Header d [] o) _ e)

  module _ {k : Key} (e : keyed (key_fault Header d [] o) (key_of d o) ≡ Ok k) where
    pub key-is : member_where q (key_fault Header d [] o) (entry_of o (key_of d o).name) ≡ Ok (Some (entry_of o k.name))
    key-is = let w = keyed-whole (key_fault Header d [] o) _ e in rw (w.0, w.1)

-- what a key's record says of it; its stamp stands at 4
module _ (d : List ℕ) (o : Offset) where
  module _ (r : 76 ≤ length (data_at d o)) where
    pub stamp-room : length (part_in d o 4 8) ≡ 8
    stamp-room = part_length (data_at d o) 4 8 (omega arith)

    pub stamp-is : u64_at (part_in d o 4 8) 0 ≡ u64_at (data_at d o) 4
    stamp-is = u64-part (data_at d o) 4 8 0 (omega arith)

  pub facts-bad : {f : Flaw} → keyed (key_fault Header d [] o) (key_of d o) ≡ Err f
      → facts_where (key_fault Header d [] o) (facts_of d o) ≡ Err (refusal_of no_key f)
  facts-bad e = rw (keyed-flawed (key_fault Header d [] o) _ e)

  module _ {k : Key} (e : keyed (key_fault Header d [] o) (key_of d o) ≡ Ok k) where
    pub key-name : k.name.at < 4294967296
    unfolding key_of key_in
    key-name = let w = keyed-whole (key_fault Header d [] o) _ e in rw w.1 (omega arith)

    pub facts-room : 76 ≤ length (data_at d o)
    facts-room = key-room Header d [] o (keyed-whole (key_fault Header d [] o) _ e).0

    pub facts-are : {x : Entry} {n : ℕ} → x ≡ entry_of o k.name → n ≡ u64_at (data_at d o) 4 → facts_where (key_fault Header d [] o) (facts_of d o)
        ≡ Ok (record { entry = x; stamp = n; parent = k.parent; subkeys = k.subkeys; values = k.values })
    unfolding facts_of
    facts-are p q = let w = keyed-whole (key_fault Header d [] o) _ e in rw (p, q, w.0, w.1)

module _ (d : List ℕ) (minor : ℕ) (q v : Offset) where
  pub value-bad : {f : Flaw} → valued (value_fault Header d [] v) (value_of d minor v) ≡ Err f
      → member_where q (value_fault Header d [] v) (entry_of v (value_of d minor v).name) ≡ Err (refusal_of q f)
  value-bad e = rw (is-flawed (value_fault Header d [] v) _ e)

  module _ {x : Value} (e : valued (value_fault Header d [] v) (value_of d minor v) ≡ Ok x) where
    pub value-is : member_where q (value_fault Header d [] v) (entry_of v (value_of d minor v).name) ≡ Ok (Some (entry_of v x.name))
    value-is = let w = is_whole (value_fault Header d [] v) _ e in rw (w.0, w.1)

module _ (d : List ℕ) (minor : ℕ) (v : Offset) {x : Value} (e : valued (value_fault Header d [] v) (value_of d minor v) ≡ Ok x) where
  pub value-name : x.name.at < 4294967296
  unfolding value_of fields_of
  value-name = let w = is_whole (value_fault Header d [] v) _ e in rw (← w.1) (omega arith)

-- the leaves from j on: what is left of n among them answers as n among all of them does
module _ (d : List ℕ) (ls : List Offset) (n j left : ℕ) (inv : nth_in d ls n ≡ nth_in d (drop j ls) left) where
  pub turn_end : length ls ≤ j → nth_in d ls n ≡ Ok None
  unfolding nth_in
  turn_end p = inv ∙ rw (drop_all ls j p)

  module _ (o : Offset) (more : j < length ls) (is : o ≡ get_or ls j nowhere) where
    pub turn-bad : {f : Flaw} → leafed (leaf_fault Header d [] o) (leaf_of d o) ≡ Err f → nth_in d ls n ≡ Err f
    unfolding nth_in
    turn-bad e = inv ∙ rw (drop-cons ls j nowhere more, ← is, leafed-flawed (leaf_fault Header d [] o) _ e)

    module _ {l : Leaf} (e : leafed (leaf_fault Header d [] o) (leaf_of d o) ≡ Ok l) where
      pub leaf_room : ElementsLie d l
      leaf_room = let w = leafed-whole (leaf_fault Header d [] o) _ e in rw w.1 (elements_lie Header d [] o w.0)

      has : length (leaf_children (data_at d o)) ≡ l.count
      has =
          let w = leafed-whole (leaf_fault Header d [] o) _ e in
          ap length (elements-are d o w.1) ∙ elements-length d l

      pub turn-here : left < l.count → {c : Child} → c ≡ child_named d l left → nth_in d ls n ≡ Ok (Some c.at)
      unfolding nth_in
      turn-here p {c} q =
          let w = leafed-whole (leaf_fault Header d [] o) _ e in
          let s = element-at d l left p q in
          inv
          ∙ rw (drop-cons ls j nowhere more, ← is, w.0, lt-leb (length (leaf_children (data_at d o))) left (omega (arith, has)), elements-are d o w.1, ← s)

      pub turn_on : l.count ≤ left → nth_in d ls n ≡ nth_in d (drop (j + 1) ls) (left - l.count)
      unfolding nth_in
      turn_on p =
          let w = leafed-whole (leaf_fault Header d [] o) _ e in
          inv
          ∙ rw (drop-cons ls j nowhere more, ← is, w.0, le-leb (length (leaf_children (data_at d o))) left (omega (arith, has)), has, add-one j)

-- below a key
module _ (d : List ℕ) (k : Key) (n : ℕ) where
  pub below_none : k.subkeys ≡ 0 → nth_below d k n ≡ Ok None
  unfolding nth_below
  below_none e = rw (eq-eqb k.subkeys 0 e)

  pub below-bad : (k.subkeys ≡ 0 → ⊥) → {f : Flaw} → headed (head_fault Header d [] k.list) (leaves_at d k.list) ≡ Err f
      → nth_below d k n ≡ Err f
  unfolding nth_below
  below-bad z e = rw (ne_eqb k.subkeys 0 z, headed-flawed (head_fault Header d [] k.list) _ e)

  module _ {ls : Leaves} (e : headed (head_fault Header d [] k.list) (leaves_at d k.list) ≡ Ok ls) where
    pub below-room : LeavesLie d ls
    below-room = let w = headed-whole (head_fault Header d [] k.list) _ e in rw w.1 (leaves-lie Header d [] k.list w.0)

    pub below-is : (k.subkeys ≡ 0 → ⊥) → nth_below d k n ≡ nth_in d (leaves_named d ls) n
    unfolding nth_below
    below-is z =
        let w = headed-whole (head_fault Header d [] k.list) _ e in
        rw (ne_eqb k.subkeys 0 z, w.0, w.1, leaves-are d k.list)

  -- the values of a key
  pub list-bad : {f : Flaw} → entered (value_list_fault Header d [] k) (value_entries k) ≡ Err f → nth_of d k n ≡ Err f
  unfolding nth_of
  list-bad e = rw (entered-flawed (value_list_fault Header d [] k) _ e)

  module _ {e : Entries} (q : entered (value_list_fault Header d [] k) (value_entries k) ≡ Ok e) where
    whole : (value_list_fault Header d [] k ≡ Ok tt) × (values_of d k ≡ entries_of d e)
    whole = let w = entered-whole (value_list_fault Header d [] k) _ q in (w.0, list-values Header d [] k w.0 e w.1)

    pub values-room : Room d e
    values-room = let w = entered-whole (value_list_fault Header d [] k) _ q in list-room Header d [] k w.0 e w.1

    pub value_there : n < e.count → {v : Offset} → v ≡ get_or (entries_of d e) n nowhere → nth_of d k n ≡ Ok (Some v)
    unfolding nth_of
    value_there p s = rw (whole.0, whole.1, lt-leb (length (entries_of d e)) n (omega (arith, entries-length d e)), ← s)

    pub value_none : e.count ≤ n → nth_of d k n ≡ Ok None
    unfolding nth_of
    value_none p = rw (whole.0, whole.1, le-leb (length (entries_of d e)) n (omega (arith, entries-length d e)))

-- from a key's offset
module _ (d : List ℕ) (o : Offset) (n : ℕ) where
  pub subkey-bad : {f : Flaw} → keyed (key_fault Header d [] o) (key_of d o) ≡ Err f → subkey_in d o n ≡ Err (refusal_of no_key f)
  unfolding subkey_in
  subkey-bad e = rw (keyed-flawed (key_fault Header d [] o) _ e)

  pub subkey-on : {k : Key} → keyed (key_fault Header d [] o) (key_of d o) ≡ Ok k → subkey_in d o n ≡ subkey_below d o k n
  unfolding subkey_in
  subkey-on e = let w = keyed-whole (key_fault Header d [] o) _ e in rw (w.0, w.1)

  module _ (k : Key) where
    pub subkey-faulty : {f : Flaw} → nth_below d k n ≡ Err f → subkey_below d o k n ≡ Err (refusal_of o f)
    unfolding subkey_below
    subkey-faulty e = rw e

    pub subkey-none : nth_below d k n ≡ Ok None → subkey_below d o k n ≡ Ok None
    unfolding subkey_below
    subkey-none e = rw e

    pub subkey-is : {c : Offset} → nth_below d k n ≡ Ok (Some c) → subkey_below d o k n ≡ member_where o (key_fault Header d [] c) (entry_of c (key_of d c).name)
    unfolding subkey_below
    subkey-is e = rw e

  module _ (minor : ℕ) where
    pub in-bad : {f : Flaw} → keyed (key_fault Header d [] o) (key_of d o) ≡ Err f → value_in d minor o n ≡ Err (refusal_of no_key f)
    unfolding value_in
    in-bad e = rw (keyed-flawed (key_fault Header d [] o) _ e)

    pub in_on : {k : Key} → keyed (key_fault Header d [] o) (key_of d o) ≡ Ok k → value_in d minor o n ≡ value_below d minor o k n
    unfolding value_in
    in_on e = let w = keyed-whole (key_fault Header d [] o) _ e in rw (w.0, w.1)

    module _ (k : Key) where
      pub in-faulty : {f : Flaw} → nth_of d k n ≡ Err f → value_below d minor o k n ≡ Err (refusal_of o f)
      unfolding value_below
      in-faulty e = rw e

      pub in-none : nth_of d k n ≡ Ok None → value_below d minor o k n ≡ Ok None
      unfolding value_below
      in-none e = rw e

      pub in_is : {v : Offset} → nth_of d k n ≡ Ok (Some v)
          → value_below d minor o k n ≡ member_where o (value_fault Header d [] v) (entry_of v (value_of d minor v).name)
      unfolding value_below
      in_is e = rw e

-- in a hive
module _ (h : List ℕ) (o : Offset) where
  module _ {f : Flaw} (e : base_fault h ≡ Err f) where
    pub subkey-stop : (n : ℕ) → subkey_answer h o n ≡ Err (refusal_of no_key f)
    unfolding subkey_answer
    subkey-stop n = rw e

    pub value-stop : (n : ℕ) → value_answer h o n ≡ Err (refusal_of no_key f)
    unfolding value_answer
    value-stop n = rw e

    pub info-stop : info_at h o ≡ Err (refusal_of no_key f)
    unfolding info_at
    info-stop = ap (λ (v : Verdict). info_where no_key v (info_of (value_of (bins_data h) (minor_of (sector h)) o))) (stop _ _ e)

    pub facts-stop : facts_answer h o ≡ Err (refusal_of no_key f)
    unfolding facts_answer
    facts-stop = ap (λ (v : Verdict). facts_where v (facts_of (bins_data h) o)) (stop _ _ e)

  module _ (e : base_fault h ≡ Ok tt) where
    pub subkey-in : (n : ℕ) → subkey_answer h o n ≡ subkey_in (bins_data h) o n
    unfolding subkey_answer
    subkey-in n = rw e

    pub value_in_lem : (n : ℕ) → value_answer h o n ≡ value_in (bins_data h) (minor_of (sector h)) o n
    unfolding value_answer
    value_in_lem n = rw e

    pub info-in : info_at h o
        ≡ info_where no_key (whole_value_fault Header (bins_data h) [] (minor_of (sector h)) o) (info_of (value_of (bins_data h) (minor_of (sector h)) o))
    unfolding info_at
    info-in = ap (λ (v : Verdict). info_where no_key v (info_of (value_of (bins_data h) (minor_of (sector h)) o))) (on _ _ e)

    pub facts-in : facts_answer h o ≡ facts_where (key_fault Header (bins_data h) [] o) (facts_of (bins_data h) o)
    unfolding facts_answer
    facts-in = ap (λ (v : Verdict). facts_where v (facts_of (bins_data h) o)) (on _ _ e)

-- a copy of the value at an offset: what was told lies in the hive
module _ (h : List ℕ) (v : Offset) where
  pub info-told : {i : Info} → info_at h v ≡ Ok i
      → (base_fault h ≡ Ok tt) × (Lies (bins_data h) i.content) × (i.len ≡ length_of i.content)
  unfolding info_at whole_value_fault info_of value_of fields_of data_in
  info-told e =
      let d = bins_data h in
      let minor = minor_of (sector h) in
      let w = where-at no_key (base_fault h next whole_value_fault Header d [] minor v) (info_of (value_of d minor v)) e in
      let b = both (base_fault h) _ w.0 in
      let x = both (value_fault Header d [] v) _ b.1 in
      (b.0, rw (← w.1) (lies Header d [] minor v x.0 Header [] x.1), rw (← w.1))

  module _ (out : List ℕ) where
    module _ {f : Refusal} (e : info_at h v ≡ Err f) where
      pub copy-stop : copy_at h v (length out) ≡ Err f
      unfolding copy_at
      copy-stop = rw e

      pub out-stop : out_at h v out ≡ out
      unfolding out_at
      out-stop = rw e

    module _ {i : Info} (e : info_at h v ≡ Ok i) where
      pub copy-on : copy_at h v (length out) ≡ copied_to no_key (length out) (Ok i)
      unfolding copy_at
      copy-on = rw e

      pub out-on : out_at h v out ≡ written (bins_data h) out (Ok i)
      unfolding out_at
      out-on = rw e

-- the ways out, for the tactics
pub ruleset entry_ways = (key-bad, key-is, key-name, value-bad, value-is, value-name)

pub ruleset below_ways = (below_none, below-bad, below-room, below-is, list-bad, values-room, value_there, value_none)

pub ruleset leaf_ways = (turn_end, turn-bad, leaf_room, turn-here, turn_on, named-length, named-at)

pub ruleset subkey_ways = (subkey-bad, subkey-on, subkey-faulty, subkey-none, subkey-is, subkey-stop, subkey-in)

pub ruleset value_ways = (in-bad, in_on, in-faulty, in-none, in_is, value-stop, value_in_lem)

pub ruleset info_ways = (info-stop, info-in, info-told, copy-stop, out-stop, copy-on, out-on)

pub ruleset facts_ways = (stamp-room, stamp-is, facts-bad, key-name, facts-room, facts-are, facts-stop, facts-in)
