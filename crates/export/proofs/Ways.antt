-- The frame that is due: a law for each way out, and what a frame that comes stands for.
use Prim.Native.Nat.{ℕ, ◌+◌, ◌-◌, ◌*◌, ◌≤◌, ◌<◌}
use native.Mathlib.Omega.{arith}
use mathlib.Core.Path.{◌≡◌, refl, sym, ap, ◌∙◌, subst}
use mathlib.Core.Bool.{Bool, true, false, cond}
use mathlib.Core.List.{List, [], ◌∷◌}
use lib.Dec.{eqb, leb}
use lib.ListN.{length, get_or}
use lib.Seq.{sets, length-sets}
use borrow.Author.Tests.{eq-eqb, ne_eqb, eqb-true, eqb-false, le-leb, lt-leb}
use Rattle.fields.specs.declared.Flaw.{Flaw}
use Rattle.fields.specs.declared.Offset.{Offset}
use Rattle.fields.specs.Faults.{nowhere, no_key, refusal_of, ◌next◌, Verdict}
use Rattle.fields.proofs.Firsts.{on, stop, both, sound}
use Rattle.cells.specs.Rule.{Header}
use Rattle.names.specs.Codes.{characters_in}
use Rattle.records.specs.declared.Key.{Key}
use Rattle.records.specs.Keys.{key_fault, key_of}
use Rattle.values.specs.declared.Entries.{Entries}
use Rattle.values.specs.declared.Value.{Value}
use Rattle.values.specs.Entries.{entries_of}
use Rattle.values.specs.Records.{value_fault, data_in, fields_of, value_of, valued}
use Rattle.values.specs.Segments.{data_fault, length_of}
use Rattle.values.specs.Lists.{values_of, value_list_fault, value_entries, whole_value_fault}
use Rattle.records.proofs.LawsKey.{key-room}
use Rattle.values.specs.Terms.{Room, entered}
use Rattle.values.proofs.LawsLists.{list-room, list-values}
use Rattle.values.proofs.Segment_faults.{entered-whole, entered-flawed}
use Rattle.values.proofs.Valued_at.{is_whole, whole-stop, whole-on}
use Rattle.listing.specs.declared.Entry.{Entry}
use Rattle.listing.specs.Members.{entry_of}
use Rattle.walk.specs.declared.Mark.{Mark}
use Rattle.walk.specs.declared.Offer.TheVariants as ahead
use Rattle.walk.specs.Answers.{key_at, step_at, step_in, levels_after}
use Rattle.walk.proofs.Ways.{in_on}
use Rattle.walk.proofs.Moves.{moves-below}
use Rattle.walk.proofs.Lists.{set_at}
use Rattle.stream.specs.Terms.{open_len, value_len}
use Rattle.stream.proofs.Puts.{close-length}
use Rattle.stream.proofs.Laws.{key-name, open-length, value-length, value-name, value-lies}
use Rattle.export.specs.declared.Cursor.{Cursor}
use Rattle.export.specs.declared.Frame.{Frame}
use Rattle.export.specs.declared.What.{What}
use Rattle.export.specs.declared.What.TheVariants as what
use Rattle.export.specs.Due.{comes, due_where, value_due, past, walk_due, top_due, due_at, words_behind, depth_behind}
use Rattle.export.specs.Terms.{FrameLies}
use Rattle.fields.specs.declared.Refusal.{Refusal}
use Rattle.std.specs.Prelude.{Err, None, Ok, Option, Result, Some}
use Rattle.walk.specs.declared.Offer.{Offer}

-- a frame by its parts
abbrev pub frame_of : What → Offset → ℕ → ℕ → Frame
frame_of w k l n = record { what = w; key = k; len = l; due = n }

-- ---- a value

module _ (d : List ℕ) (minor : ℕ) (k v : Offset) (n : ℕ) where
  abbrev value_ahead : Result (Option Frame) Refusal
  value_ahead = due_where k (whole_value_fault Header d [] minor v) (comes d (what.Value (value_of d minor v)) k n)

  pub value-bad : {f : Flaw} → valued (value_fault Header d [] v) (value_of d minor v) ≡ Err f → value_ahead ≡ Err (refusal_of k f)
  value-bad e = rw (whole-stop Header d [] minor v e)

  good-is : value_fault Header d [] v ≡ Ok tt → data_fault Header d [] (data_in d minor v) ≡ Ok tt
      → value_ahead ≡ Ok (Some (frame_of (what.Value (value_of d minor v)) k (value_len (value_of d minor v)) n))
  unfolding whole_value_fault
  good-is s e =
      rw (sound (value_fault Header d [] v) _ s e)
      (ap (λ (l : ℕ). Ok (Some (frame_of (what.Value (value_of d minor v)) k l n))) (value-length d (value_of d minor v) (value-lies d minor v s e)))

  module _ {x : Value} (e : valued (value_fault Header d [] v) (value_of d minor v) ≡ Ok x) where
    pub value-few : characters_in x.name.len x.name.narrow ≤ 16383
    value-few =
        let w = is_whole (value_fault Header d [] v) (value_of d minor v) e in
        subst (λ (y : Value). characters_in y.name.len y.name.narrow ≤ 16383) w.1 (value-name d minor v w.0).few

    sound-data : data_fault Header d [] x.content ≡ Ok tt → data_fault Header d [] (data_in d minor v) ≡ Ok tt
    unfolding value_of fields_of data_in
    sound-data q =
        let w = is_whole (value_fault Header d [] v) (value_of d minor v) e in
        subst (λ (y : Value). data_fault Header d [] y.content ≡ Ok tt) (sym w.1) q

    pub value-small : data_fault Header d [] x.content ≡ Ok tt → length_of x.content ≤ 1048576
    value-small q =
        let w = is_whole (value_fault Header d [] v) (value_of d minor v) e in
        subst (λ (y : Value). length_of y.content ≤ 1048576) w.1 (value-lies d minor v w.0 (sound-data q)).small

    pub data-bad : {f : Flaw} → data_fault Header d [] x.content ≡ Err f → value_ahead ≡ Err (refusal_of k f)
    data-bad q = let z = whole-on Header d [] minor v e ∙ q in rw z

    pub value-good : data_fault Header d [] x.content ≡ Ok tt → {l : ℕ} → l ≡ value_len x → value_ahead ≡ Ok (Some (frame_of (what.Value x) k l n))
    value-good q {l} r =
        let w = is_whole (value_fault Header d [] v) (value_of d minor v) e in
        good-is w.0 (sound-data q)
        ∙ ap (λ (y : Value). Ok (Some (frame_of (what.Value y) k (value_len y) n))) w.1
        ∙ ap (λ (i : ℕ). Ok (Some (frame_of (what.Value x) k i n))) (sym r)

module _ (d : List ℕ) (minor : ℕ) (o : Offset) (k : Key) (i : ℕ) (is : k ≡ key_of d o) where
  pub list-bad : {f : Flaw} → entered (value_list_fault Header d [] k) (value_entries k) ≡ Err f → value_due d minor o i ≡ Err (refusal_of o f)
  unfolding value_due
  list-bad e = let z = entered-flawed (value_list_fault Header d [] k) _ e in rw (← is, stop _ _ z)

  module _ {e : Entries} (q : entered (value_list_fault Header d [] k) (value_entries k) ≡ Ok e) where
    pub values-room : Room d e
    values-room = let w = entered-whole (value_list_fault Header d [] k) _ q in list-room Header d [] k w.0 e w.1

    pub list_count : i < k.values → i < e.count
    unfolding value_entries
    list_count p = by (eqb k.values 0) refl
      where
        is-e : value_entries k ≡ e
        is-e = (entered-whole (value_list_fault Header d [] k) _ q).1

        by : (t : Bool) → eqb k.values 0 ≡ t → i < e.count
        by true z = absurd (let y = eqb-true k.values 0 z in omega arith)
        by false z = let y = ap (λ (x : Entries). x.count) (rw z at is-e) in omega arith

    pub list_on : {v : Offset} → v ≡ get_or (entries_of d e) i nowhere
        → value_due d minor o i ≡ due_where o (whole_value_fault Header d [] minor v) (comes d (what.Value (value_of d minor v)) o (i + 2))
    unfolding value_due
    list_on s =
        let w = entered-whole (value_list_fault Header d [] k) _ q in
        let vs = list-values Header d [] k w.0 e w.1 in
        rw (← is, vs, ← s, on _ _ w.0)

-- ---- what the walk does next

module _ (d ws : List ℕ) (n : ℕ) where
  -- a step at a key that is open, as it is said of that key
  pub step_so : 0 < n → 3 * n ≤ length ws → {x y : Result (Option Offer) Refusal} → y ≡ step_at d ws n → y ≡ x → step_in d ws n ≡ x
  step_so p q r e = in_on d ws n (λ z. omega arith) q ∙ sym r ∙ e

  pub closes-is : {k : Offset} → step_in d ws n ≡ Ok (Some (ahead.Closes k)) → walk_due d (step_in d ws n) ≡ Ok (Some (frame_of what.Closing k 6 past))
  closes-is {k} e = ap (walk_due d) e ∙ ap (λ (l : ℕ). Ok (Some (frame_of what.Closing k l past))) close-length

  module _ {e : Entry} {m : Mark} (q : step_in d ws n ≡ Ok (Some (ahead.Opens e m))) where
    entry-len : open_len (key_of d e.at).name ≡ 14 + 2 * characters_in e.len e.narrow
    unfolding entry_of
    entry-len =
        let b = moves-below d ws n q in
        ap (λ (x : Entry). 14 + 2 * characters_in x.len x.narrow) (sym b.named)

    pub child-few : characters_in e.len e.narrow ≤ 16383
    child-few =
        let b = moves-below d ws n q in
        let f = (key-name d e.at b.sound).few in
        let l = entry-len in
        omega arith

    pub opens-is : {l : ℕ} → l ≡ 14 + 2 * characters_in e.len e.narrow → walk_due d (step_in d ws n) ≡ Ok (Some (frame_of (what.Child e m) e.at l 1))
    opens-is {l} r =
        let b = moves-below d ws n q in
        ap (walk_due d) q
        ∙ ap (λ (i : ℕ). Ok (Some (frame_of (what.Child e m) e.at i 1))) (open-length d e.at b.sound ∙ entry-len ∙ sym r)

-- ---- of the top key

module _ (d : List ℕ) (minor : ℕ) (ws : List ℕ) (c : Cursor) (o : Offset) (k : Key) (is : k ≡ key_of d o) where
  pub own-few : key_fault Header d [] o ≡ Ok tt → characters_in k.name.len k.name.narrow ≤ 16383
  own-few s = rw is (key-name d o s).few

  pub own_is : key_fault Header d [] o ≡ Ok tt → c.due ≡ 0 → {l : ℕ} → l ≡ open_len k.name → top_due d minor ws c o ≡ Ok (Some (frame_of what.Own o l 1))
  unfolding top_due
  own_is s z {l} r =
      rw (eq-eqb c.due 0 z)
      (ap (λ (i : ℕ). Ok (Some (frame_of what.Own o i 1))) (open-length d o s ∙ ap (λ (y : Key). open_len y.name) (sym is) ∙ sym r))

  module _ (z : c.due ≡ 0 → ⊥) where
    pub value-is : c.due ≤ k.values → top_due d minor ws c o ≡ value_due d minor o (c.due - 1)
    unfolding top_due
    value-is p = let q = subst (λ (y : Key). c.due ≤ y.values) is p in rw (ne_eqb c.due 0 z, le-leb c.due (key_of d o).values q)

    pub walk_is : k.values < c.due → top_due d minor ws c o ≡ walk_due d (step_in d ws c.depth)
    unfolding top_due
    walk_is p = let q = subst (λ (y : Key). y.values < c.due) is p in rw (ne_eqb c.due 0 z, lt-leb c.due (key_of d o).values q)

module _ (d : List ℕ) (minor : ℕ) (ws : List ℕ) (c : Cursor) where
  pub due-over : c.depth ≡ 0 → due_at d minor ws c ≡ Ok None
  unfolding due_at
  due-over e = rw (eq-eqb c.depth 0 e)

  module _ (z : c.depth ≡ 0 → ⊥) (o : Offset) (is : o ≡ key_at ws c.depth) where
    pub due-bad : {f : Flaw} → key_fault Header d [] o ≡ Err f → due_at d minor ws c ≡ Err (refusal_of no_key f)
    unfolding due_at
    due-bad e = rw (ne_eqb c.depth 0 z, ← is, e)

    pub due-on : key_fault Header d [] o ≡ Ok tt → due_at d minor ws c ≡ top_due d minor ws c o
    unfolding due_at
    due-on e = rw (ne_eqb c.depth 0 z, ← is, e)

-- ---- a frame that comes was tested, and the words have room for its move

pub where-comes : (k : Offset) (v : Verdict) (x : Result (Option Frame) Refusal) {f : Frame} → due_where k v x ≡ Ok (Some f) → (v ≡ Ok tt) × (x ≡ Ok (Some f))
where-comes k (Ok tt) x e = (refl, e)
where-comes k (Err g) x e = absurd (let z : ◌≡◌ {A = ℕ} 0 1 = cc in omega arith)

pub same-frame : {a b : Frame} → ◌≡◌ {A = Result (Option Frame) Refusal} (Ok (Some a)) (Ok (Some b)) → a ≡ b
same-frame e = cc

module _ (d : List ℕ) (minor : ℕ) (ws : List ℕ) (n : ℕ) where
  walk-lies : (x : Result (Option Offer) Refusal) → step_in d ws n ≡ x → 0 < n → {f : Frame} → walk_due d x ≡ Ok (Some f) → FrameLies d ws n f
  walk-lies (Ok (Some (ahead.Opens e m))) q p r =
      let b = moves-below d ws n q in
      subst (λ (g : Frame). FrameLies d ws n g) (same-frame r) (record { lies = b.sound; goes = (b.some, b.room); len = refl })
  walk-lies (Ok (Some (ahead.Closes k))) q p r = subst (λ (g : Frame). FrameLies d ws n g) (same-frame r) (record { lies = tt; goes = p; len = refl })
  walk-lies (Ok None) q p r = absurd (let z : ◌≡◌ {A = ℕ} 0 1 = cc in omega arith)
  walk-lies (Err x) q p r = absurd (let z : ◌≡◌ {A = ℕ} 0 1 = cc in omega arith)

  value_tells : (k : Offset) (i : ℕ) {f : Frame} → value_due d minor k i ≡ Ok (Some f) → FrameLies d ws n f
  unfolding value_due whole_value_fault
  value_tells k i r =
      let v = get_or (values_of d (key_of d k)) i nowhere in
      let a = where-comes k _ _ r in
      let b = both (value_list_fault Header d [] (key_of d k)) _ a.0 in
      let e = both (value_fault Header d [] v) _ b.1 in
      subst (λ (g : Frame). FrameLies d ws n g) (same-frame a.1) (record { lies = value-lies d minor v e.0 e.1; goes = tt; len = refl })

pub due-lies : (d : List ℕ) (minor : ℕ) (ws : List ℕ) (c : Cursor) {f : Frame} → due_at d minor ws c ≡ Ok (Some f) → FrameLies d ws c.depth f
unfolding due_at top_due
due-lies d minor ws c {f} r = by (eqb c.depth 0) refl r
  where
    k : Offset
    k = key_at ws c.depth

    top : key_fault Header d [] k ≡ Ok tt → 0 < c.depth → (t u : Bool)
        → cond t (comes d what.Own k 1) (cond u (value_due d minor k (c.due - 1)) (walk_due d (step_in d ws c.depth))) ≡ Ok (Some f) → FrameLies d ws c.depth f
    top s p true u q = subst (λ (g : Frame). FrameLies d ws c.depth g) (same-frame q) (record { lies = s; goes = tt; len = refl })
    top s p false true q = value_tells d minor ws c.depth k (c.due - 1) q
    top s p false false q = walk-lies d minor ws c.depth (step_in d ws c.depth) refl p q

    by : (t : Bool) → eqb c.depth 0 ≡ t → cond t (Ok None) (due_where no_key (key_fault Header d [] k) (top_due d minor ws c k)) ≡ Ok (Some f)
        → FrameLies d ws c.depth f
    by true e q = absurd (let z : ◌≡◌ {A = ℕ} 0 1 = cc in omega arith)
    by false e q =
        let z = eqb-false c.depth 0 e in
        let a = where-comes no_key (key_fault Header d [] k) _ q in
        top a.0 (omega arith) (eqb c.due 0) (leb c.due (key_of d k).values) a.1

-- ---- a frame leaves a top key that was tested, but for one that closes

abbrev pub Known : List ℕ → List ℕ → ℕ → Frame → Type 0
Known d ws n f = f.due < past → key_fault Header d [] (key_at (words_behind ws n f.what) (depth_behind n f.what)) ≡ Ok tt

module _ (d : List ℕ) (minor : ℕ) (ws : List ℕ) (n : ℕ) where
  child-known : (e : Entry) (m : Mark) → step_in d ws n ≡ Ok (Some (ahead.Opens e m)) → key_fault Header d [] (key_at (levels_after ws n (Ok (Some (ahead.Opens e m)))) (n + 1)) ≡ Ok tt
  child-known e m q =
      let b = moves-below d ws n q in
      let l = length-sets ws (3 * (n - 1) + 1) (m.leaf ∷ m.element ∷ []) in
      let o : get_or (levels_after ws n (Ok (Some (ahead.Opens e m)))) (3 * (n + 1 - 1)) 0 ≡ e.at.0 =
      set_at (e.at.0 ∷ 0 ∷ 0 ∷ []) (sets ws (3 * (n - 1) + 1) (m.leaf ∷ m.element ∷ [])) (3 * n) 0 (3 * (n + 1 - 1)) (omega arith) (omega arith) (omega (arith, b.room)) in
      subst (λ (x : ℕ). key_fault Header d [] (record { 0 = x }) ≡ Ok tt) (sym o) b.sound

  walk-known : (x : Result (Option Offer) Refusal) → step_in d ws n ≡ x → {f : Frame} → walk_due d x ≡ Ok (Some f) → Known d ws n f
  walk-known (Ok (Some (ahead.Opens e m))) q r = subst (λ (g : Frame). Known d ws n g) (same-frame r) (λ p. child-known e m q)
  walk-known (Ok (Some (ahead.Closes k))) q r = subst (λ (g : Frame). Known d ws n g) (same-frame r) (λ p. absurd (omega arith))
  walk-known (Ok None) q r = absurd (let z : ◌≡◌ {A = ℕ} 0 1 = cc in omega arith)
  walk-known (Err x) q r = absurd (let z : ◌≡◌ {A = ℕ} 0 1 = cc in omega arith)

  value-known : key_fault Header d [] (key_at ws n) ≡ Ok tt → (k : Offset) (i : ℕ) {f : Frame} → value_due d minor k i ≡ Ok (Some f) → Known d ws n f
  unfolding value_due
  value-known s k i r =
      let v = get_or (values_of d (key_of d k)) i nowhere in
      let a = where-comes k (value_list_fault Header d [] (key_of d k) next whole_value_fault Header d [] minor v) (comes d (what.Value (value_of d minor v)) k (i + 2)) r in
      subst (λ (g : Frame). Known d ws n g) (same-frame a.1) (λ p. s)

pub due-known : (d : List ℕ) (minor : ℕ) (ws : List ℕ) (c : Cursor) {f : Frame} → due_at d minor ws c ≡ Ok (Some f) → Known d ws c.depth f
unfolding due_at top_due
due-known d minor ws c {f} r = by (eqb c.depth 0) r
  where
    k : Offset
    k = key_at ws c.depth

    top : key_fault Header d [] k ≡ Ok tt → (t u : Bool)
        → cond t (comes d what.Own k 1) (cond u (value_due d minor k (c.due - 1)) (walk_due d (step_in d ws c.depth))) ≡ Ok (Some f) → Known d ws c.depth f
    top s true u q = subst (λ (g : Frame). Known d ws c.depth g) (same-frame q) (λ p. s)
    top s false true q = value-known d minor ws c.depth s k (c.due - 1) q
    top s false false q = walk-known d minor ws c.depth (step_in d ws c.depth) refl q

    by : (t : Bool) → cond t (Ok None) (due_where no_key (key_fault Header d [] k) (top_due d minor ws c k)) ≡ Ok (Some f) → Known d ws c.depth f
    by true q = absurd (let z : ◌≡◌ {A = ℕ} 0 1 = cc in omega arith)
    by false q =
        let a = where-comes no_key (key_fault Header d [] k) _ q in
        top a.0 (eqb c.due 0) (leb c.due (key_of d k).values) a.1

-- ---- by these names the attributes in the code cite them

pub ruleset of_value = (value-bad, data-bad, value-good, value-few, value-small)

pub ruleset of_list = (list-bad, values-room, list_count, list_on)

pub ruleset of_walk = (step_so, closes-is, child-few, opens-is)

pub ruleset of_top = (own-few, own_is, value-is, walk_is)

pub ruleset of_due = (due-over, due-bad, due-on, key-room)
