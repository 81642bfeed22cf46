-- On any bytes: a name that is answered lies in the hive, and every refusal says why.
use Prim.Native.Nat.{ℕ, ◌+◌, ◌-◌, ◌≤◌}
use native.Mathlib.Omega.{arith}
use mathlib.Core.Path.{◌≡◌, refl, ap, sym, ◌∙◌, subst}
use mathlib.Core.Bool.{Bool, true, false, cond}
use mathlib.Core.List.Memᴰ
use mathlib.Core.List.{List, [], ◌∷◌, ◌++◌, Memᴰ}
use lib.Dec.{eqb, leb}
use lib.ListN.{length, get_or}
use borrow.Author.Tests.{eqb-false, leb-false}
use Rattle.fields.specs.declared.Flaw.{Flaw}
use Rattle.fields.specs.declared.Offset.{Offset}
use Rattle.fields.specs.declared.Refusal.{Refusal}
use Rattle.fields.specs.Faults.{nowhere, no_key, refusal_of, Because, Keyless, ◌next◌, Verdict}
use Rattle.fields.proofs.Every.{Every, every-next}
use Rattle.fields.proofs.Firsts.{both}
use Rattle.base.specs.Block.{sector, minor_of, bins_data, base_fault}
use Rattle.base.proofs.Refusals.{base-refuses}
use Rattle.cells.specs.Rule.{Header}
use Rattle.cells.specs.Named.{data_at}
use Rattle.cells.proofs.Parts.{place-room}
use Rattle.cells.proofs.Refusals.{Ruled, by-header}
use Rattle.records.specs.declared.Child.{Child}
use Rattle.records.specs.declared.Name.{Name}
use Rattle.records.specs.Keys.{key_fault, key_of, NameIn}
use Rattle.records.specs.Lists.{leaf_fault, head_fault, leaf_children, leaves_of, children_in, children}
use Rattle.records.specs.Terms.{no_child}
use Rattle.records.proofs.LawsKey.{name-room}
use Rattle.values.specs.Records.{value_fault, data_in, value_of}
use Rattle.values.specs.Lists.{values_of, value_list_fault, whole_value_fault}
use Rattle.values.specs.Refused.{a_key, Fit, one_of, Lists, its-list, its-leaf, its-child}
use Rattle.values.proofs.LawsValues.{name-inside}
use Rattle.values.proofs.Refusals.{key-fit, key-unfit, list-fit, list-unfit, leaf-unfit, value-fit, value-unfit, value-list-unfit, value-named, data-unfit}
use Rattle.records.proofs.Elements.{at_in}
use Rattle.search.specs.Search.{on_sound}
use Rattle.search.proofs.Found.{sound-found}
use Rattle.search.proofs.Refusals.{Each, each-found, each-missing, each-cond, each-sound, in-children}
use Rattle.lookup.specs.Answers.{info_of, info_where}
use Rattle.lookup.proofs.Refusals.{copied-refuses}
use Rattle.lookup.proofs.Answered.{refused-stays}
use Rattle.listing.specs.declared.Entry.{Entry}
use Rattle.listing.specs.declared.Facts.{Facts}
use Rattle.listing.specs.Members.{entry_of, member_where, member_of, in_hive, nth_in, nth_below, subkey_below, subkey_in, subkey_answer, nth_of, value_below, value_in, value_answer, info_at, copy_at, out_at, facts_of, facts_where, facts_answer}
use Rattle.listing.specs.Refused.{of-base, of-record, of-named, OfSubkey, OfNth, OfInfo, OfCopied, as-info, too_short, OfFacts}
use Rattle.std.specs.Prelude.{Err, None, Ok, Option, Result, Some}

-- ---- a name that is answered lies in the hive, so a host may read it there

-- what is answered At an entry
where-at : (k : Offset) (v : Verdict) (x : Entry) {e : Entry} → member_where k v x ≡ Ok (Some e) → (v ≡ Ok tt) × (x ≡ e)
where-at k (Ok tt) x p = (refl, cc)
where-at k (Err f) x p = absurd (let z : ◌≡◌ {A = ℕ} 0 1 = cc in omega arith)

member-at : (k : Offset) (l : Result (Option Offset) Flaw) (go : Offset → Result (Option Entry) Refusal) {e : Entry} → member_of k l go ≡ Ok (Some e) → (o : Offset) × (go o ≡ Ok (Some e))
member-at k (Ok (Some o)) go p = (o, p)
member-at k (Ok None) go p = absurd (let z : ◌≡◌ {A = ℕ} 0 1 = cc in omega arith)
member-at k (Err f) go p = absurd (let z : ◌≡◌ {A = ℕ} 0 1 = cc in omega arith)

hive-at : (v : Verdict) (a : Result (Option Entry) Refusal) {e : Entry} → in_hive v a ≡ Ok (Some e) → (v ≡ Ok tt) × (a ≡ Ok (Some e))
hive-at (Ok tt) a p = (refl, p)
hive-at (Err f) a p = absurd (let z : ◌≡◌ {A = ℕ} 0 1 = cc in omega arith)

module _ (h : List ℕ) where
  name-lies : base_fault h ≡ Ok tt → (o : Offset) (n : Name) (e : Entry) → NameIn (bins_data h) n → entry_of o n ≡ e → e.name.0 + e.len ≤ length h
  unfolding entry_of
  name-lies b o n e p q = rw (← q) (place-room n.cell n.at n.len h b p.ends)

  -- a key by its offset
  facts_at : (v : Verdict) (x : Facts) {k : Facts} → facts_where v x ≡ Ok k → (v ≡ Ok tt) × (x ≡ k)
  facts_at (Ok tt) x p = (refl, cc)
  facts_at (Err f) x p = absurd (let z : ◌≡◌ {A = ℕ} 0 1 = cc in omega arith)

  pub facts-name : (o : Offset) {k : Facts} → facts_answer h o ≡ Ok k → k.entry.name.0 + k.entry.len ≤ length h
  unfolding facts_answer facts_of
  facts-name o {k} p =
      let w = facts_at (base_fault h next key_fault Header (bins_data h) [] o) _ p in
      let b = both (base_fault h) _ w.0 in
      name-lies b.0 o (key_of (bins_data h) o).name k.entry (name-room Header (bins_data h) [] o b.1) (ap (λ (x : Facts). x.entry) w.1)

  module _ (o : Offset) (n : ℕ) {e : Entry} where
    pub subkey-name : subkey_answer h o n ≡ Ok (Some e) → e.name.0 + e.len ≤ length h
    unfolding subkey_answer subkey_in subkey_below
    subkey-name p =
        let b = hive-at (base_fault h) _ p in
        let r = hive-at (key_fault Header (bins_data h) [] o) _ b.1 in
        let m = member-at o (nth_below (bins_data h) (key_of (bins_data h) o) n) _ r.1 in
        let w = where-at o (key_fault Header (bins_data h) [] m.0) _ m.1 in
        name-lies b.0 m.0 (key_of (bins_data h) m.0).name e (name-room Header (bins_data h) [] m.0 w.0) w.1

    pub value-name : value_answer h o n ≡ Ok (Some e) → e.name.0 + e.len ≤ length h
    unfolding value_answer value_in value_below
    value-name p =
        let minor = minor_of (sector h) in
        let b = hive-at (base_fault h) _ p in
        let r = hive-at (key_fault Header (bins_data h) [] o) _ b.1 in
        let m = member-at o (nth_of (bins_data h) (key_of (bins_data h) o) n) _ r.1 in
        let w = where-at o (value_fault Header (bins_data h) [] m.0) _ m.1 in
        name-lies b.0 m.0 (value_of (bins_data h) minor m.0).name e (name-inside Header (bins_data h) [] minor m.0 w.0) w.1

-- ---- refusals

-- member n of some leaves is one of their keys
nth_in_lem : (d : List ℕ) (ls : List Offset) (n : ℕ) {o : Offset} → nth_in d ls n ≡ Ok (Some o) → (c : Child) × Memᴰ c (children_in d ls) × (o ≡ c.at)
unfolding nth_in children_in
nth_in_lem d [] n e = absurd (let z : ◌≡◌ {A = ℕ} 0 1 = cc in omega arith)
nth_in_lem d (l ∷ ls) n {o} e =
    by (nth_in_lem d ls (n - length cs)) (leb (length cs) n) refl (sound-found (leaf_fault Header d [] l) _ e).1
  where
    cs : List Child
    cs = leaf_children (data_at d l)

    by : (nth_in d ls (n - length cs) ≡ Ok (Some o) → (c : Child) × Memᴰ c (children_in d ls) × (o ≡ c.at)) → (t : Bool) → leb (length cs) n ≡ t
        → cond t (nth_in d ls (n - length cs)) (Ok (Some (get_or cs n no_child).at)) ≡ Ok (Some o) → (c : Child) × Memᴰ c (cs ++ children_in d ls) × (o ≡ c.at)
    by rest true p q = let r = rest q in (r.0, Memᴰ.append_right cs r.1, r.2)
    by rest false p q =
        (get_or cs n no_child, Memᴰ.append_left (children_in d ls) (at_in cs n no_child (leb-false _ _ p)), let z : (get_or cs n no_child).at ≡ o = cc in sym z)

module _ (h : List ℕ) (k : Offset) where
  ruled : Ruled Header (bins_data h) []
  ruled = by-header (bins_data h) []

  -- a subkey that is found is listed
  child-found : (n : ℕ) {o : Offset} → nth_below (bins_data h) (key_of (bins_data h) k) n ≡ Ok (Some o)
      → (c : Child) × Memᴰ c (children (bins_data h) k) × (o ≡ c.at)
  unfolding nth_below
  child-found n {o} e = by (eqb (key_of (bins_data h) k).subkeys 0) refl e
    where
      by : (t : Bool) → eqb (key_of (bins_data h) k).subkeys 0 ≡ t
          → cond t (Ok None) (on_sound (head_fault Header (bins_data h) [] (key_of (bins_data h) k).list) (nth_in (bins_data h) (leaves_of (bins_data h) (key_of (bins_data h) k).list) n)) ≡ Ok (Some o)
          → (c : Child) × Memᴰ c (children (bins_data h) k) × (o ≡ c.at)
      by true z q = absurd (let y : ◌≡◌ {A = ℕ} 0 1 = cc in omega arith)
      by false z q =
          let d = bins_data h in
          let r = nth_in_lem d (leaves_of d (key_of d k).list) n (sound-found (head_fault Header d [] (key_of d k).list) _ q).1 in
          (r.0, in-children d k z r.1, r.2)

  -- the faults on the way: the leaves of a key's list, one after the other
  nth-each : (P : Flaw → Type 0) (ls : List Offset) → ((l : Offset) → Memᴰ l ls → Every P (leaf_fault Header (bins_data h) [] l)) → (n : ℕ)
      → Each P (nth_in (bins_data h) ls n)
  unfolding nth_in
  nth-each P [] p n = each-missing P
  nth-each P (l ∷ ls) p n =
      let cs = leaf_children (data_at (bins_data h) l) in
      each-sound P (leaf_fault Header (bins_data h) [] l) _ (p l (Memᴰ.head refl))
      (λ s. each-cond P (leb (length cs) n) (nth_in (bins_data h) ls (n - length cs)) _ (λ t. nth-each P ls (λ o i. p o (Memᴰ.tail i)) (n - length cs))
      (λ t. each-found P (get_or cs n no_child).at))

  child-each : Fit Header (bins_data h) a_key k → (n : ℕ) → Each (OfSubkey h k k) (nth_below (bins_data h) (key_of (bins_data h) k) n)
  unfolding nth_below
  child-each g n =
      let d = bins_data h in
      let P = OfSubkey h k k in
      let o = (key_of d k).list in
      each-cond P (eqb (key_of d k).subkeys 0) (Ok None) _ (λ z. each-missing P)
      (λ z. each-sound P (head_fault Header d [] o) _ (λ f e. of-named g (one_of (its-list (eqb-false _ _ z)) (list-unfit Header d [] ruled o f e)))
      (λ t. nth-each P (leaves_of d o)
      (λ l i f e. of-named g (one_of (its-leaf (eqb-false _ _ z) (list-fit Header d [] ruled o t) i) (leaf-unfit Header d [] ruled l f e))) n))

  -- the same of its values
  value_found : (n : ℕ) {v : Offset} → nth_of (bins_data h) (key_of (bins_data h) k) n ≡ Ok (Some v)
      → (value_list_fault Header (bins_data h) [] (key_of (bins_data h) k) ≡ Ok tt) × Memᴰ v (values_of (bins_data h) (key_of (bins_data h) k))
  unfolding nth_of
  value_found n {v} e =
      let t = sound-found (value_list_fault Header (bins_data h) [] (key_of (bins_data h) k)) _ e in
      (t.0, by (leb (length vs) n) refl t.1)
    where
      vs : List Offset
      vs = values_of (bins_data h) (key_of (bins_data h) k)

      by : (t : Bool) → leb (length vs) n ≡ t → cond {A = Result (Option Offset) Flaw} t (Ok None) (Ok (Some (get_or vs n nowhere))) ≡ Ok (Some v) → Memᴰ v vs
      by true p q = absurd (let z : ◌≡◌ {A = ℕ} 0 1 = cc in omega arith)
      by false p q = let z : get_or vs n nowhere ≡ v = cc in subst (λ (o : Offset). Memᴰ o vs) z (at_in vs n nowhere (leb-false _ _ p))

  value-each : Fit Header (bins_data h) a_key k → (n : ℕ) → Each (OfNth h k k) (nth_of (bins_data h) (key_of (bins_data h) k) n)
  unfolding nth_of
  value-each g n =
      let d = bins_data h in
      let P = OfNth h k k in
      let vs = values_of d (key_of d k) in
      each-sound P (value_list_fault Header d [] (key_of d k)) _ (λ f e. of-named g (value-list-unfit Header d [] ruled k f e))
      (λ t. each-cond P (leb (length vs) n) (Ok None) _ (λ z. each-missing P) (λ z. each-found P (get_or vs n nowhere)))

-- from the tests to the answers
where-refuses : (P : Offset → Flaw → Type 0) (k : Offset) (v : Verdict) (x : Entry) → Every (P k) v → (r : Refusal) → member_where k v x ≡ Err r → Because P r
where-refuses P k (Ok tt) x p r q = absurd (let z : ◌≡◌ {A = ℕ} 0 1 = cc in omega arith)
where-refuses P k (Err g) x p r q = (k, g, let z : refusal_of k g ≡ r = cc in sym z, p g refl)

member-refuses : (P : Offset → Flaw → Type 0) (k : Offset) (l : Result (Option Offset) Flaw) (go : Offset → Result (Option Entry) Refusal) → Each (P k) l
    → ((o : Offset) → l ≡ Ok (Some o) → (r : Refusal) → go o ≡ Err r → Because P r) → (r : Refusal) → member_of k l go ≡ Err r → Because P r
member-refuses P k (Ok (Some o)) go p s r q = s o refl r q
member-refuses P k (Ok None) go p s r q = absurd (let z : ◌≡◌ {A = ℕ} 0 1 = cc in omega arith)
member-refuses P k (Err g) go p s r q = (k, g, let z : refusal_of k g ≡ r = cc in sym z, p g refl)

hive-refuses : (P : Offset → Flaw → Type 0) (v : Verdict) (a : Result (Option Entry) Refusal) → Every (P no_key) v → (r : Refusal) → (v ≡ Ok tt → a ≡ Err r → Because P r)
    → in_hive v a ≡ Err r → Because P r
hive-refuses P (Ok tt) a p r s q = s refl q
hive-refuses P (Err g) a p r s q = (no_key, g, let z : refusal_of no_key g ≡ r = cc in sym z, p g refl)

module _ (h : List ℕ) (o : Offset) where
  module _ (n : ℕ) {r : Refusal} where
    pub subkey-refuses : subkey_answer h o n ≡ Err r → Because (OfSubkey h o) r
    unfolding subkey_answer subkey_in subkey_below
    subkey-refuses =
        let P = OfSubkey h o in
        let d = bins_data h in
        hive-refuses P (base_fault h) _ (λ f e. of-base (base-refuses h f e)) r
        (λ a. hive-refuses P (key_fault Header d [] o) _ (λ f e. of-record (key-unfit Header d [] (ruled h o) o f e)) r
        (λ b. let g = key-fit Header d [] (ruled h o) o b in
        member-refuses P o (nth_below d (key_of d o) n) _ (child-each h o g n)
        (λ c e. let x = child-found h o n e in
        where-refuses P o (key_fault Header d [] c) _
        (λ f q. of-named g
        (one_of (subst (λ (y : Offset). Lists Header d o a_key y) (sym x.2) (its-child x.1)) (key-unfit Header d [] (ruled h o) c f q)))) r))

    pub value-refuses : value_answer h o n ≡ Err r → Because (OfNth h o) r
    unfolding value_answer value_in value_below
    value-refuses =
        let P = OfNth h o in
        let d = bins_data h in
        hive-refuses P (base_fault h) _ (λ f e. of-base (base-refuses h f e)) r
        (λ a. hive-refuses P (key_fault Header d [] o) _ (λ f e. of-record (key-unfit Header d [] (ruled h o) o f e)) r
        (λ b. let g = key-fit Header d [] (ruled h o) o b in
        member-refuses P o (nth_of d (key_of d o) n) _ (value-each h o g n)
        (λ v e. let x = value_found h o n e in
        where-refuses P o (value_fault Header d [] v) _
        (λ f q. of-named g
        (one_of (value-named Header d [] (ruled h o) o v x.0 x.1) (value-unfit Header d [] (ruled h o) v f q)))) r))

  info-of : (v : Verdict) {r : Refusal} → Every (OfInfo h o) v → info_where no_key v (info_of (value_of (bins_data h) (minor_of (sector h)) o)) ≡ Err r
      → Keyless (OfInfo h o) r
  info-of (Ok tt) p q = absurd (let z : ◌≡◌ {A = ℕ} 0 1 = cc in omega arith)
  info-of (Err g) {r} p q = (g, let z : refusal_of no_key g ≡ r = cc in sym z, p g refl)

  pub info-refuses : {r : Refusal} → info_at h o ≡ Err r → Keyless (OfInfo h o) r
  unfolding info_at whole_value_fault
  info-refuses =
      let d = bins_data h in
      let x = data_in d (minor_of (sector h)) o in
      info-of (base_fault h next whole_value_fault Header d [] (minor_of (sector h)) o)
      (every-next (OfInfo h o) (base_fault h) _ (λ f e. of-base (base-refuses h f e))
      (λ a. every-next (OfInfo h o) (value_fault Header d [] o) _ (λ f e. of-record (value-unfit Header d [] (ruled h o) o f e))
      (λ b f e. of-named (value-fit Header d [] (ruled h o) o b) (data-unfit Header d [] (ruled h o) x f e))))

  pub copy-refuses : (n : ℕ) {r : Refusal} → copy_at h o n ≡ Err r → Keyless (OfCopied h o n) r
  unfolding copy_at
  copy-refuses n e =
      let w = copied-refuses (λ k f. (k ≡ no_key) × OfCopied h o n f) no_key n (info_at h o)
      (λ g p. let w = info-refuses p in (no_key, w.0, w.1, (refl, as-info w.2))) (λ i p s. (refl, too_short p s)) e in
      (w.1, w.2 ∙ ap (λ (k : Offset). refusal_of k w.1) w.3.0, w.3.1)

  pub copy-stays : (out : List ℕ) {f : Refusal} → copy_at h o (length out) ≡ Err f → out_at h o out ≡ out
  unfolding copy_at out_at
  copy-stays out = refused-stays no_key (bins_data h) out (info_at h o)

  facts-of : (v : Verdict) {r : Refusal} → Every (OfFacts h o) v → facts_where v (facts_of (bins_data h) o) ≡ Err r → Keyless (OfFacts h o) r
  facts-of (Ok tt) p q = absurd (let z : ◌≡◌ {A = ℕ} 0 1 = cc in omega arith)
  facts-of (Err g) {r} p q = (g, let z : refusal_of no_key g ≡ r = cc in sym z, p g refl)

  pub facts-refuses : {r : Refusal} → facts_answer h o ≡ Err r → Keyless (OfFacts h o) r
  unfolding facts_answer
  facts-refuses =
      facts-of (base_fault h next key_fault Header (bins_data h) [] o)
      (every-next (OfFacts h o) (base_fault h) _ (λ f e. of-base (base-refuses h f e))
      (λ a f e. of-record (key-unfit Header (bins_data h) [] (ruled h o) o f e)))
