-- What is exported can be built: the export of an accepted hive has none of the faults 30 to 38, where no key has more than 65,535 subkeys; and built
-- again it has the same export.
use Prim.Native.Nat.{ℕ, suc, ◌≤◌}
use native.Mathlib.Omega.{arith}
use mathlib.Core.Path.{◌≡◌, refl, sym, ap, ap₂, ◌∙◌, subst}
use mathlib.Core.Logic.{⊎_elim}
use mathlib.Core.List.Memᴰ
use mathlib.Core.List.{List, [], ◌∷◌, ◌++◌, append_assoc, append-nil, Memᴰ}
use lib.ListN.{length, drop}
use Rattle.fields.specs.declared.Offset.{Offset}
use Rattle.fields.specs.Number.{u16_at, u64_at}
use Rattle.base.specs.Block.{sector, bins_of, bins_limit, bins_data}
use Rattle.cells.specs.Named.{data_at}
use Rattle.cells.proofs.Fronts.{front-facts}
use Rattle.cells.proofs.Mapped.{surveyed}
use Rattle.names.specs.Comparison.{compare}
use Rattle.records.specs.declared.Child.{Child}
use Rattle.records.specs.Facts.{KeyRecord}
use Rattle.records.specs.Keys.{key_narrow, key_name, key_of}
use Rattle.records.specs.Lists.{children}
use Rattle.records.specs.Listed.{keys_in}
use Rattle.records.proofs.LawsKey.{name-codes}
use Rattle.records.proofs.Listed.{joined_in}
use Rattle.values.specs.Lists.{values_of}
use Rattle.tree.specs.declared.Hive.{Hive}
use Rattle.tree.specs.declared.Report.{Report}
use Rattle.tree.specs.Tree.{name_at, levels, hive_of, keys_of, check_answer}
use Rattle.tree.specs.WellFormed.{KeyStands, Ascends, none as no-children, more as ascends-more, TreeStands, key, CleanAndWellFormed}
use Rattle.tree.proofs.Exactly.{accepted-as, accepted-exactly}
use Rattle.stream.specs.Stream.{frame, wide, open_frame, close_frame, value_stream, stream_over, stream_in, stream_of}
use Rattle.forest.specs.Forest.{Forest, none, count_of, names_of, key_frame, forest_frames}
use Rattle.forest.specs.Allowed.{AllBelow, Sorted, sorted_none, sorted_more, KeyName, KeyAllowed, Allowed, allowed-none, allowed-more, OneRoot}
use Rattle.forest.specs.Faults.{Fine, stream_fault}
use Rattle.fields.proofs.Long.{u64-below, le-u64}
use Rattle.forest.proofs.Bytes.{below_at, below-take, below-drop}
use Rattle.forest.proofs.Written.{written-fine}
use Rattle.forest.proofs.Exactly.{built-exactly}
use Rattle.layout.specs.Layout.{bins_for, built_hive}
use Rattle.build_laws.specs.Read.{items_read, side_by_side, key_read, forest_of}
use Rattle.build_laws.proofs.Exports.{built-exports}
use Rattle.build_laws.proofs.Legible.{codes-fit, data-fits, items-framed, items-allowed, items-apart}
use Rattle.std.specs.Prelude.{Ok}

-- ---- names of subkeys

unfoldable child_names : List ℕ → List Child → List (List ℕ)
child_names d [] = []
child_names d (c ∷ cs) = name_at d c.at ∷ child_names d cs

record Named (d : List ℕ) (cs : List Child) (y : List ℕ) : Type 0 where
  one : Child
  listed : Memᴰ one cs
  is : y ≡ name_at d one.at

name_of : (d : List ℕ) (cs : List Child) (y : List ℕ) → Memᴰ y (child_names d cs) → Named d cs y
unfolding child_names
name_of d [] y i = absurd (Memᴰ.not-nil i)
name_of d (c ∷ cs) y i =
    ⊎_elim
    (λ (e : y ≡ name_at d c.at). record { one = c; listed = Memᴰ.head refl; is = e })
    (λ j. let n = name_of d cs y j in record { one = n.one; listed = Memᴰ.tail n.listed; is = n.is })
    (Memᴰ.cases_cons i)

names-sorted : {d : List ℕ} {cs : List Child} → Ascends d cs → Sorted (child_names d cs)
unfolding child_names
names-sorted no-children = sorted_none
names-sorted {d = d} (ascends-more {c = c} {cs = cs} f a) =
    sorted_more (λ y i. let n = name_of d cs y i in ap (compare (name_at d c.at)) n.is ∙ f n.one n.listed) (names-sorted a)

-- ---- a key, and keys side by side

module _ (d : List ℕ) (minor : ℕ) where
  record KeyReads (n : ℕ) (o : Offset) : Type 0 where
    frames : (r : Forest) → forest_frames (key_read d minor n o r) ≡ stream_in d minor n o ++ forest_frames r
    allowed : (r : Forest) → Allowed n r → Allowed n (key_read d minor n o r)
    names : (r : Forest) → names_of (key_read d minor n o r) ≡ name_at d o ∷ names_of r
    count : (r : Forest) → count_of (key_read d minor n o r) ≡ suc (count_of r)

  record ListReads (n : ℕ) (cs : List Child) : Type 0 where
    frames : forest_frames (side_by_side (key_read d minor n) cs) ≡ stream_over (stream_in d minor n) cs
    allowed : Allowed n (side_by_side (key_read d minor n) cs)
    names : names_of (side_by_side (key_read d minor n) cs) ≡ child_names d cs
    count : count_of (side_by_side (key_read d minor n) cs) ≡ length cs

  list-reads : (n : ℕ) (cs : List Child) → ((c : Child) → Memᴰ c cs → KeyReads n c.at) → ListReads n cs
  unfolding side_by_side stream_over child_names forest_frames names_of count_of
  list-reads n [] f = record { frames = refl; allowed = allowed-none; names = refl; count = refl }
  list-reads n (c ∷ cs) f =
      let k = f c (Memᴰ.head refl) in
      let l = list-reads n cs (λ e i. f e (Memᴰ.tail i)) in
      let r = side_by_side (key_read d minor n) cs in
      record {
        frames = k.frames r ∙ ap (λ (t : List ℕ). stream_in d minor n c.at ++ t) l.frames;
        allowed = k.allowed r l.allowed;
        names = k.names r ∙ ap (λ (t : List (List ℕ)). name_at d c.at ∷ t) l.names;
        count = k.count r ∙ ap suc l.count;
      }

  module _ (bytes : AllBelow 256 d) where
    named : (o : Offset) → KeyRecord (data_at d o) → KeyName (name_at d o)
    named o g =
        subst (λ (y : List ℕ). KeyName y) (sym (name-codes d o))
        (record {
          some = g.some;
          few = g.few;
          no-backslash = g.no-backslash;
          codes-fit = codes-fit (key_narrow (data_at d o)) (key_name (data_at d o)) (below-take 256 (u16_at (data_at d o) 72) (drop 76 (data_at d o)) (below-drop 256 76 (data_at d o) (data-fits d o bytes)));
        })

    opened : (o : Offset) → KeyRecord (data_at d o) → key_frame (u64_at (data_at d o) 4) (name_at d o) ≡ open_frame d o
    unfolding key_frame open_frame
    opened o g =
        let room = g.room in
        ap (λ (t : List ℕ). frame 16 (t ++ wide (name_at d o)))
        (le-u64 (data_at d o) (below_at 256 (omega arith) (data_at d o) (data-fits d o bytes)) 4 (omega arith))

    key-allowed : (n : ℕ) (o : Offset) → KeyStands d minor o → Ascends d (children d o) → (key_of d o).subkeys ≤ 65535 → ListReads n (children d o)
        → KeyAllowed (u64_at (data_at d o) 4) (name_at d o) (items_read d minor (values_of d (key_of d o))) (side_by_side (key_read d minor n) (children d o))
    key-allowed n o s a few l =
        let c = l.count in
        let t = s.total in
        record {
          stamp-fits = u64-below (data_at d o) (below_at 256 (omega arith) (data_at d o) (data-fits d o bytes)) 4;
          name = named o s.record-good;
          each = items-allowed d minor (values_of d (key_of d o)) bytes s.values.each;
          apart = items-apart d minor (values_of d (key_of d o)) s.values.distinct.differ;
          sorted = subst (λ (ys : List (List ℕ)). Sorted ys) (sym l.names) (names-sorted a);
          few = omega arith;
        }

    key-reads-of : (n : ℕ) (o : Offset) → KeyStands d minor o → Ascends d (children d o) → (key_of d o).subkeys ≤ 65535 → ListReads n (children d o)
        → KeyReads (suc n) o
    unfolding key_read forest_frames stream_in names_of count_of
    key-reads-of n o s a few l =
        let vs = values_of d (key_of d o) in
        let b = side_by_side (key_read d minor n) (children d o) in
        record {
          frames = λ r.
              ap₂ (λ (x y : List ℕ). x ++ y) (opened o s.record-good)
              (ap₂ (λ (x y : List ℕ). x ++ y) (items-framed d minor vs) (ap (λ (x : List ℕ). x ++ (close_frame ++ forest_frames r)) l.frames))
              ∙ regroup (open_frame d o) (value_stream d minor vs) (stream_over (stream_in d minor n) (children d o)) close_frame (forest_frames r);
          allowed = λ r t. allowed-more (key-allowed n o s a few l) l.allowed t;
          names = λ r. refl;
          count = λ r. refl;
        }
      where
        regroup : (a b c e f : List ℕ) → a ++ (b ++ (c ++ (e ++ f))) ≡ (a ++ (b ++ (c ++ e))) ++ f
        regroup a b c e f = simp append_assoc

-- ---- the tree

module _ (d : List ℕ) (hive : Hive) (bytes : AllBelow 256 d) where
  tree-reads : (n : ℕ) (o : Offset) → TreeStands d hive n o → ((k : Offset) → Memᴰ k (keys_in d n o) → (key_of d k).subkeys ≤ 65535)
      → KeyReads d hive.minor n o
  unfolding keys_in
  tree-reads Prim.Native.Nat.zero o x₂ few = elim x₂ [ ]
  tree-reads (suc n) o (key s a ch tree) few =
      key-reads-of d hive.minor bytes n o s a (few o (Memᴰ.head refl))
      (list-reads d hive.minor n (children d o)
      (λ c i. tree-reads n c.at (tree c i) (λ k j. few k (Memᴰ.tail (joined_in (keys_in d n) (children d o) i j)))))

-- ---- the hive

module _ (h : List ℕ) (bytes : AllBelow 256 h) (few : (k : Offset) → Memᴰ k (keys_of h) → (key_of (bins_data h) k).subkeys ≤ 65535) where
  module _ (w : CleanAndWellFormed h) where
    reads : KeyReads (bins_data h) (hive_of h).minor levels (hive_of h).root
    reads =
        tree-reads (bins_data h) (hive_of h) (below-take 256 (bins_of (sector h)) (drop 4096 h) (below-drop 256 4096 h bytes)) levels (hive_of h).root
        w.formed.tree few

    -- its stream is that of its forest
    pub export-forest : (stream_of h ≡ forest_frames (forest_of h)) × OneRoot (forest_of h)
    unfolding count_of forest_frames
    export-forest =
        (sym (reads.frames none ∙ append-nil (stream_of h)), record { single = reads.count none; allowed = reads.allowed none allowed-none })

    formed-builds : stream_fault (stream_of h) ≡ Fine
    formed-builds = ap (λ (s : List ℕ). stream_fault s) export-forest.0 ∙ written-fine (forest_of h) export-forest.1

    -- built again, it has the same export
    formed-again : (sd : List ℕ) → bins_for (forest_of h) (length sd) ≤ bins_limit → stream_of (built_hive (forest_of h) sd) ≡ stream_of h
    formed-again sd fits = built-exports (forest_of h) sd export-forest.1 fits ∙ sym export-forest.0

  -- of an accepted hive
  module _ (m : List ℕ) {r : Report} (e : check_answer h m ≡ Ok r) where
    formed : CleanAndWellFormed h
    formed =
        let a = accepted-as h m e in
        (accepted-exactly h m (front-facts h (length m) (surveyed h m a.tally a.surveys).0).1).0 (r, e)

    pub accepted-forest : (stream_of h ≡ forest_frames (forest_of h)) × OneRoot (forest_of h)
    accepted-forest = export-forest formed

    pub export-builds : stream_fault (stream_of h) ≡ Fine
    export-builds = formed-builds formed

    pub export-again : (sd : List ℕ) → bins_for (forest_of h) (length sd) ≤ bins_limit → stream_of (built_hive (forest_of h) sd) ≡ stream_of h
    export-again = formed-again formed

-- "Every stream that is not refused is the export of its own hive"
pub stream-again : (s sd : List ℕ) → AllBelow 256 s → stream_fault s ≡ Fine
    → (f : Forest) × (s ≡ forest_frames f) × OneRoot f × (bins_for f (length sd) ≤ bins_limit → stream_of (built_hive f sd) ≡ s)
stream-again s sd bytes e =
    let x = (built-exactly s bytes).0 e in
    (x.0, x.1, x.2, λ fits. built-exports x.0 sd x.2 fits ∙ sym x.1)
