-- A key that is open, behind some of its subkeys: what was passed of it, what one subkey more makes of it, and what it comes to when it closes.
use Prim.Native.Nat.{ℕ, zero, suc, ◌+◌, ◌-◌, ◌*◌, ◌^◌, ◌≤◌, ◌<◌}
use native.Mathlib.Omega.{arith}
use mathlib.Core.Path.{◌≡◌, refl, sym, ap, ap₂, subst, ◌∙◌}
use mathlib.Core.Bool.{true}
use mathlib.Core.List.Memᴰ
use mathlib.Core.List.{List, [], ◌∷◌, ◌++◌}
use lib.ListN.{length, drop}
use Rattle.layout.specs.Layout.{cell_size, stored, values_size, list_size, leaf_size, size_of}
use Rattle.stream.specs.Stream.{close_frame}
use Rattle.forest.specs.Forest.{Item, Forest, none, count_of, key_count, key_frame, item_frames, forest_frames}
use Rattle.forest.specs.Allowed.{AllBelow, KeyName}
use Rattle.forest.specs.Faults.{Shape as Said, closes, shape_of, Open, State, within, fresh, close_in, is_laid, is_above, frame_fault, Judged, Wrong, judge}
use Rattle.forest.proofs.Bytes.{below-drop}
use Rattle.forest.proofs.Shapes.{KeyFits}
use Rattle.forest.proofs.Back.{key-back-fits}
use Rattle.forest.proofs.Tests.{KeyHere, sound-key, name-passes}
use Rattle.forest.proofs.Growing.{Adding, Growing, no-key, apart-adding, key-adding, growing-key, growing-allowed, allowed-growing}
use Rattle.forest.specs.Behind.{add_values}
use Rattle.forest.proofs.Written.{added-subkeys, close-any}
use Rattle.fields.specs.declared.Flaw.{Flaw}
use Rattle.build_frames.specs.declared.Opening.{Opening}
use Rattle.build_frames.specs.Terms.{name_in, TextLies, Ends}
use Rattle.build_frames.proofs.Names.{key-short}
use Rattle.build_measure.specs.declared.Here.{Here}
use Rattle.build_measure.specs.declared.Values.{Values}
use Rattle.build_measure.specs.declared.Sofar.{Sofar}
use Rattle.build_measure.specs.declared.Tested.{Tested}
use Rattle.build_measure.specs.Terms.{cap, Good, items_from, AllValues, NoneTwice, Elders, Stands, StepFits, KeyStep, WrongHere, Begun, AddFits, Added, Ended, ClosedAs}
use Rattle.build_measure.proofs.Sizes.{cap-add, cap-few}
use Rattle.build_measure.proofs.Repeats.{not-opens, items-length}
use Rattle.build_measure.proofs.Frames.{values-allowed, values-frames, opening-frame, closing-frame, judged-open, judged-close}
use Rattle.build_measure.proofs.Joins.{Chain, chain-none, size_with, chain_more}
use Rattle.build_measure.proofs.Sums.{cap-more, cap-end}

-- where the next frame of an open key comes
abbrev pub here_of : ℕ → Sofar → Here
here_of level w = record { level = level; subkeys = w.subkeys; elder = w.elder }

abbrev pub with_names : List (List ℕ) → Open → Open
with_names ys k = record { values = k.values; subkeys = ys }

-- w₀ is what was told behind the values, w what is told now
pub record Going (s : List ℕ) (level : ℕ) (w₀ w : Sofar) : Type 0 where
  pub names : List (List ℕ)
  pub total : ℕ
  pub chain : Chain s (512 - level) w₀.at w.at names w.subkeys total w.keys
  pub elders : Elders s (here_of level w) names
  pub size_is : w.size ≡ cap (w₀.size + total)
  pub judged : (k : Open) (ks : List Open) → k.subkeys ≡ [] → length ks ≡ level
      → judge (drop w₀.at s) w₀.at (within (k ∷ ks)) ≡ judge (drop w.at s) w.at (within (with_names names k ∷ ks))
  pub unmoved : w.subkeys ≡ 0 → w.at ≡ w₀.at
  pub room : w₀.at + 6 * w.keys ≤ w.at
  pub inside : w.at ≤ length s
  pub lies : TextLies s w.elder
  pub few : w.subkeys ≤ 65535

abbrev first : List (List ℕ) → List ℕ
first [] = []
first (x ∷ xs) = x

none_first : {x : List ℕ} {xs : List (List ℕ)} → ◌≡◌ {A = List (List ℕ)} [] (x ∷ xs) → ⊥
none_first e = let c = ap length e in omega arith

chain-as : {s : List ℕ} {n m p₀ p q : ℕ} {names : List (List ℕ)} {c d size k l : ℕ} → n ≡ m → p ≡ q → c ≡ d → k ≡ l → Chain s n p₀ p names c size k
    → Chain s m p₀ q names d size l
chain-as {s} {n} {m} {p₀} {p} {q} {names} {c} {d} {size} {k} {l} e f g h x =
    subst (λ (i : ℕ). Chain s i p₀ q names d size l) e
    (subst (λ (i : ℕ). Chain s n p₀ i names d size l) f
    (subst (λ (i : ℕ). Chain s n p₀ p names i size l) g (subst (λ (i : ℕ). Chain s n p₀ p names c size i) h x)))

-- so many keys that are open
unfoldable blank : ℕ → List Open
blank zero = []
blank (suc n) = fresh ∷ blank n

blank-length : (n : ℕ) → length (blank n) ≡ n
unfolding blank
blank-length zero = refl
blank-length (suc n) = ap suc (blank-length n)

module _ (s : List ℕ) where
  -- what is judged does not depend on how a position is told
  moved : (st : State) {p q : ℕ} → p ≡ q → judge (drop p s) p st ≡ judge (drop q s) q st
  moved st e = ap (λ (n : ℕ). judge (drop n s) n st) e

  -- behind the values
  module _ (level : ℕ) {at : ℕ} {r : Values} (x : AllValues s at r) {w : Sofar} (b : Begun s at r w) where
    pub going_start : Going s level w w
    going_start =
        let z = values_size (items_from s at r.count) + list_size r.count in
        let y : z + 0 ≡ z = omega arith in
        let i = x.passed.inside in
        let p = b.place in
        let n = b.keys in
        let c = b.subkeys in
        record {
          names = [];
          total = 0;
          chain = chain-as refl refl (sym b.subkeys) (sym b.keys) (chain-none s (512 - level) w.at);
          elders = record { count = sym b.subkeys; latest = λ u us e. absurd (none_first e) };
          size_is = sym (ap (λ (m : ℕ). cap (m + 0)) b.size_is ∙ cap-add z 0 ∙ ap cap y ∙ sym b.size_is);
          judged = λ k ks e l. ap (λ (ys : List (List ℕ)). judge (drop w.at s) w.at (within (with_names ys k ∷ ks))) e;
          unmoved = λ e. refl;
          room = omega arith;
          inside = omega arith;
          lies = b.elder;
          few = omega arith;
        }

  module _ {level : ℕ} {w₀ w : Sofar} (g : Going s level w₀ w) where
    pub size_few : w.size ≤ 2147479553
    size_few = let a = cap-few (w₀.size + g.total) in let e = g.size_is in omega arith

    -- a subkey opens
    module _ (bytes : AllBelow 256 s) {o : Opening} (x : KeyStep s w.at (here_of level w) o) where
      abbrev name : List ℕ
      name = name_in s o.name

      stands : (k : Open) (ks : List Open) → length ks ≡ level → Stands s (shape_of (drop w.at s)) (here_of level w) (with_names g.names k) ks
      stands k ks e = record { level = e; elders = g.elders; new = λ v q z. absurd (not-opens x.says v q) }

      fits : KeyFits o.stamp name
      fits = key-back-fits (drop w.at s) (below-drop 256 w.at s bytes) o.stamp name x.says

      allowed-here : KeyName name × KeyHere (with_names g.names fresh) (blank level) name
      allowed-here =
          let k = with_names g.names fresh in
          let ks = blank level in
          sound-key k ks o.stamp name fits.codes-fit
          (ap (λ (f : Said). frame_fault f (within (k ∷ ks))) (sym x.says) ∙ x.sound k ks (stands fresh ks (blank-length level)))

      pub level-left : level < 512
      level-left = let a = allowed-here.1.level in let b = blank-length level in omega arith

      pub key-laid : is_laid (shape_of (drop w.at s)) ≡ true
      unfolding is_laid
      key-laid = ap is_laid x.says

      module _ {e : ℕ} (n : Ends s w.at e) where
        opened : (k : Open) (ks : List Open) → length ks ≡ level
            → judge (drop w.at s) w.at (within (with_names g.names k ∷ ks)) ≡ judge (drop e s) e (within (fresh ∷ (with_names (name ∷ g.names) k ∷ ks)))
        opened k ks l = judged-open s w.at x (with_names g.names k) ks (stands k ks l) ∙ moved (within (fresh ∷ (with_names (name ∷ g.names) k ∷ ks))) (sym n.is)

        module _ {t : Tested} (c : ClosedAs s e (level + 1) t) where
          pub more-fits : length s < 2 ^ 64 → AddFits s w o t
          more-fits long =
              let a = allowed-here in
              let f = a.1.few in
              let i = g.elders.count in
              let r = g.room in
              let u = c.room in
              let v = c.inside in
              let q = n.further in
              let z = cap-few (values_size c.items + (list_size (length c.items) + (size_of c.below + leaf_size (count_of c.below)))) in
              let y = c.size_is in
              record {
                lies = x.lies;
                short = key-short s o.name x.lies o.stamp (name-passes o.stamp name a.0);
                size_fits = size_few;
                below-fits = omega arith;
                keys-fit = omega arith;
                few = omega arith;
              }

          own_key : Adding [] c.items × Growing (512 - (level + 1)) [] c.below
          unfolding is_above
          own_key =
              let k = c.own o.stamp name fits.stamp allowed-here.0 in
              let f = k.few in
              (key-adding k, allowed-growing c.levels [] k.sorted (λ y m. refl) (omega arith))

          row : drop w.at s ≡ key_frame o.stamp name ++ (item_frames c.items ++ (forest_frames c.below ++ (close_frame ++ drop t.at s)))
          row =
              opening-frame s bytes w.at x
              ∙ ap (λ (u : List ℕ). key_frame o.stamp name ++ u) (ap (λ (i : ℕ). drop i s) (sym n.is) ∙ c.frames)

          grown : Chain s (512 - level) w₀.at t.at (name ∷ g.names) (suc w.subkeys) (g.total + size_with name c.items c.below) (w.keys + suc (key_count c.below))
          grown =
              let l = level-left in
              let q : 512 - level ≡ suc (512 - (level + 1)) = omega arith in
              let a = allowed-here in
              chain-as (sym q) refl refl refl
              (chain_more (chain-as q refl refl refl g.chain) o.stamp name c.items c.below fits.stamp a.0 a.1.above a.1.few own_key.0 own_key.1 t.at row)

          pub further : w.at < t.at
          further = let a = n.further in let b = c.room in omega arith

          module _ {v : Sofar} (d : Added s w o t v) where
            pub going_more : Going s level w₀ v
            unfolding close_in
            going_more =
                let a = allowed-here.1.few in
                let i = g.elders.count in
                let y = d.subkeys in
                let z = d.keys in
                let p = d.place in
                let m = c.keys in
                let r = g.room in
                let u = c.room in
                let h = n.further in
                let j = c.inside in
                record {
                  names = name ∷ g.names;
                  total = g.total + size_with name c.items c.below;
                  chain = chain-as refl (sym d.place) (omega arith) (omega arith) grown;
                  elders = record { count = omega arith; latest = λ f fs e. sym (ap first e) ∙ ap (name_in s) (sym d.elder) };
                  size_is = cap-more w₀.size g.total (cell_size (76 + length (stored name))) (values_size c.items + (list_size (length c.items) + (size_of c.below + leaf_size (count_of c.below)))) g.size_is c.size_is d.size_is;
                  judged = λ k ks e l. g.judged k ks e l ∙ opened k ks l ∙ c.judged (with_names (name ∷ g.names) k ∷ ks) (omega (arith, l)) ∙ moved (within (with_names (name ∷ g.names) k ∷ ks)) (sym d.place);
                  unmoved = λ e. absurd (omega (arith, e));
                  room = omega arith;
                  inside = omega arith;
                  lies = subst (TextLies s) (sym d.elder) x.lies.inside;
                  few = omega arith;
                }

    -- the whole key, from behind its opening frame on
    module _ {at : ℕ} {r : Values} (x : AllValues s at r) (b : Begun s at r w₀) where
      same_place : w.subkeys ≡ 0 → w.at ≡ r.at
      same_place z = g.unmoved z ∙ b.place

      pub step_fits : level ≤ 512 → StepFits s w.at (here_of level w)
      step_fits l = record {
        inside = g.inside;
        here = record { elder = g.lies; level = l; few = g.few };
        no_value = λ z a. x.last (subst (λ (p : ℕ). Good (shape_of (drop p s))) (same_place z) a);
      }

      module _ (nt : NoneTwice s at r) where
        abbrev values-open : Open
        values-open = add_values (items_from s at r.count) fresh

        so_far : (ks : List Open) → length ks ≡ level
            → judge (drop at s) at (within (fresh ∷ ks)) ≡ judge (drop w.at s) w.at (within (with_names g.names values-open ∷ ks))
        so_far ks l =
            nt.judged ks ∙ moved (within (values-open ∷ ks)) (sym b.place)
            ∙ g.judged values-open ks (added-subkeys (items_from s at r.count) fresh) l

        -- a fault in the frame that comes next, and one in a subkey
        pub wrong-next : {f : Flaw} → WrongHere s w.at (here_of level w) f → (ks : List Open) → length ks ≡ level
            → judge (drop at s) at (within (fresh ∷ ks)) ≡ Wrong f w.at
        wrong-next q ks l =
            so_far ks l
            ∙ q (with_names g.names values-open) ks (record {
              level = l;
              elders = g.elders;
              new = λ v e z. nt.new v (ap (λ (p : ℕ). shape_of (drop p s)) (sym (same_place z)) ∙ e);
            })

        pub wrong-below : (bytes : AllBelow 256 s) {o : Opening} → KeyStep s w.at (here_of level w) o → {e : ℕ} → Ends s w.at e → {j : Judged}
            → ((ks : List Open) → length ks ≡ level + 1 → judge (drop e s) e (within (fresh ∷ ks)) ≡ j)
            → (ks : List Open) → length ks ≡ level → judge (drop at s) at (within (fresh ∷ ks)) ≡ j
        wrong-below bytes {o} k n f ks l =
            so_far ks l ∙ opened bytes k n values-open ks l ∙ f (with_names (name_in s o.name ∷ g.names) values-open ∷ ks) (omega (arith, l))

        -- it closes
        module _ (bytes : AllBelow 256 s) (cl : shape_of (drop w.at s) ≡ closes) {t : Tested} (en : Ended s w t) where
          abbrev below : Forest
          below = g.chain.whole none

          abbrev items : List Item
          items = items_from s at r.count

          adding : Adding [] items
          adding = apart-adding [] items (values-allowed s bytes x) nt.apart (λ y i w j. absurd (Memᴰ.not-nil i))

          growing : Growing (512 - level) [] below
          growing = g.chain.grows none no-key

          below-size : size_of below ≡ g.total
          unfolding size_of
          below-size = let e = g.chain.size_is none in omega arith

          below-count : count_of below ≡ w.subkeys
          unfolding count_of
          below-count = let e = g.chain.count-is none in omega arith

          below-keys : key_count below ≡ w.keys
          unfolding key_count
          below-keys = let e = g.chain.keys-are none in omega arith

          below-frames : drop w₀.at s ≡ forest_frames below ++ (close_frame ++ drop t.at s)
          unfolding forest_frames
          below-frames =
              g.chain.frames none (close_frame ++ drop t.at s)
              (closing-frame s bytes w.at cl ∙ ap (λ (p : ℕ). close_frame ++ drop p s) (sym en.place.is))

          begun-size : w₀.size ≡ cap (values_size items + list_size (length items))
          begun-size = b.size_is ∙ ap (λ (n : ℕ). cap (values_size items + list_size n)) (sym (items-length s r.count at))

          pub going_end : ClosedAs s at level t
          going_end =
              let p = b.place in
              let a = x.passed.room in
              let c = g.room in
              let d = en.place.further in
              let k = en.keys in
              record {
                items = items;
                below = below;
                frames = values-frames s bytes x ∙ ap (λ (u : List ℕ). item_frames items ++ u) (ap (λ (i : ℕ). drop i s) (sym b.place) ∙ below-frames);
                own = λ n y f m. growing-key f m adding growing;
                levels = growing-allowed growing;
                size_is =
                    cap-end (values_size items) (list_size (length items)) g.total (leaf_size w.subkeys) begun-size g.size_is en.size_is
                    ∙ ap₂ (λ (m n : ℕ). cap (values_size items + (list_size (length items) + (m + leaf_size n)))) (sym below-size) (sym below-count);
                keys = en.keys ∙ sym below-keys;
                inside = en.place.inside;
                room = omega arith;
                judged = λ ks l.
                    so_far ks l ∙ judged-close s w.at cl (with_names g.names values-open) ks
                    ∙ moved (close_in (within (with_names g.names values-open ∷ ks))) (sym en.place.is)
                    ∙ ap (judge (drop t.at s) t.at) (close-any (with_names g.names values-open) fresh ks);
              }
