-- The tests of one frame: no fault exactly when all nine pass, and what that says of each shape.
use Prim.Native.Nat.{ℕ, suc, ◌≤◌, ◌<◌}
use native.Mathlib.Omega.{arith}
use mathlib.Core.Path.{◌≡◌, refl, sym, ap}
use mathlib.Core.Logic.{⊎_elim}
use mathlib.Core.Bool.{Bool, true, false, cond, not, ◌&&◌, ◌||◌}
use mathlib.Core.List.Memᴰ
use mathlib.Core.List.{List, [], ◌∷◌, Memᴰ}
use lib.Dec.{eqb, leb}
use lib.ListN.{length}
use borrow.Author.Tests.{leb-true, le-leb, eqb-true, eq-eqb, ne_eqb, not-true}
use Rattle.fields.specs.declared.Fault.TheVariants.{NoFrame, ValueLate, Unbalanced, Unsorted, Repeated, NameSize, DataSize, Depth, Subkeys}
use Rattle.fields.specs.Faults.{flaw, nowhere}
use Rattle.fields.specs.Number.{u16_at}
use Rattle.fields.proofs.Bools.{and-inv, and_both, never}
use Rattle.fields.proofs.Firsts.{both, sound, held, holds as passes}
use Rattle.names.specs.Codes.{has_code, backslash}
use Rattle.forest.specs.Forest.{Item}
use Rattle.forest.specs.Allowed.{AllBelow, KeyName, ItemAllowed}
use Rattle.forest.specs.Faults.{Shape, unlaid, opens, holds, closes, frame_len, payload, is_there, kind_shape, shape_of, Open, State, within, over, values_seen, subkeys_seen, level_of, is_over, is_laid, is_timely, is_inside, is_above, is_sorted, is_new, is_single, is_named, is_small, is_shallow, is_few, frame_fault}
use Rattle.forest.proofs.Judge.{frame-some}
use Rattle.forest.proofs.Frames.{there-fits}
use Rattle.forest.proofs.Shapes.{ItemFits}
use Rattle.std.specs.Prelude.{Ok}

-- ---- all nine

pub record Passes (f : Shape) (st : State) : Type 0 where
  pub laid : is_laid f ≡ true
  pub timely : is_timely f st ≡ true
  pub inside : is_inside f st ≡ true
  pub sorted : is_sorted f st ≡ true
  pub single : is_single f st ≡ true
  pub named : is_named f ≡ true
  pub small : is_small f ≡ true
  pub shallow : is_shallow f st ≡ true
  pub few : is_few f st ≡ true

module _ (f : Shape) (st : State) where
  pub passes-sound : Passes f st → frame_fault f st ≡ Ok tt
  unfolding frame_fault
  passes-sound p =
      sound _ _ (passes (flaw NoFrame nowhere) p.laid)
      (sound _ _ (passes (flaw ValueLate nowhere) p.timely)
      (sound _ _ (passes (flaw Unbalanced nowhere) p.inside)
      (sound _ _ (passes (flaw Unsorted nowhere) p.sorted)
      (sound _ _ (passes (flaw Repeated nowhere) p.single)
      (sound _ _ (passes (flaw NameSize nowhere) p.named)
      (sound _ _ (passes (flaw DataSize nowhere) p.small)
      (sound _ _ (passes (flaw Depth nowhere) p.shallow)
      (passes (flaw Subkeys nowhere) p.few))))))))

  pub sound-passes : frame_fault f st ≡ Ok tt → Passes f st
  unfolding frame_fault
  sound-passes e =
      let a = both _ _ e in
      let b = both _ _ a.1 in
      let c = both _ _ b.1 in
      let d = both _ _ c.1 in
      let g = both _ _ d.1 in
      let h = both _ _ g.1 in
      let i = both _ _ h.1 in
      let j = both _ _ i.1 in
      record {
        laid = held (is_laid f) (flaw NoFrame nowhere) a.0;
        timely = held (is_timely f st) (flaw ValueLate nowhere) b.0;
        inside = held (is_inside f st) (flaw Unbalanced nowhere) c.0;
        sorted = held (is_sorted f st) (flaw Unsorted nowhere) d.0;
        single = held (is_single f st) (flaw Repeated nowhere) g.0;
        named = held (is_named f) (flaw NameSize nowhere) h.0;
        small = held (is_small f) (flaw DataSize nowhere) i.0;
        shallow = held (is_shallow f st) (flaw Depth nowhere) j.0;
        few = held (is_few f st) (flaw Subkeys nowhere) j.1;
      }

-- a frame that is laid out has at least its header, and all of it is there
pub laid-fits : (r : List ℕ) → is_laid (shape_of r) ≡ true → (6 ≤ frame_len r) × (frame_len r ≤ length r)
unfolding shape_of is_laid
laid-fits r e = by (is_there r) refl e
  where
    by : (t : Bool) → is_there r ≡ t → is_laid (cond t (kind_shape (u16_at r 4) (payload r)) unlaid) ≡ true
        → (6 ≤ frame_len r) × (frame_len r ≤ length r)
    by true q e = (frame-some r, (there-fits r q).1)
    by false q e = absurd (never false e refl)

pub sound-fits : (r : List ℕ) (st : State) → frame_fault (shape_of r) st ≡ Ok tt → (6 ≤ frame_len r) × (frame_len r ≤ length r)
sound-fits r st e = laid-fits r (sound-passes (shape_of r) st e).laid

-- ---- names

has_code_lem : (k : ℕ) (x : List ℕ) → Memᴰ k x → has_code k x ≡ true
unfolding has_code
has_code_lem k [] m = absurd (Memᴰ.not-nil m)
has_code_lem k (c ∷ cs) m = ⊎_elim (λ (e : k ≡ c). rw (eq-eqb c k (sym e))) (λ i. rw (has_code_lem k cs i) (or-true (eqb c k))) (Memᴰ.cases_cons m)
  where
    or-true : (b : Bool) → (b || true) ≡ true
    or-true true = refl
    or-true false = refl

no_code : (k : ℕ) (x : List ℕ) → (Memᴰ k x → ⊥) → has_code k x ≡ false
unfolding has_code
no_code k [] n = refl
no_code k (c ∷ cs) n = rw (ne_eqb c k (λ e. n (Memᴰ.head (sym e)))) (no_code k cs (λ m. n (Memᴰ.tail m)))

module _ (s : ℕ) (x : List ℕ) where
  pub name-passes : KeyName x → is_named (opens s x) ≡ true
  unfolding is_named
  name-passes n =
      and_both (le-leb 1 (length x) n.some) (and_both (le-leb (length x) 255 n.few) (ap not (no_code backslash x n.no-backslash)))

  pub passed-name : AllBelow 65536 x → is_named (opens s x) ≡ true → KeyName x
  unfolding is_named
  passed-name f e =
      let a = and-inv (leb 1 (length x)) (leb (length x) 255 && not (has_code backslash x)) e in
      let b = and-inv (leb (length x) 255) (not (has_code backslash x)) a.1 in
      record {
        some = leb-true 1 (length x) a.0;
        few = leb-true (length x) 255 b.0;
        no-backslash = λ m. never (has_code backslash x) (has_code_lem backslash x m) (not-true (has_code backslash x) b.1);
        codes-fit = f;
      }

-- ---- a frame inside of a key

module _ (k : Open) (ks : List Open) where
  -- what a key is asked there
  pub record KeyHere (x : List ℕ) : Type 0 where
    pub above : is_above x k.subkeys ≡ true
    pub level : suc (length ks) ≤ 512
    pub few : length k.subkeys < 65535

  pub sound-key : (s : ℕ) (x : List ℕ) → AllBelow 65536 x → frame_fault (opens s x) (within (k ∷ ks)) ≡ Ok tt → KeyName x × KeyHere x
  unfolding is_sorted is_shallow is_few subkeys_seen level_of
  sound-key s x f e =
      let p = sound-passes (opens s x) (within (k ∷ ks)) e in (
        passed-name s x f p.named,
        record {
          above = p.sorted;
          level = leb-true (suc (length ks)) 512 p.shallow;
          few = leb-true (suc (length k.subkeys)) 65535 p.few;
        },
      )

  pub key-sound : (s : ℕ) (x : List ℕ) → KeyName x → KeyHere x → frame_fault (opens s x) (within (k ∷ ks)) ≡ Ok tt
  unfolding is_laid is_timely is_inside is_sorted is_single is_small is_shallow is_few subkeys_seen level_of is_over
  key-sound s x n h =
      passes-sound (opens s x) (within (k ∷ ks)) (record {
        laid = refl;
        timely = refl;
        inside = refl;
        sorted = h.above;
        single = refl;
        named = name-passes s x n;
        small = refl;
        shallow = le-leb (suc (length ks)) 512 h.level;
        few = le-leb (suc (length k.subkeys)) 65535 h.few;
      })

  -- what a value is asked there
  pub record ItemHere (v : Item) : Type 0 where
    pub timely : length k.subkeys ≡ 0
    pub new : is_new v.name k.values ≡ true

  pub sound-item : (v : Item) → ItemFits v → AllBelow 256 v.bytes → frame_fault (holds v) (within (k ∷ ks)) ≡ Ok tt → ItemAllowed v × ItemHere v
  unfolding is_timely is_single is_named is_small values_seen subkeys_seen
  sound-item v f b e =
      let p = sound-passes (holds v) (within (k ∷ ks)) e in (
        record {
          kind_fits = f.kind;
          name-fits = leb-true (length v.name) 16383 p.named;
          codes-fit = f.codes-fit;
          data-fits = leb-true (length v.bytes) 1048576 p.small;
          bytes_fit = b;
        },
        record { timely = eqb-true (length k.subkeys) 0 p.timely; new = p.single },
      )

  pub item-sound : (v : Item) → ItemAllowed v → ItemHere v → frame_fault (holds v) (within (k ∷ ks)) ≡ Ok tt
  unfolding is_laid is_timely is_inside is_sorted is_single is_named is_small is_shallow is_few values_seen subkeys_seen level_of
  item-sound v a h =
      passes-sound (holds v) (within (k ∷ ks)) (record {
        laid = refl;
        timely = eq-eqb (length k.subkeys) 0 h.timely;
        inside = le-leb 1 (suc (length ks)) (omega arith);
        sorted = refl;
        single = h.new;
        named = le-leb (length v.name) 16383 a.name-fits;
        small = le-leb (length v.bytes) 1048576 a.data-fits;
        shallow = refl;
        few = refl;
      })

  pub close-sound : frame_fault closes (within (k ∷ ks)) ≡ Ok tt
  unfolding is_laid is_timely is_inside is_sorted is_single is_named is_small is_shallow is_few level_of
  close-sound =
      passes-sound closes (within (k ∷ ks)) (record {
        laid = refl;
        timely = refl;
        inside = le-leb 1 (suc (length ks)) (omega arith);
        sorted = refl;
        single = refl;
        named = refl;
        small = refl;
        shallow = refl;
        few = refl;
      })

-- ---- a frame outside of any key

pub root-sound : (s : ℕ) (x : List ℕ) → KeyName x → frame_fault (opens s x) (within []) ≡ Ok tt
unfolding is_laid is_timely is_inside is_above is_sorted is_single is_small is_shallow is_few subkeys_seen level_of is_over
root-sound s x n =
    passes-sound (opens s x) (within []) (record {
      laid = refl;
      timely = refl;
      inside = refl;
      sorted = refl;
      single = refl;
      named = name-passes s x n;
      small = refl;
      shallow = refl;
      few = refl;
    })

pub unlaid-flawed : (st : State) → frame_fault unlaid st ≡ Ok tt → ⊥
unfolding is_laid
unlaid-flawed st e = never false (sound-passes unlaid st e).laid refl

-- before the root a value and a closing are at fault
pub root-opens : (f : Shape) → frame_fault f (within []) ≡ Ok tt → (s : ℕ) × (x : List ℕ) × (f ≡ opens s x)
unfolding is_laid is_inside level_of
root-opens unlaid e = absurd (unlaid-flawed (within []) e)
root-opens (opens s x) e = (s, x, refl)
root-opens (holds v) e = absurd (never false (sound-passes (holds v) (within []) e).inside refl)
root-opens closes e = absurd (never false (sound-passes closes (within []) e).inside refl)

-- behind the root every frame is
pub over-flawed : (f : Shape) → frame_fault f over ≡ Ok tt → ⊥
unfolding is_inside level_of is_over
over-flawed unlaid e = unlaid-flawed over e
over-flawed (opens s x) e = never false (sound-passes (opens s x) over e).inside refl
over-flawed (holds v) e = never false (sound-passes (holds v) over e).inside refl
over-flawed closes e = never false (sound-passes closes over e).inside refl
