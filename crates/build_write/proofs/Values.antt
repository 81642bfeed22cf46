-- The values of a key, read from its frames one after the other, and their cells.
use Prim.Native.Nat.{ℕ, zero, suc, ◌+◌, ◌*◌, ◌%◌, ◌<◌, ◌≤◌, max}
use native.Mathlib.Omega.{arith}
use mathlib.Core.Path.{◌≡◌, refl, sym, ap, ap₂, subst, ◌∙◌}
use mathlib.Core.Bool.{Bool, true, false}
use mathlib.Core.List.Memᴰ
use mathlib.Core.List.{List, [], ◌∷◌, ◌++◌, append_assoc}
use lib.Dec.{leb}
use lib.ListN.{length, drop, length-append}
use lib.Seq.{sets, drop-drop}
use borrow.Author.Tests.{leb-true, leb-false, le-leb, lt-leb}
use Rattle.fields.proofs.Bools.{never}
use Rattle.names.specs.Codes.{codes}
use Rattle.forest.specs.Forest.{Item, item_frame, item_frames}
use Rattle.forest.specs.Faults.{Shape as Said, unlaid, opens, holds, closes, shape_of, frame_len, is_laid}
use Rattle.forest.specs.Allowed.{ItemAllowed}
use Rattle.forest.proofs.Shapes.{item-fits, item-shape, item-len, item-left}
use Rattle.layout.specs.Layout.{cell_size, cell_bytes, row_bytes, stored, is_narrow, data_cells, data_size, value_record, value_cells, values_cells, value_size, values_size, larger, longest_name, longest_data}
use Rattle.build_frames.specs.declared.Held.{Held}
use Rattle.build_frames.specs.Terms.{text_in, name_in, item_in, HeldFits, StoredAs, Ends}
use Rattle.build_frames.proofs.Names.{text-length, name-bytes}
use Rattle.build_cells.specs.Terms.{IsName, item_of}
use Rattle.build_cells.proofs.Laws.{join2}
use Rattle.layout.proofs.Sizes.{cell-length, row-length, bytes-append, value-length as record-length, value-size}
use Rattle.build_write.specs.declared.Written.{Written}
use Rattle.build_write.specs.Terms.{is_value, Holding, Room, ValuesHere, NextFits, OneMore, AllWritten}

-- ---- the larger of two

pub larger-right : (a b : ℕ) → a ≤ b → larger a b ≡ b
unfolding larger
larger-right a b p = let e = le-leb a b p in rw e

pub larger-left : (a b : ℕ) → b < a → larger a b ≡ a
unfolding larger
larger-left a b p = let e = lt-leb a b p in rw e

-- what std's `max` gives
pub max-larger : (a b : ℕ) → max a b ≡ larger a b
max-larger a b = by (leb a b) refl
  where
    by : (t : Bool) → leb a b ≡ t → max a b ≡ larger a b
    by true e = let p = leb-true a b e in let h = larger-right a b p in omega arith
    by false e = let p = leb-false a b e in let h = larger-left a b p in omega arith

larger-first : (a b : ℕ) → a ≤ larger a b
larger-first a b = by (leb a b) refl
  where
    by : (t : Bool) → leb a b ≡ t → a ≤ larger a b
    by true e = let p = leb-true a b e in let h = larger-right a b p in omega arith
    by false e = let p = leb-false a b e in let h = larger-left a b p in omega arith

pub larger-later : (a b c : ℕ) → larger (larger a b) c ≡ larger a (larger b c)
larger-later a b c = by (leb a b) (leb b c) refl refl
  where
    by : (t u : Bool) → leb a b ≡ t → leb b c ≡ u → larger (larger a b) c ≡ larger a (larger b c)
    by true u e f =
        let p = leb-true a b e in
        let q = larger-first b c in
        ap (λ (k : ℕ). larger k c) (larger-right a b p) ∙ sym (larger-right a (larger b c) (omega arith))
    by false true e f =
        let p = leb-false a b e in
        ap (λ (k : ℕ). larger k c) (larger-left a b p) ∙ sym (ap (larger a) (larger-right b c (leb-true b c f)))
    by false false e f =
        let p = leb-false a b e in
        let q = leb-false b c f in
        ap (λ (k : ℕ). larger k c) (larger-left a b p) ∙ larger-left a c (omega arith) ∙ sym (ap (larger a) (larger-left b c q) ∙ larger-left a b p)

pub larger-zero : (a : ℕ) → larger a 0 ≡ a
larger-zero zero = larger-right 0 0 (omega arith)
larger-zero (suc a) = larger-left (suc a) 0 (omega arith)

-- ---- one value

value-held : Said → Item → Item
value-held unlaid u = u
value-held (opens s x) u = u
value-held (holds v) u = v
value-held closes u = u

pub same_item : {u v : Item} → holds u ≡ holds v → u ≡ v
unfolding value-held
same_item {u} e = ap (λ (f : Said). value-held f u) e

pub holding-laid : (s : List ℕ) (at : ℕ) (v : Held) → Holding s at v → is_laid (shape_of (drop at s)) ≡ true
unfolding is_laid
holding-laid s at v h = ap is_laid h.is

pub value-is-one : (f : Said) (v : Item) → f ≡ holds v → is_value f ≡ true
unfolding is_value
value-is-one f v e = ap is_value e

pub next-given : (offset r stop : ℕ) → r ≡ cell_size (20 + stop) → offset + r ≡ offset + cell_size (20 + stop)
next-given offset r stop e = ap (λ (k : ℕ). offset + k) e

module _ (s : List ℕ) (v : Held) (h : HeldFits s v) (offset n : ℕ) (room : Room offset (value_size (item_in s v)) n) where
  pub size-parts : value_size (item_in s v) ≡ cell_size (20 + length (stored (name_in s v.name))) + data_size (length (text_in s v.«data»))
  unfolding value_size
  size-parts = refl

  pub next-fits-in : (r stop : ℕ) → r ≡ cell_size (20 + stop) → StoredAs s v.name stop → offset + r < 2147483648
  next-fits-in r stop g w =
      let p = size-parts in
      let q = g ∙ ap (λ (k : ℕ). cell_size (20 + k)) w.is in
      let j = room.low in
      omega arith

  module _ (name body : List ℕ) (e : name ≡ text_in s v.name) (f : body ≡ text_in s v.«data») where
    pub body-few : length body ≤ 1048576
    body-few = let a = ap length f ∙ text-length s v.«data» h.lies.bytes in let b = h.small in omega arith

    stored-name : length (stored (codes false name)) ≡ length (stored (name_in s v.name))
    unfolding name_in
    stored-name = ap (λ (x : List ℕ). length (stored (codes false x))) e

    pub value_room : (narrow : Bool) → narrow ≡ is_narrow (name_in s v.name)
        → (IsName name narrow × (length name < 65536)) × (((length body ≤ 1048576) × (offset < 2147483648))
        × (4096 + offset + cell_size (20 + length (stored (codes false name))) ≤ n))
    unfolding name_in
    value_room narrow t =
        let a = ap length e ∙ text-length s v.name h.lies.name.inside in
        let b = h.short in
        let p = size-parts in
        let q = ap (λ (k : ℕ). cell_size (20 + k)) stored-name in
        let i = room.inside in
        let j = room.low in (
          (record { whole = ap (λ (k : ℕ). k % 2) a ∙ h.lies.name.even; told = t ∙ ap (λ (x : List ℕ). is_narrow (codes false x)) (sym e) }, omega arith),
          ((body-few, omega arith), omega arith),
        )

    module _ (next stop : ℕ) (g : next ≡ offset + cell_size (20 + stop)) (w : StoredAs s v.name stop) where
      pub next-is : next ≡ offset + cell_size (20 + length (stored (name_in s v.name)))
      next-is = g ∙ ap (λ (k : ℕ). offset + cell_size (20 + k)) w.is

      pub next_low : next < 2147483648
      next_low = let p = size-parts in let q = next-is in let j = room.low in omega arith

      pub data-room : ((length body ≤ 1048576) × (next < 2147483648)) × (4096 + next + data_size (length body) ≤ n)
      data-room =
          let p = size-parts in
          let q = next-is in
          let d = ap (λ (x : List ℕ). data_size (length x)) f in
          let i = room.inside in
          let j = room.low in
          ((body-few, omega arith), omega arith)

      pub held-end : (size : ℕ) → size ≡ data_size (length body) → next + size ≡ offset + value_size (item_in s v)
      held-end size x = let p = size-parts in let q = next-is in let d = ap (λ (x : List ℕ). data_size (length x)) f in omega arith

      pub held-put : (l : List ℕ)
          → sets (sets l (4096 + offset) (cell_bytes (value_record (item_of v.kind name body) offset))) (4096 + next) (row_bytes (data_cells body next))
          ≡ sets l (4096 + offset) (row_bytes (value_cells (item_in s v) offset))
      unfolding name_in value_cells row_bytes
      held-put l =
          let u = item_in s v in
          let z = cell-length (value_record u offset) ∙ ap cell_size (record-length u offset) in
          let q = next-is in
          ap₂ (λ (x y : List ℕ). sets (sets l (4096 + offset) (cell_bytes (value_record (item_of v.kind x y) offset))) (4096 + next) (row_bytes (data_cells y next))) e f
          ∙ join2 (cell_bytes (value_record u offset)) (row_bytes (data_cells (text_in s v.«data») next)) l (4096 + offset) (4096 + next) (omega arith)
          ∙ ap (λ (k : ℕ). sets l (4096 + offset) (cell_bytes (value_record u offset) ++ row_bytes (data_cells (text_in s v.«data») k))) q

pub room_in : {offset size m n : ℕ} → m ≡ n → Room offset size n → Room offset size m
room_in {offset} {size} e r = subst (λ (k : ℕ). Room offset size k) (sym e) r

-- the value of a frame that is allowed, within its bounds
pub held_fits : (s : List ℕ) (at : ℕ) (v : Item) (u : Held) → shape_of (drop at s) ≡ holds v → ItemAllowed v → Holding s at u → HeldFits s u
held_fits s at v u f x h =
    let e = same_item (sym f ∙ h.is) in
    let a = ap (λ (i : Item). length i.name) e in
    let b = ap (λ (i : Item). length i.bytes) e ∙ text-length s u.«data» h.lies.bytes in
    let c = name-bytes s u.name h.lies.name in
    let p = x.name-fits in
    let q = x.data-fits in
    record { lies = h.lies; short = omega arith; small = omega arith }

pub next-held : (s : List ℕ) (w : Written) (v : Item) (n : ℕ) (u : Held) → NextFits s w v n → Holding s w.at u
    → HeldFits s u × Room w.offset (value_size (item_in s u)) n
next-held s w v n u x h =
    let e = same_item (sym x.is ∙ h.is) in
    (held_fits s w.at v u x.is x.allowed h, subst (λ (i : Item). Room w.offset (value_size i) n) e x.room)

pub one_more : (s : List ℕ) (w : Written) (before after : List ℕ) (u : Held) (r : Written) → Holding s w.at u
    → after ≡ sets before (4096 + w.offset) (row_bytes (value_cells (item_in s u) w.offset))
    → r.offset ≡ w.offset + value_size (item_in s u)
    → Ends s w.at r.at → r.count ≡ w.count + 1
    → r.longest_name ≡ larger w.longest_name u.name.len → r.longest_data ≡ larger w.longest_data u.«data».len
    → (v : Item) → shape_of (drop w.at s) ≡ holds v → OneMore s w before after v r
one_more s w before after u r h b o x k p q v e =
    let f = same_item (sym h.is ∙ e) in
    let y = x.further in
    subst
    (λ (i : Item). OneMore s w before after i r)
    f
    record {
      bytes = b;
      ends = x.is;
      inside = x.inside;
      further = omega arith;
      counted = k;
      behind = o;
      name = p ∙ ap (larger w.longest_name) (sym (name-bytes s u.name h.lies.name));
      «data» = q ∙ ap (larger w.longest_data) (sym (text-length s u.«data» h.lies.bytes));
    }

-- ---- the values of a key: what is left to write makes the whole

pub record Kept (at offset : ℕ) (first now : List ℕ) (vs rest : List Item) (w : Written) : Type 0 where
  pub bytes : sets now (4096 + w.offset) (row_bytes (values_cells rest w.offset)) ≡ sets first (4096 + offset) (row_bytes (values_cells vs offset))
  pub ends : w.at + length (item_frames rest) ≡ at + length (item_frames vs)
  pub counted : w.count + length rest ≡ length vs
  pub behind : w.offset + values_size rest ≡ offset + values_size vs
  pub name : larger w.longest_name (longest_name rest) ≡ longest_name vs
  pub «data» : larger w.longest_data (longest_data rest) ≡ longest_data vs

abbrev pub Going : List ℕ → ℕ → List ℕ → ℕ → List ℕ → Written → Type 0
Going s at first offset now w =
    (vs : List Item) (t : List ℕ) → ValuesHere s at vs t → (rest : List Item) × ValuesHere s w.at rest t × Kept at offset first now vs rest w

pub starts-going : (s : List ℕ) (at : ℕ) (out : List ℕ) (offset : ℕ) (w : Written) → w.at ≡ at → w.count ≡ 0 → w.offset ≡ offset
    → w.longest_name ≡ 0 → w.longest_data ≡ 0 → Going s at out offset out w
starts-going s at out offset w a b c d e vs t h = (
  vs,
  subst (λ (k : ℕ). ValuesHere s k vs t) (sym a) h,
  record {
    bytes = ap (λ (k : ℕ). sets out (4096 + k) (row_bytes (values_cells vs k))) c;
    ends = ap (λ (k : ℕ). k + length (item_frames vs)) a;
    counted = omega (arith, b);
    behind = ap (λ (k : ℕ). k + values_size vs) c;
    name = ap (λ (k : ℕ). larger k (longest_name vs)) d ∙ larger-right 0 (longest_name vs) (omega arith);
    «data» = ap (λ (k : ℕ). larger k (longest_data vs)) e ∙ larger-right 0 (longest_data vs) (omega arith);
  },
)

-- the first of some values: what its frame says, and what is behind it
module _ (s : List ℕ) (at : ℕ) (v : Item) (vs : List Item) (t : List ℕ) (h : ValuesHere s at (v ∷ vs) t) where
  pub first-allowed : ItemAllowed v
  first-allowed = h.each v (Memᴰ.head refl)

  row : drop at s ≡ item_frame v ++ (item_frames vs ++ t)
  unfolding item_frames
  row = h.frames ∙ append_assoc (item_frame v) (item_frames vs) t

  pub first-shape : shape_of (drop at s) ≡ holds v
  first-shape = ap shape_of row ∙ item-shape v (item-fits first-allowed) (item_frames vs ++ t)

  first-len : frame_len (drop at s) ≡ length (item_frame v)
  first-len = ap frame_len row ∙ item-len v (item-fits first-allowed) (item_frames vs ++ t)

  pub rest-here : (stop : ℕ) → stop ≡ at + frame_len (drop at s) → stop ≤ length s → ValuesHere s stop vs t
  rest-here stop e p = record {
    starts = p;
    frames =
        ap (λ (k : ℕ). drop k s) e ∙ sym (drop-drop (frame_len (drop at s)) at s)
        ∙ ap (λ (r : List ℕ). drop (frame_len r) r) row ∙ item-left v (item-fits first-allowed) (item_frames vs ++ t);
    each = λ u m. h.each u (Memᴰ.tail m);
    laid = h.laid;
    ends = h.ends;
  }

-- a frame stands there, a value or not
pub here-laid : (s : List ℕ) (at : ℕ) (vs : List Item) (t : List ℕ) → ValuesHere s at vs t → is_laid (shape_of (drop at s)) ≡ true
unfolding is_laid item_frames
here-laid s at [] t h = ap (λ (r : List ℕ). is_laid (shape_of r)) h.frames ∙ h.laid
here-laid s at (v ∷ vs) t h = ap is_laid (first-shape s at v vs t h)

pub no_more : (s : List ℕ) (at : ℕ) (t : List ℕ) → ValuesHere s at [] t → is_value (shape_of (drop at s)) ≡ false
unfolding item_frames
no_more s at t h = ap (λ (r : List ℕ). is_value (shape_of r)) h.frames ∙ h.ends

-- how many bytes the cells of a value take
value-length : (v : Item) (offset : ℕ) → length (row_bytes (value_cells v offset)) ≡ value_size v
value-length v offset = row-length (value_cells v offset) ∙ value-size v offset

value-first : (v : Item) (vs : List Item) (offset : ℕ) → row_bytes (values_cells (v ∷ vs) offset) ≡ row_bytes (value_cells v offset) ++ row_bytes (values_cells vs (offset + value_size v))
unfolding values_cells
value-first v vs offset = bytes-append (value_cells v offset) (values_cells vs (offset + value_size v))

pub values-first : (v : Item) (vs : List Item) → values_size (v ∷ vs) ≡ value_size v + values_size vs
unfolding values_size
values-first v vs = refl

frames-first : (v : Item) (vs : List Item) → length (item_frames (v ∷ vs)) ≡ length (item_frame v) + length (item_frames vs)
unfolding item_frames
frames-first v vs = length-append (item_frame v) (item_frames vs)

kept_on : (s : List ℕ) (at : ℕ) (first : List ℕ) (offset : ℕ) (now : List ℕ) (w : Written) (later : List ℕ) (r : Written) (vs : List Item) (v : Item)
    (rest : List Item) (t : List ℕ) → ValuesHere s w.at (v ∷ rest) t → Kept at offset first now vs (v ∷ rest) w → OneMore s w now later v r
    → Kept at offset first later vs rest r
unfolding longest_name longest_data
kept_on s at first offset now w later r vs v rest t x k m =
    let a = value-length v w.offset in
    let b = m.behind in
    let c = k.ends in
    let d = frames-first v rest in
    let e = first-len s w.at v rest t x in
    let f = m.ends in
    let i = k.counted in
    let j = m.counted in
    let o = k.behind in
    let p = values-first v rest in
    let y : 4096 + r.offset ≡ 4096 + w.offset + length (row_bytes (value_cells v w.offset)) = omega arith in
    record {
      bytes =
          ap (λ (l : List ℕ). sets l (4096 + r.offset) (row_bytes (values_cells rest r.offset))) m.bytes
          ∙ join2 (row_bytes (value_cells v w.offset)) (row_bytes (values_cells rest r.offset)) now (4096 + w.offset) (4096 + r.offset) y
          ∙ ap (λ (n : ℕ). sets now (4096 + w.offset) (row_bytes (value_cells v w.offset) ++ row_bytes (values_cells rest n))) b
          ∙ ap (sets now (4096 + w.offset)) (sym (value-first v rest w.offset))
          ∙ k.bytes;
      ends = omega arith;
      counted = omega arith;
      behind = omega arith;
      name =
          ap (λ (n : ℕ). larger n (longest_name rest)) m.name
          ∙ larger-later w.longest_name (2 * length v.name) (longest_name rest) ∙ k.name;
      «data» =
          ap (λ (n : ℕ). larger n (longest_data rest)) m.«data»
          ∙ larger-later w.longest_data (length v.bytes) (longest_data rest) ∙ k.«data»;
    }

pub going-laid : (s : List ℕ) (at : ℕ) (first : List ℕ) (offset : ℕ) (now : List ℕ) (w : Written) → Going s at first offset now w
    → (vs : List Item) (t : List ℕ) → ValuesHere s at vs t → is_laid (shape_of (drop w.at s)) ≡ true
going-laid s at first offset now w g vs t h = here-laid s w.at (g vs t h).0 t (g vs t h).1

-- one value more
module _ (s : List ℕ) (at : ℕ) (first : List ℕ) (offset : ℕ) (now : List ℕ) (w : Written) (g : Going s at first offset now w)
    (one : is_value (shape_of (drop w.at s)) ≡ true) where
  pub next_fits : (n : ℕ) → w.count ≤ w.offset → (vs : List Item) (t : List ℕ) → ValuesHere s at vs t → Room offset (values_size vs) n
      → (v : Item) × NextFits s w v n
  next_fits n few vs t h room = by (g vs t h).0 (g vs t h).1 (g vs t h).2
    where
      by : (rest : List Item) → ValuesHere s w.at rest t → Kept at offset first now vs rest w → (v : Item) × NextFits s w v n
      by [] x k = absurd (never (is_value (shape_of (drop w.at s))) one (no_more s w.at t x))
      by (v ∷ rest) x k =
          let a = k.behind in
          let b = values-first v rest in
          let c = room.low in
          let d = room.inside in
          (v, record { starts = x.starts; is = first-shape s w.at v rest t x; allowed = first-allowed s w.at v rest t x; room = record { low = omega arith; inside = omega arith }; few = few })

  pub goes_on : (later : List ℕ) (r : Written) → ((v : Item) → shape_of (drop w.at s) ≡ holds v → OneMore s w now later v r) → Going s at first offset later r
  goes_on later r more vs t h = by (g vs t h).0 (g vs t h).1 (g vs t h).2
    where
      by : (rest : List Item) → ValuesHere s w.at rest t → Kept at offset first now vs rest w
          → (left : List Item) × ValuesHere s r.at left t × Kept at offset first later vs left r
      by [] x k = absurd (never (is_value (shape_of (drop w.at s))) one (no_more s w.at t x))
      by (v ∷ rest) x k =
          let m = more v (first-shape s w.at v rest t x) in
          (rest, rest-here s w.at v rest t x r.at m.ends m.inside, kept_on s at first offset now w later r vs v rest t x k m)

nothing_left : (at : ℕ) (first : List ℕ) (offset : ℕ) (now : List ℕ) (w : Written) (vs : List Item) → Kept at offset first now vs [] w
    → AllWritten at offset first now vs w
unfolding values_cells row_bytes item_frames values_size longest_name longest_data
nothing_left at first offset now w vs k =
    let c = k.ends in
    let i = k.counted in
    let o = k.behind in
    record {
      bytes = k.bytes;
      ends = omega arith;
      counted = omega arith;
      behind = omega arith;
      name = sym (larger-zero w.longest_name) ∙ k.name;
      «data» = sym (larger-zero w.longest_data) ∙ k.«data»;
    }

-- all are written
pub all-written : (s : List ℕ) (at : ℕ) (first : List ℕ) (offset : ℕ) (now : List ℕ) (w : Written) → Going s at first offset now w
    → is_value (shape_of (drop w.at s)) ≡ false → (vs : List Item) (t : List ℕ) → ValuesHere s at vs t → AllWritten at offset first now vs w
all-written s at first offset now w g none vs t h = by (g vs t h).0 (g vs t h).1 (g vs t h).2
  where
    by : (rest : List Item) → ValuesHere s w.at rest t → Kept at offset first now vs rest w → AllWritten at offset first now vs w
    by [] x k = nothing_left at first offset now w vs k
    by (v ∷ rest) x k = absurd (never (is_value (shape_of (drop w.at s))) (value-is-one _ v (first-shape s w.at v rest t x)) none)

-- for the tactics
pub ruleset held_ways = (value-is-one, held_fits, holding-laid, next-held, one_more, max-larger)
