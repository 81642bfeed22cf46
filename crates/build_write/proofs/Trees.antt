-- A key with all that is its own: what its frame tells, and its cells in the order in which they are written.
use Prim.Native.Nat.{ℕ, ◌+◌, ◌-◌, ◌*◌, ◌%◌, ◌<◌, ◌≤◌}
use native.Mathlib.Omega.{arith}
use mathlib.Core.Path.{◌≡◌, refl, sym, ap, ap₂, ◌∙◌}
use mathlib.Core.Bool.{Bool, true, false}
use mathlib.Core.List.{List, [], ◌∷◌, ◌++◌, Memᴰ}
use lib.Dec.{eqb}
use lib.ListN.{length, drop, length-append, length-drop}
use lib.Seq.{sets, drop-drop, drop_at}
use Rattle.names.specs.Codes.{codes}
use Rattle.stream.specs.Stream.{close_frame}
use Rattle.forest.specs.Forest.{Item, Forest, none, more, count_of, item_frames, forest_frames}
use Rattle.forest.specs.Faults.{Shape as Said, unlaid, opens, holds, closes, shape_of, frame_len, is_laid}
use Rattle.forest.specs.Allowed.{ItemAllowed, Allowed, allowed-none, allowed-more}
use Rattle.forest.proofs.Shapes.{key_fits, key-shape, close-shape, close-left}
use Rattle.layout.specs.Layout.{cell_size, cell_bytes, row_bytes, stored, is_narrow, flag_of, nothing, if_any, key_fixed, key_record, values_cells, values_size, list_cells, list_size, leaf_cells, leaf_size, size_of, values_at, list_at, beside_at, larger, longest_name, longest_data, longest_key}
use Rattle.layout.proofs.Sizes.{row-length, bytes-append, values-size}
use Rattle.layout.proofs.Bounds.{list-holds, leaf-holds, larger-most}
use Rattle.build_frames.specs.declared.Opening.{Opening}
use Rattle.build_frames.specs.Terms.{text_in, name_in, NameLies, StoredBy, Ends}
use Rattle.build_frames.proofs.Names.{text-length, name-bytes}
use Rattle.build_cells.specs.Terms.{IsName}
use Rattle.build_cells.proofs.Laws.{join2}
use Rattle.build_cells.proofs.Frame.{flags-are}
use Rattle.build_write.specs.declared.Written.{Written}
use Rattle.build_write.specs.declared.SubkeysProgress.{SubkeysProgress}
use Rattle.build_write.specs.declared.KeyProgress.{KeyProgress}
use Rattle.build_write.specs.Terms.{is_opening, Opened, Room, ValuesHere, AllWritten, KeysStand, KeyHere, Started, Known, Under, Finished}
use Rattle.build_write.proofs.Keys.{key-values}

-- ---- sizes

pub whole-size : (sh : ℕ) (x : List ℕ) (vs : List Item) (b : Forest) (at : ℕ) → at + size_of (more sh x vs b none) ≡ beside_at x vs b at
unfolding size_of
whole-size sh x vs b at = omega arith

-- ---- bounds

names-few : (vs : List Item) → ((v : Item) → Memᴰ v vs → ItemAllowed v) → longest_name vs ≤ 32766
unfolding longest_name
names-few [] f = omega arith
names-few (v ∷ vs) f =
    larger-most (2 * length v.name) (longest_name vs) 32766 (omega (arith, (f v (Memᴰ.head refl)).name-fits)) (names-few vs (λ u m. f u (Memᴰ.tail m)))

data-few : (vs : List Item) → ((v : Item) → Memᴰ v vs → ItemAllowed v) → longest_data vs ≤ 1048576
unfolding longest_data
data-few [] f = omega arith
data-few (v ∷ vs) f =
    larger-most (length v.bytes) (longest_data vs) 1048576 (f v (Memᴰ.head refl)).data-fits (data-few vs (λ u m. f u (Memᴰ.tail m)))

keys-few : {n : ℕ} {b : Forest} → Allowed n b → longest_key b ≤ 510
unfolding longest_key
keys-few allowed-none = omega arith
keys-few (allowed-more {x = x} {r = r} k _ a) = larger-most (2 * length x) (longest_key r) 510 (omega (arith, k.name.few)) (keys-few a)

-- ---- positions in a stream

pub values-drop : (s : List ℕ) (at stop : ℕ) (u t : List ℕ) → drop at s ≡ u ++ t → stop ≡ at + length u → drop stop s ≡ t
values-drop s at stop u t e f =
    ap (λ (k : ℕ). drop k s) f ∙ sym (drop-drop (length u) at s) ∙ ap (drop (length u)) e ∙ drop_at u t (length u) refl

pub values-end : (s : List ℕ) (at stop : ℕ) (u t : List ℕ) → at ≤ length s → drop at s ≡ u ++ t → stop ≡ at + length u → stop ≤ length s
values-end s at stop u t p e f =
    let a = length-drop at s in
    let b = ap length e in
    let c = length-append u t in
    omega arith

-- ---- the frame of a key

stamp-of : Said → ℕ → ℕ
stamp-of unlaid d = d
stamp-of (opens s x) d = s
stamp-of (holds v) d = d
stamp-of closes d = d

name_of : Said → List ℕ → List ℕ
name_of unlaid d = d
name_of (opens s x) d = x
name_of (holds v) d = d
name_of closes d = d

pub same-stamp : {s r : ℕ} {x y : List ℕ} → opens s x ≡ opens r y → s ≡ r
unfolding stamp-of
same-stamp e = ap (λ (f : Said). stamp-of f 0) e

same-name : {s r : ℕ} {x y : List ℕ} → opens s x ≡ opens r y → x ≡ y
unfolding name_of
same-name e = ap (λ (f : Said). name_of f []) e

module _ (s : List ℕ) (at n sh : ℕ) (x : List ℕ) (vs : List Item) (b : Forest) (t : List ℕ) (k : KeyHere s at n sh x vs b t) where
  key-says : shape_of (drop at s) ≡ opens sh x
  key-says = ap shape_of k.frames ∙ key-shape sh x (key_fits k.allowed.stamp-fits k.allowed.name) _

  pub key-opens : is_opening (shape_of (drop at s)) ≡ true
  unfolding is_opening
  key-opens = ap is_opening key-says

  pub key-laid : is_laid (shape_of (drop at s)) ≡ true
  unfolding is_laid
  key-laid = ap is_laid key-says

  pub values-here : (stop : ℕ) → Ends s at stop → ValuesHere s stop vs (forest_frames b ++ (close_frame ++ t))
  values-here stop e = key-values s at sh n x vs b t k.frames k.allowed k.deeper stop e.is e.inside

  module _ (o : Opening) (h : Opened s at o) where
    pub opened-stamp : o.stamp ≡ sh
    opened-stamp = same-stamp (sym h.is ∙ key-says)

    pub opened-name : name_in s o.name ≡ x
    opened-name = same-name (sym h.is ∙ key-says)

    pub opened-len : 2 * length x ≡ o.name.len
    opened-len = ap (λ (y : List ℕ). 2 * length y) (sym opened-name) ∙ name-bytes s o.name h.lies

    pub opened-few : NameLies s o.name × (o.name.len ≤ 510)
    opened-few = let e = opened-len in let f = k.allowed.name.few in (h.lies, omega arith)

    -- its values and its value list
    module _ (offset size many : ℕ) (e : size ≡ cell_size (76 + many)) (narrow : Bool) (told : narrow ≡ is_narrow (name_in s o.name)) (by : StoredBy o.name narrow many) where
      first-is : offset + size ≡ values_at x offset
      first-is =
          ap (λ (i : ℕ). offset + i)
          (e ∙ ap (λ (i : ℕ). cell_size (76 + i)) (by s h.lies told).is ∙ ap (λ (y : List ℕ). cell_size (76 + length (stored y))) opened-name)

      pub first-low : (m : ℕ) → Room offset (size_of (more sh x vs b none)) m → offset + size < 2147483648
      first-low m room = let f = first-is in let w = whole-size sh x vs b offset in let r = room.low in omega arith

      module _ (from : ℕ) (g : Ends s at from) where
        pub values-room : (m : ℕ) → Room offset (size_of (more sh x vs b none)) m → (us : List Item) × (y : List ℕ) × ValuesHere s from us y × Room (offset + size) (values_size us) m
        values-room m room =
            let f = first-is in
            let w = whole-size sh x vs b offset in
            let r = room.low in
            let i = room.inside in
            (vs, forest_frames b ++ (close_frame ++ t), values-here from g, record { low = omega arith; inside = omega arith })

        module _ (before middle : List ℕ) (w : Written)
            (a : (us : List Item) (y : List ℕ) → ValuesHere s from us y → AllWritten from (offset + size) before middle us w) where
          all : AllWritten from (offset + size) before middle vs w
          all = a vs (forest_frames b ++ (close_frame ++ t)) (values-here from g)

          pub list-here : (m : ℕ) → Room offset (size_of (more sh x vs b none)) m → (us : List Item) × (y : List ℕ) × ValuesHere s from us y × (w.count ≡ length us) × (offset + size + values_size us < 2147483648)
              × Room w.offset (list_size w.count) m
          list-here m room =
              let f = first-is in
              let z = whole-size sh x vs b offset in
              let r = room.low in
              let i = room.inside in
              let c = ap list_size all.counted in
              let d = all.behind in
              (vs, forest_frames b ++ (close_frame ++ t), values-here from g, all.counted, omega arith, record { low = omega arith; inside = omega arith })

          pub list-fits : (m : ℕ) → Room offset (size_of (more sh x vs b none)) m → (4 * w.count ≤ 2147483648) × (w.offset + list_size w.count < 2147483648)
          list-fits m room =
              let f = first-is in
              let z = whole-size sh x vs b offset in
              let r = room.low in
              let c = ap list_size all.counted in
              let d = all.behind in
              let q = list-holds w.count in
              (omega arith, omega arith)

          pub started : (after : List ℕ) (list : ℕ) → list ≡ list_size w.count
              → ((us : List Item) (y : List ℕ) → ValuesHere s from us y → w.count ≡ length us
              → after ≡ sets middle (4096 + w.offset) (row_bytes (list_cells us (offset + size))))
              → Started s offset before after sh x vs b t
              (record { stamp = o.stamp; name = o.name; narrow = narrow; at = w.at; count = w.count; offset = w.offset + list; longest_name = w.longest_name; longest_data = w.longest_data })
          started after list q l =
              let f = first-is in
              let v = values-here from g in
              let c = ap list_size all.counted in
              let d = all.behind in
              let p = row-length (values_cells vs (offset + size)) ∙ values-size vs (offset + size) in
              let z : 4096 + w.offset ≡ 4096 + (offset + size) + length (row_bytes (values_cells vs (offset + size))) = omega arith in
              record {
                lies = h.lies;
                stamped = opened-stamp;
                named = opened-name;
                narrow = told ∙ ap is_narrow opened-name;
                bytes =
                    l vs _ v all.counted
                    ∙ ap (λ (y : List ℕ). sets y (4096 + w.offset) (row_bytes (list_cells vs (offset + size)))) all.bytes
                    ∙ join2 (row_bytes (values_cells vs (offset + size))) (row_bytes (list_cells vs (offset + size))) before (4096 + (offset + size)) (4096 + w.offset) z
                    ∙ ap (sets before (4096 + (offset + size))) (sym (bytes-append (values_cells vs (offset + size)) (list_cells vs (offset + size))))
                    ∙ ap (λ (i : ℕ). sets before (4096 + i) (row_bytes (values_cells vs i ++ list_cells vs i))) f;
                inside = values-end s from w.at (item_frames vs) _ v.starts v.frames all.ends;
                frames = values-drop s from w.at (item_frames vs) _ v.frames all.ends;
                counted = all.counted;
                behind = omega arith;
                name = all.name;
                «data» = all.«data»;
              }

-- ---- the own cell of a key

module _ (s : List ℕ) (offset : ℕ) (w : KeyProgress) (c : SubkeysProgress) (sh : ℕ) (x : List ℕ) (vs : List Item) (b : Forest)
    (k : Known s offset w c sh x vs b) where
  pub known-few : (4 * w.count < 2147483648) × (list_size w.count ≤ w.offset)
  known-few =
      let q = list-holds w.count in
      let e = ap list_size k.values in
      let f = k.below in
      let l = k.low in
      (omega arith, omega arith)

  pub known-bounds : (c.longest < 4294967296) × (w.longest_name < 4294967296) × (w.longest_data < 4294967296)
  known-bounds =
      let d = keys-few k.deeper in
      let n = names-few vs k.allowed.each in
      let a = data-few vs k.allowed.each in
      let e = k.keys in
      let f = k.name in
      let g = k.«data» in
      (omega arith, omega arith, omega arith)

  list-is : (size : ℕ) → size ≡ list_size w.count → w.offset - size ≡ list_at x vs offset
  list-is size e = let f = k.below in let g = e ∙ ap list_size k.values in omega arith

  module _ (part : List ℕ) (e : part ≡ text_in s w.name) where
    part-name : codes false part ≡ x
    unfolding name_in
    part-name = ap (codes false) e ∙ k.named

    pub own_room : (m : ℕ) → 4096 + offset + cell_size (76 + length (stored x)) ≤ m
        → (IsName part w.narrow × (length part < 65536)) × (4096 + offset + cell_size (76 + length (stored (codes false part))) ≤ m)
    own_room m room =
        let a = ap length e ∙ text-length s w.name k.lies.inside in
        let d = ap (λ (y : List ℕ). 2 * length y) k.named in
        let f = name-bytes s w.name k.lies in
        let g = k.allowed.name.few in
        let z = ap (λ (y : List ℕ). cell_size (76 + length (stored y))) part-name in
        ((record { whole = ap (λ (i : ℕ). i % 2) a ∙ k.lies.even; told = k.narrow ∙ ap is_narrow (sym part-name) }, omega arith), omega arith)

    pub own-record : (flags parent leaf list item size : ℕ) → flags ≡ flag_of w.narrow 32 + flag_of (eqb parent nothing) 12 → leaf ≡ if_any c.count c.offset
        → size ≡ list_size w.count → list ≡ if_any w.count (w.offset - size)
        → key_fixed flags w.stamp parent c.count leaf w.count list item c.longest w.longest_name w.longest_data
        (length (stored (codes false part))) ++ stored (codes false part)
        ≡ key_record sh x vs b offset parent item
    unfolding key_record
    own-record flags parent leaf list item size f g h i =
        let f₂ = f ∙ ap (λ (t : Bool). flag_of t 32 + flag_of (eqb parent nothing) 12) k.narrow ∙ flags-are x parent in
        let g₂ = g ∙ ap₂ if_any k.subkeys k.leaf in
        let i₂ = i ∙ ap₂ if_any k.values (list-is size h) in
        rw (part-name, f₂, g₂, i₂, k.stamped, k.subkeys, k.values, k.keys, k.name, k.«data»)

pub own_put : (l : List ℕ) (at : ℕ) {y z : List ℕ} → y ≡ z → sets l at (cell_bytes y) ≡ sets l at (cell_bytes z)
own_put l at e = ap (λ (y : List ℕ). sets l at (cell_bytes y)) e

-- ---- its leaf and its own cell

module _ (s out : List ℕ) (p : SubkeysProgress) (w : KeyProgress) (c : SubkeysProgress) (n sh : ℕ) (x : List ℕ) (vs : List Item) (b : Forest) (t : List ℕ)
    (u : Under s out p w c n sh x vs b t) where
  pub under-known : Known s p.offset w c sh x vs b
  under-known =
      let r = u.room.low in
      let z = whole-size sh x vs b p.offset in
      record {
        levels = n;
        lies = u.lies;
        stamped = u.stamped;
        named = u.named;
        narrow = u.narrow;
        allowed = u.here.allowed;
        deeper = u.here.deeper;
        values = u.values;
        below = u.below;
        name = u.name;
        «data» = u.«data»;
        subkeys = u.subkeys;
        leaf = u.leaf;
        keys = u.keys;
        low = omega arith;
      }

  pub own-inside : 4096 + p.offset + cell_size (76 + length (stored x)) ≤ length out
  own-inside = let r = u.room.inside in let z = whole-size sh x vs b p.offset in omega arith

  leaf-place : w.offset + size_of b ≡ c.offset
  leaf-place = let a = u.below in let d = u.leaf in omega arith

  pub leaf-ready : (f : Forest) × KeysStand out w.offset f × (c.count ≡ count_of f) × (c.count ≤ 65535) × (w.offset + size_of f ≤ c.offset)
      × Room c.offset (leaf_size c.count) (length out)
  leaf-ready =
      let e = u.subkeys in
      let f = u.here.allowed.few in
      let l = leaf-place in
      let g = ap leaf_size e in
      let h = u.leaf in
      let r = u.room.low in
      let i = u.room.inside in
      let z = whole-size sh x vs b p.offset in
      (b, u.stand, e, omega arith, omega arith, record { low = omega arith; inside = omega arith })

  pub close-laid : is_laid (shape_of (drop c.at s)) ≡ true
  unfolding is_laid
  close-laid = ap (λ (y : List ℕ). is_laid (shape_of y)) u.frames ∙ ap is_laid (close-shape t)

  pub end_fits : (8 * c.count ≤ 2147483648) × (c.offset + leaf_size c.count < 2147483648) × (p.count < 2147483648)
  end_fits =
      let e = u.subkeys in
      let g = ap leaf_size e in
      let h = u.leaf in
      let r = u.room.low in
      let z = whole-size sh x vs b p.offset in
      let q = leaf-holds c.count in
      let y = u.few in
      (omega arith, omega arith, omega arith)

  module _ (parent item : ℕ) (middle after : List ℕ) where
    pub finished : (stop size long : ℕ)
        → ((f : Forest) → KeysStand out w.offset f → c.count ≡ count_of f → w.offset + size_of f ≤ c.offset
        → middle ≡ sets out (4096 + c.offset) (row_bytes (leaf_cells f w.offset)))
        → ((sh : ℕ) (x : List ℕ) (vs : List Item) (b : Forest) → Known s p.offset w c sh x vs b
        → after ≡ sets middle (4096 + p.offset) (cell_bytes (key_record sh x vs b p.offset parent item)))
        → Ends s c.at stop → size ≡ leaf_size c.count → long ≡ larger p.longest w.name.len
        → Finished s p parent item out after sh x vs b t (record { at = stop; offset = c.offset + size; count = p.count + 1; longest = long })
    finished stop size long leaf own e f g =
        let l = leaf-place in
        record {
          bytes =
              own sh x vs b under-known
              ∙ ap (λ (y : List ℕ). sets y (4096 + p.offset) (cell_bytes (key_record sh x vs b p.offset parent item)))
              (leaf b u.stand u.subkeys (omega arith) ∙ ap₂ (λ (i j : ℕ). sets out (4096 + i) (row_bytes (leaf_cells b j))) u.leaf u.below);
          inside = e.inside;
          frames =
              ap (λ (i : ℕ). drop i s) e.is ∙ sym (drop-drop (frame_len (drop c.at s)) c.at s)
              ∙ ap (λ (y : List ℕ). drop (frame_len y) y) u.frames ∙ close-left t;
          behind = ap (λ (i : ℕ). c.offset + i) f ∙ ap₂ (λ (i j : ℕ). i + leaf_size j) u.leaf u.subkeys;
          counted = refl;
          longest = g ∙ ap (larger p.longest) (sym (ap (λ (y : List ℕ). 2 * length y) (sym u.named) ∙ name-bytes s w.name u.lies));
        }

-- for the tactics
pub ruleset start_ways = (key-opens, key-laid, opened-few, first-low, values-room, list-here, list-fits, started)

pub ruleset finish_ways = (leaf-ready, under-known, own-inside, close-laid, end_fits, finished)
