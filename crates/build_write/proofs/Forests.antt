-- Keys side by side: what is left to write makes the whole.
use Prim.Native.Nat.{ℕ, suc, ◌+◌, ◌-◌, ◌*◌, ◌<◌, ◌≤◌}
use native.Mathlib.Omega.{arith}
use mathlib.Core.Path.{◌≡◌, refl, sym, ap, ap₂, subst, ◌∙◌}
use mathlib.Core.Bool.{true, false}
use mathlib.Core.List.{List, ◌++◌, append_assoc, append-nil}
use lib.ListN.{length, take, drop, length-append, length-drop}
use lib.Seq.{sets}
use Rattle.fields.proofs.Bools.{never}
use Rattle.stream.specs.Stream.{close_frame}
use Rattle.forest.specs.Forest.{Item, Forest, none, more, count_of, key_frame, item_frames, forest_frames}
use Rattle.forest.specs.Faults.{shape_of, is_laid}
use Rattle.forest.specs.Allowed.{Allowed, allowed-more}
use Rattle.forest.proofs.Shapes.{key-length, close-shape}
use Rattle.forest.proofs.Written.{in_a_row}
use Rattle.layout.specs.Layout.{cell_size, cell_bytes, row_bytes, stored, key_record, values_cells, list_cells, leaf_cells, size_of, values_at, below_at, leaf_at, beside_at, cells_of, larger, longest_key}
use Rattle.layout.proofs.Sizes.{cell_room, cell-length, row-length, row-append, bytes-append, values-size, list-size, cells-size, key-length as record-length}
use Rattle.build_cells.proofs.Laws.{join2, join3}
use Rattle.build_write.specs.declared.KeyProgress.{KeyProgress}
use Rattle.build_write.specs.declared.SubkeysProgress.{SubkeysProgress}
use Rattle.build_write.specs.Terms.{is_opening, Room, KeyHere, Started, Under, Finished, ForestHere, ForestWritten}
use Rattle.build_write.proofs.Values.{larger-right, larger-later, larger-zero}
use Rattle.build_write.proofs.Keys.{put-before, cells-first}
use Rattle.build_write.proofs.Stands.{part-put, first-size, first-sizes, own_key, own-rest}
use Rattle.build_write.proofs.Trees.{whole-size, key-opens, key-laid}

pub record Kept (offset parent item : ℕ) (first now : List ℕ) (f rest : Forest) (p : SubkeysProgress) : Type 0 where
  pub bytes : sets now (4096 + p.offset) (row_bytes (cells_of rest p.offset parent item)) ≡ sets first (4096 + offset) (row_bytes (cells_of f offset parent item))
  pub counted : p.count + count_of rest ≡ count_of f
  pub behind : p.offset + size_of rest ≡ offset + size_of f
  pub longest : larger p.longest (longest_key rest) ≡ longest_key f

abbrev pub Going : List ℕ → ℕ → List ℕ → ℕ → ℕ → ℕ → ℕ → List ℕ → SubkeysProgress → Type 0
Going s at first offset parent item levels now p =
    (f : Forest) (t : List ℕ) → ForestHere s at levels f t → Room offset (size_of f) (length first) → (rest : Forest) × ForestHere s p.at levels rest t × Kept offset parent item first now f rest p

pub starts-going : (s : List ℕ) (at : ℕ) (out : List ℕ) (offset parent item levels : ℕ)
    → Going s at out offset parent item levels out (record { at = at; offset = offset; count = 0; longest = 0 })
starts-going s at out offset parent item levels f t h room =
    (f, h, record { bytes = refl; counted = omega arith; behind = refl; longest = larger-right 0 (longest_key f) (omega arith) })

-- ---- the first of them

deeper : {n s : ℕ} {x : List ℕ} {vs : List Item} {b r : Forest} → Allowed n (more s x vs b r) → Allowed (n - 1) b
deeper (allowed-more {n = n} {b = b} _ a _) = let e : suc n - 1 ≡ n = omega arith in subst (λ (m : ℕ). Allowed m b) (sym e) a

level-left : {n s : ℕ} {x : List ℕ} {vs : List Item} {b r : Forest} → Allowed n (more s x vs b r) → 0 < n
level-left (allowed-more _ _ _) = omega arith

first-here : (s : List ℕ) (at levels sh : ℕ) (x : List ℕ) (vs : List Item) (b r : Forest) (t : List ℕ) → ForestHere s at levels (more sh x vs b r) t
    → KeyHere s at (levels - 1) sh x vs b (forest_frames r ++ t)
first-here s at levels sh x vs b r t h =
    record { starts = h.starts; frames = h.frames ∙ in_a_row sh x vs b r t; allowed = own_key h.allowed; deeper = deeper h.allowed }

none_here : (s : List ℕ) (at levels : ℕ) (t : List ℕ) → ForestHere s at levels none t → is_opening (shape_of (drop at s)) ≡ false
unfolding forest_frames
none_here s at levels t h = ap (λ (y : List ℕ). is_opening (shape_of y)) h.frames ∙ h.ends

-- a frame stands there, unless the stream ends
pub here-laid : (s : List ℕ) (at levels : ℕ) (f : Forest) (t : List ℕ) → ForestHere s at levels f t → at < length s → is_laid (shape_of (drop at s)) ≡ true
unfolding forest_frames
here-laid s at levels none t h p =
    let a = length-drop at s in
    let b = ap length h.frames in
    ap (λ (y : List ℕ). is_laid (shape_of y)) h.frames ∙ h.laid (omega arith)
here-laid s at levels (more sh x vs b r) t h p = key-laid s at (levels - 1) sh x vs b (forest_frames r ++ t) (first-here s at levels sh x vs b r t h)

pub going-laid : (s : List ℕ) (at : ℕ) (first : List ℕ) (offset parent item levels : ℕ) (now : List ℕ) (p : SubkeysProgress) → Going s at first offset parent item levels now p
    → (f : Forest) (t : List ℕ) → ForestHere s at levels f t → Room offset (size_of f) (length first) → p.at < length s → is_laid (shape_of (drop p.at s)) ≡ true
going-laid s at first offset parent item levels now p g f t h room = here-laid s p.at levels (g f t h room).0 t (g f t h room).1

pub record Step (s : List ℕ) (offset parent item levels : ℕ) (first now : List ℕ) (f : Forest) (t : List ℕ) (p : SubkeysProgress) : Type 0 where
  pub sh : ℕ
  pub x : List ℕ
  pub vs : List Item
  pub b : Forest
  pub r : Forest
  pub here : ForestHere s p.at levels (more sh x vs b r) t
  pub kept : Kept offset parent item first now f (more sh x vs b r) p

pub step_of : (s : List ℕ) (at : ℕ) (first : List ℕ) (offset parent item levels : ℕ) (now : List ℕ) (p : SubkeysProgress) → Going s at first offset parent item levels now p
    → is_opening (shape_of (drop p.at s)) ≡ true → (f : Forest) (t : List ℕ) → ForestHere s at levels f t → Room offset (size_of f) (length first) → Step s offset parent item levels first now f t p
step_of s at first offset parent item levels now p g one f t h room = by (g f t h room).0 (g f t h room).1 (g f t h room).2
  where
    by : (rest : Forest) → ForestHere s p.at levels rest t → Kept offset parent item first now f rest p → Step s offset parent item levels first now f t p
    by none y k = absurd (never (is_opening (shape_of (drop p.at s))) one (none_here s p.at levels t y))
    by (more sh x vs b r) y k = record { sh = sh; x = x; vs = vs; b = b; r = r; here = y; kept = k }

-- ---- its cells, in the order in which they are written

cell-some : (n : ℕ) → 1 ≤ cell_size n
cell-some n = let r = cell_room n in omega arith

first-bytes : (sh : ℕ) (x : List ℕ) (vs : List Item) (b : Forest) (at parent S : ℕ)
    → row_bytes (cells_of (more sh x vs b none) at parent S)
    ≡ cell_bytes (key_record sh x vs b at parent S) ++ (row_bytes (values_cells vs (values_at x at) ++ list_cells vs (values_at x at))
    ++ (row_bytes (cells_of b (below_at x vs at) at S) ++ row_bytes (leaf_cells b (below_at x vs at))))
unfolding cells_of row_bytes
first-bytes sh x vs b at parent S = simp (append-nil, bytes-append, append_assoc)

key-put : (sh : ℕ) (x : List ℕ) (vs : List Item) (b : Forest) (at parent S : ℕ) (l : List ℕ)
    → sets (sets (sets (sets l (4096 + values_at x at) (row_bytes (values_cells vs (values_at x at) ++ list_cells vs (values_at x at)))) (4096 + below_at x vs at)
    (row_bytes (cells_of b (below_at x vs at) at S))) (4096 + leaf_at x vs b at) (row_bytes (leaf_cells b (below_at x vs at)))) (4096 + at)
    (cell_bytes (key_record sh x vs b at parent S))
    ≡ sets l (4096 + at) (row_bytes (cells_of (more sh x vs b none) at parent S))
key-put sh x vs b at parent S l =
    let own = cell_bytes (key_record sh x vs b at parent S) in
    let first = row_bytes (values_cells vs (values_at x at) ++ list_cells vs (values_at x at)) in
    let below = row_bytes (cells_of b (below_at x vs at) at S) in
    let leaf = row_bytes (leaf_cells b (below_at x vs at)) in
    let p = cell-length (key_record sh x vs b at parent S) ∙ ap cell_size (record-length sh x vs b at parent S) in
    let q = row-length (values_cells vs (values_at x at) ++ list_cells vs (values_at x at)) ∙ row-append (values_cells vs (values_at x at)) (list_cells vs (values_at x at)) in
    let q₁ = values-size vs (values_at x at) in
    let q₂ = list-size vs (values_at x at) in
    let d = row-length (cells_of b (below_at x vs at) at S) ∙ cells-size b (below_at x vs at) at S in
    ap (λ (y : List ℕ). sets y (4096 + at) own)
    (join3 first below leaf l (4096 + values_at x at) (4096 + below_at x vs at) (4096 + leaf_at x vs b at) (omega arith) (omega arith))
    ∙ put-before own (first ++ (below ++ leaf)) l (4096 + at) (4096 + values_at x at) (omega arith)
    ∙ ap (sets l (4096 + at)) (sym (first-bytes sh x vs b at parent S))

close-none : (t : List ℕ) → is_opening (shape_of (close_frame ++ t)) ≡ false
unfolding is_opening
close-none t = ap is_opening (close-shape t)

close-frame : (t : List ℕ) → is_laid (shape_of (close_frame ++ t)) ≡ true
unfolding is_laid
close-frame t = ap is_laid (close-shape t)

-- ---- one key more

module _ (s : List ℕ) (offset parent item levels : ℕ) (first now : List ℕ) (f : Forest) (t : List ℕ) (p : SubkeysProgress)
    (n : Step s offset parent item levels first now f t p) where
  pub key_here : KeyHere s p.at (levels - 1) n.sh n.x n.vs n.b (forest_frames n.r ++ t)
  key_here = first-here s p.at levels n.sh n.x n.vs n.b n.r t n.here

  pub some_level : 0 < levels
  some_level = level-left n.here.allowed

  pub key-room : (m : ℕ) → Room offset (size_of f) m → Room p.offset (size_of (more n.sh n.x n.vs n.b none)) m
  key-room m room =
      let a = n.kept.behind in
      let e = first-sizes n.sh n.x n.vs n.b n.r in
      let l = room.low in
      let i = room.inside in
      record { low = omega arith; inside = omega arith }

  module _ (middle : List ℕ) (w : KeyProgress) (d : Started s p.offset now middle n.sh n.x n.vs n.b (forest_frames n.r ++ t) w) where
    pub below-here : ForestHere s w.at (levels - 1) n.b (close_frame ++ (forest_frames n.r ++ t))
    below-here = record { starts = d.inside; frames = d.frames; allowed = key_here.deeper; laid = λ _. close-frame _; ends = close-none _ }

    pub below-room : (m : ℕ) → Room offset (size_of f) m → Room w.offset (size_of n.b) m
    below-room m room =
        let q = key-room m room in
        let l = q.low in
        let i = q.inside in
        let e = whole-size n.sh n.x n.vs n.b p.offset in
        let a = d.behind in
        record { low = omega arith; inside = omega arith }

    module _ (lower : List ℕ) (c : SubkeysProgress)
        (u : ForestWritten s w.offset p.offset item middle lower n.b (close_frame ++ (forest_frames n.r ++ t)) c) where
      pub under : (m : ℕ) → Room offset (size_of f) m → length middle ≡ m → length lower ≡ m → p.count ≤ p.offset
          → Under s lower p w c (levels - 1) n.sh n.x n.vs n.b (forest_frames n.r ++ t)
      under m room e₁ e₂ few =
          let q = below-room m room in
          let l = q.low in
          let i = q.inside in
          let o = key-room m room in
          let ol = o.low in
          let z = row-length (cells_of n.b w.offset p.offset item) ∙ cells-size n.b w.offset p.offset item in
          let a = d.behind in
          let a₂ = u.behind in
          record {
            here = key_here;
            stand = record {
              levels = levels - 1;
              parent = p.offset;
              item = item;
              stands =
                  ap (λ (y : List ℕ). take (size_of n.b) (drop (4096 + w.offset) y)) u.bytes
                  ∙ part-put (row_bytes (cells_of n.b w.offset p.offset item)) middle (size_of n.b) (4096 + w.offset) z (omega arith);
              inside = omega arith;
              allowed = key_here.deeper;
              parent-fits = omega arith;
              low = l;
            };
            lies = d.lies;
            stamped = d.stamped;
            named = d.named;
            narrow = d.narrow;
            values = d.counted;
            below = a;
            name = d.name;
            «data» = d.«data»;
            subkeys = u.counted;
            leaf = omega arith;
            keys = u.longest;
            inside = u.inside;
            frames = u.frames;
            room = subst (λ (k : ℕ). Room p.offset (size_of (more n.sh n.x n.vs n.b none)) k) (sym e₂) o;
            few = few;
          }

      module _ (after : List ℕ) (q : SubkeysProgress) (e : Finished s p parent item lower after n.sh n.x n.vs n.b (forest_frames n.r ++ t) q) where
        pub further : p.at < q.at
        further =
            let a = ap length key_here.frames in
            let b = ap length e.frames in
            let a₁ = length-drop p.at s in
            let b₁ = length-drop q.at s in
            let rest₁ = forest_frames n.r ++ t in
            let rest₂ = close_frame ++ rest₁ in
            let rest₃ = forest_frames n.b ++ rest₂ in
            let rest₄ = item_frames n.vs ++ rest₃ in
            let c₁ = length-append (key_frame n.sh n.x) rest₄ in
            let c₂ = length-append (item_frames n.vs) rest₃ in
            let c₃ = length-append (forest_frames n.b) rest₂ in
            let c₄ = length-append close_frame rest₁ in
            let k = key-length n.sh n.x in
            let i = e.inside in
            let j = key_here.starts in
            omega arith

        pub more-few : p.count ≤ p.offset → q.count ≤ q.offset
        more-few few =
            let a = e.counted in
            let b = e.behind in
            let r = cell-some (76 + length (stored n.x)) in
            omega arith

        pub kept_on : Kept offset parent item first after f n.r q
        unfolding count_of longest_key
        kept_on =
            let k = n.kept in
            let a = e.behind in
            let g = first-size n.sh n.x n.vs n.b n.r p.offset in
            let h = k.behind in
            let i = k.counted in
            let j = e.counted in
            let own = cells_of (more n.sh n.x n.vs n.b none) p.offset parent item in
            let z = row-length own ∙ cells-size (more n.sh n.x n.vs n.b none) p.offset parent item in
            let y = whole-size n.sh n.x n.vs n.b p.offset in
            let at : 4096 + q.offset ≡ 4096 + p.offset + length (row_bytes own) = omega arith in
            record {
              bytes =
                  ap (λ (l : List ℕ). sets l (4096 + q.offset) (row_bytes (cells_of n.r q.offset parent item))) written
                  ∙ join2 (row_bytes own) (row_bytes (cells_of n.r q.offset parent item)) now (4096 + p.offset) (4096 + q.offset) at
                  ∙ ap (λ (m : ℕ). sets now (4096 + p.offset) (row_bytes own ++ row_bytes (cells_of n.r m parent item))) a
                  ∙ ap (sets now (4096 + p.offset))
                  (sym (ap row_bytes (cells-first n.sh n.x n.vs n.b n.r p.offset parent item)
                  ∙ bytes-append own (cells_of n.r (beside_at n.x n.vs n.b p.offset) parent item)))
                  ∙ k.bytes;
              counted = omega arith;
              behind = omega arith;
              longest =
                  ap (λ (m : ℕ). larger m (longest_key n.r)) e.longest
                  ∙ larger-later p.longest (2 * length n.x) (longest_key n.r) ∙ k.longest;
            }
          where
            written : after ≡ sets now (4096 + p.offset) (row_bytes (cells_of (more n.sh n.x n.vs n.b none) p.offset parent item))
            written =
                e.bytes
                ∙ ap (λ (l : List ℕ). sets (sets l (4096 + leaf_at n.x n.vs n.b p.offset) (row_bytes (leaf_cells n.b (below_at n.x n.vs p.offset))))
                (4096 + p.offset) (cell_bytes (key_record n.sh n.x n.vs n.b p.offset parent item)))
                (u.bytes ∙ ap₂ (λ (l : List ℕ) (m : ℕ). sets l (4096 + m) (row_bytes (cells_of n.b m p.offset item))) d.bytes d.behind)
                ∙ key-put n.sh n.x n.vs n.b p.offset parent item now

        pub rest-here : ForestHere s q.at levels n.r t
        rest-here = record { starts = e.inside; frames = e.frames; allowed = own-rest n.here.allowed; laid = n.here.laid; ends = n.here.ends }

pub all-written : (s : List ℕ) (at : ℕ) (first : List ℕ) (offset parent item levels : ℕ) (now : List ℕ) (p : SubkeysProgress)
    → Going s at first offset parent item levels now p → is_opening (shape_of (drop p.at s)) ≡ false
    → (f : Forest) (t : List ℕ) → ForestHere s at levels f t → Room offset (size_of f) (length first) → ForestWritten s offset parent item first now f t p
unfolding cells_of row_bytes size_of count_of longest_key forest_frames
all-written s at first offset parent item levels now p g end f t h room = by (g f t h room).0 (g f t h room).1 (g f t h room).2
  where
    by : (rest : Forest) → ForestHere s p.at levels rest t → Kept offset parent item first now f rest p → ForestWritten s offset parent item first now f t p
    by none y k =
        let a = k.behind in
        let b = k.counted in
        record {
          bytes = k.bytes;
          inside = y.starts;
          frames = y.frames;
          behind = omega arith;
          counted = omega arith;
          longest = sym (larger-zero p.longest) ∙ k.longest;
        }
    by (more sh x vs b r) y k = absurd (never (is_opening (shape_of (drop p.at s))) (key-opens s p.at (levels - 1) sh x vs b (forest_frames r ++ t) (first-here s p.at levels sh x vs b r t y)) end)
