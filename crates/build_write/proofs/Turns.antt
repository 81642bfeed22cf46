-- One turn of the loop over keys side by side, whatever forest stands there: what its calls ask, and where it leads.
use Prim.Native.Nat.{ℕ, ◌+◌, ◌-◌, ◌≤◌, ◌<◌}
use native.Mathlib.Omega.{arith}
use mathlib.Core.Path.{◌≡◌, ap, ◌∙◌}
use mathlib.Core.Bool.{true, false}
use mathlib.Core.List.{List, ◌++◌}
use lib.ListN.{length, drop}
use lib.Seq.{sets, length-sets}
use Rattle.stream.specs.Stream.{close_frame}
use Rattle.forest.specs.Forest.{Item, Forest, forest_frames}
use Rattle.forest.specs.Faults.{shape_of, is_laid}
use Rattle.layout.specs.Layout.{cell_bytes, row_bytes, key_record, values_cells, list_cells, leaf_cells, values_at, below_at, leaf_at, cells_of, size_of}
use Rattle.build_write.specs.declared.KeyProgress.{KeyProgress}
use Rattle.build_write.specs.declared.SubkeysProgress.{SubkeysProgress}
use Rattle.build_write.specs.Terms.{is_opening, Room, KeyHere, SomeStart, Started, Under, SomeUnder, Finished, ForestHere, SomeForest, ForestWritten}
use Rattle.build_write.proofs.Values.{room_in}
use Rattle.build_write.proofs.Forests.{Kept, Going, Step, starts-going, here-laid, step_of, key_here, some_level, key-room, below-here, below-room, under, further, more-few, kept_on, rest-here, all-written}

-- what the calls of a turn have done, of any key and of any forest that may stand there
abbrev pub StartedAs : List ℕ → SubkeysProgress → List ℕ → List ℕ → KeyProgress → Type 0
StartedAs s p now middle w =
    (n sh : ℕ) (x : List ℕ) (vs : List Item) (b : Forest) (t : List ℕ) → KeyHere s p.at n sh x vs b t → Started s p.offset now middle sh x vs b t w

abbrev pub BelowAs : List ℕ → ℕ → ℕ → ℕ → ℕ → ℕ → List ℕ → List ℕ → SubkeysProgress → Type 0
BelowAs s at offset parent item levels middle lower c =
    (f : Forest) (t : List ℕ) → ForestHere s at levels f t → Room offset (size_of f) (length middle) → ForestWritten s offset parent item middle lower f t c

abbrev pub FinishedAs : List ℕ → SubkeysProgress → ℕ → ℕ → List ℕ → KeyProgress → SubkeysProgress → List ℕ → SubkeysProgress → Type 0
FinishedAs s p parent item lower w c after q =
    (n sh : ℕ) (x : List ℕ) (vs : List Item) (b : Forest) (t : List ℕ) → Under s lower p w c n sh x vs b t → Finished s p parent item lower after sh x vs b t q

-- no key stands below: nothing is to be written
pub none_below : (s : List ℕ) (at offset parent item levels : ℕ) (middle : List ℕ) → is_opening (shape_of (drop at s)) ≡ false
    → BelowAs s at offset parent item levels middle middle (record { at = at; offset = offset; count = 0; longest = 0 })
none_below s at offset parent item levels middle e =
    all-written s at middle offset parent item levels middle (record { at = at; offset = offset; count = 0; longest = 0 })
    (starts-going s at middle offset parent item levels) e

pub below-is : (s : List ℕ) (at offset parent item levels : ℕ) (middle : List ℕ) {lower lower' : List ℕ} {c c' : SubkeysProgress} → lower ≡ lower' → c ≡ c'
    → BelowAs s at offset parent item levels middle lower' c' → BelowAs s at offset parent item levels middle lower c
below-is s at offset parent item levels middle e₁ e₂ u = rw (e₁, e₂) u

-- the buffer keeps its length
started-long : (s : List ℕ) (offset : ℕ) (before after : List ℕ) (sh : ℕ) (x : List ℕ) (vs : List Item) (b : Forest) (t : List ℕ) (r : KeyProgress)
    → Started s offset before after sh x vs b t r → length after ≡ length before
started-long s offset before after sh x vs b t r d =
    ap length d.bytes ∙ length-sets before (4096 + values_at x offset) (row_bytes (values_cells vs (values_at x offset) ++ list_cells vs (values_at x offset)))

written-long : (s : List ℕ) (offset parent item : ℕ) (before after : List ℕ) (f : Forest) (t : List ℕ) (r : SubkeysProgress)
    → ForestWritten s offset parent item before after f t r → length after ≡ length before
written-long s offset parent item before after f t r u = ap length u.bytes ∙ length-sets before (4096 + offset) (row_bytes (cells_of f offset parent item))

finished-long : (s : List ℕ) (p : SubkeysProgress) (parent item : ℕ) (before after : List ℕ) (sh : ℕ) (x : List ℕ) (vs : List Item) (b : Forest) (t : List ℕ) (r : SubkeysProgress)
    → Finished s p parent item before after sh x vs b t r → length after ≡ length before
finished-long s p parent item before after sh x vs b t r e =
    let leaf = row_bytes (leaf_cells b (below_at x vs p.offset)) in
    let at = 4096 + leaf_at x vs b p.offset in
    ap length e.bytes ∙ length-sets (sets before at leaf) (4096 + p.offset) (cell_bytes (key_record sh x vs b p.offset parent item)) ∙ length-sets before at leaf

module _ (s : List ℕ) (at : ℕ) (first : List ℕ) (offset parent item levels : ℕ) (now : List ℕ) (p : SubkeysProgress) (g : Going s at first offset parent item levels now p)
    (one : is_opening (shape_of (drop p.at s)) ≡ true) (same : length now ≡ length first) where
  module _ (f : Forest) (t : List ℕ) (h : ForestHere s at levels f t) (room : Room offset (size_of f) (length first)) where
    abbrev step : Step s offset parent item levels first now f t p
    step = step_of s at first offset parent item levels now p g one f t h room

    -- what stands behind the key, and behind those below it
    abbrev beside : List ℕ
    beside = forest_frames step.r ++ t

    abbrev above : List ℕ
    above = close_frame ++ beside

    pub a-level : 0 < levels
    a-level = some_level _ _ _ _ _ _ _ _ _ _ step

    pub key-starts : SomeStart s p.at p.offset (length now)
    key-starts = (_, _, _, _, _, _, key_here _ _ _ _ _ _ _ _ _ _ step, room_in same (key-room _ _ _ _ _ _ _ _ _ _ step _ room))

    module _ (middle : List ℕ) (w : KeyProgress) (d : StartedAs s p now middle w) where
      abbrev begun : Started s p.offset now middle step.sh step.x step.vs step.b beside w
      begun = d _ _ _ _ _ _ (key_here _ _ _ _ _ _ _ _ _ _ step)

      as_long : length middle ≡ length first
      as_long = started-long _ _ _ _ _ _ _ _ _ _ begun ∙ same

      abbrev lower-here : ForestHere s w.at (levels - 1) step.b above
      lower-here = below-here _ _ _ _ _ _ _ _ _ _ step _ _ begun

      lower-room : Room w.offset (size_of step.b) (length middle)
      lower-room = room_in as_long (below-room _ _ _ _ _ _ _ _ _ _ step _ _ begun _ room)

      pub behind-values : (w.at ≤ length s) × (w.at < length s → is_laid (shape_of (drop w.at s)) ≡ true)
      behind-values = (lower-here.starts, here-laid s w.at (levels - 1) step.b above lower-here)

      pub keys_below : item < 4294967296 → SomeForest s w.at (levels - 1) w.offset p.offset item (length middle)
      keys_below i = let r = key-room _ _ _ _ _ _ _ _ _ _ step _ room in (_, _, lower-here, lower-room, omega (arith, r.low), i)

      module _ (lower : List ℕ) (c : SubkeysProgress) (u : BelowAs s w.at w.offset p.offset item (levels - 1) middle lower c) (few : p.count ≤ p.offset) where
        abbrev written : ForestWritten s w.offset p.offset item middle lower step.b above c
        written = u _ _ lower-here lower-room

        lower_long : length lower ≡ length first
        lower_long = written-long _ _ _ _ _ _ _ _ _ written ∙ as_long

        all_under : Under s lower p w c (levels - 1) step.sh step.x step.vs step.b beside
        all_under = under _ _ _ _ _ _ _ _ _ _ step _ _ begun _ _ written _ room as_long lower_long few

        pub key-finishes : SomeUnder s lower p w c
        key-finishes = (_, _, _, _, _, _, all_under)

        module _ (after : List ℕ) (q : SubkeysProgress) (e : FinishedAs s p parent item lower w c after q) where
          abbrev finished : Finished s p parent item lower after step.sh step.x step.vs step.b beside q
          finished = e _ _ _ _ _ _ all_under

          -- further on in the stream, inside of it, no more keys than bytes, and the buffer is as long
          pub onward : (p.at < q.at) × (q.at ≤ length s) × (q.count ≤ q.offset) × (length after ≡ length first)
          onward =
              let a = further _ _ _ _ _ _ _ _ _ _ step _ _ begun _ _ written _ _ finished in
              let b = more-few _ _ _ _ _ _ _ _ _ _ step _ _ begun _ _ written _ _ finished few in
              (a, finished.inside, b, finished-long _ _ _ _ _ _ _ _ _ _ _ _ finished ∙ lower_long)

          pub rest_goes : (rest : Forest) × ForestHere s q.at levels rest t × Kept offset parent item first after f rest q
          rest_goes = (step.r, rest-here _ _ _ _ _ _ _ _ _ _ step _ _ begun _ _ written _ _ finished, kept_on _ _ _ _ _ _ _ _ _ _ step _ _ begun _ _ written _ _ finished)
