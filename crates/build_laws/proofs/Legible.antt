-- The values and the names of a hive that stands, read: they are such as a stream may have, and their frames are the hive's. d is the bins data.
use Prim.Native.Nat.{ℕ, zero, suc, ◌+◌, ◌-◌, ◌*◌, ◌≤◌, ◌<◌}
use native.Mathlib.Omega.{arith}
use mathlib.Core.Path.{◌≡◌, refl, sym, ap, ap₂, ◌∙◌, subst}
use mathlib.Core.Bool.{Bool, true, false, cond}
use mathlib.Core.Logic.{⊎_elim}
use mathlib.Core.List.Memᴰ
use mathlib.Core.List.{List, [], ◌∷◌, ◌++◌, append_assoc, Memᴰ}
use lib.Dec.{eqb, leb, ltb}
use lib.ListN.{length, take, drop, get_or, length-append}
use lib.Seq.{take_all}
use borrow.Author.Tests.{leb-true, leb-false, ltb-true, ltb-false}
use Rattle.fields.specs.declared.Offset.{Offset}
use Rattle.fields.specs.Number.{u16_at, u32_at, le32}
use Rattle.fields.specs.Faults.{nowhere}
use Rattle.fields.proofs.Numbers.{u32-below}
use Rattle.cells.specs.Named.{data_at}
use Rattle.cells.proofs.Parts.{part_bytes}
use Rattle.names.specs.Codes.{codes}
use Rattle.names.specs.Comparison.{same_name}
use Rattle.records.specs.Keys.{codes_of}
use Rattle.values.specs.declared.Segment.{Segment}
use Rattle.values.specs.declared.ValueData.{ValueData}
use Rattle.values.specs.declared.ValueData.TheVariants.{Inline, OneCell, Segments}
use Rattle.values.specs.Records.{segment_size, top_bit, value_narrow, is_segmented, content_of, fields_of, value_of}
use Rattle.values.specs.Segments.{segments_for, segment_length, segments_from, segment_list, segments_of, joined_bytes, bytes_of, length_of}
use Rattle.namesakes.specs.Namesakes.{called_at, are_namesakes, twins}
use Rattle.tree.specs.Facts.{ValueRecord}
use Rattle.tree.specs.WellFormed.{ValueStands}
use Rattle.stream.specs.Stream.{frame, wide, framed_value, value_frame, value_stream}
use Rattle.forest.specs.Forest.{Item, item_names, item_frame, item_frames}
use Rattle.forest.specs.Allowed.{AllBelow, Apart, apart_none, apart_more, ItemAllowed}
use Rattle.forest.proofs.Bytes.{below_at, below-take, below-drop}
use Rattle.forest.proofs.Wide.{codes-below}
use Rattle.build_laws.specs.Read.{item_read, items_read}

-- ---- bytes

below_both : (n : ℕ) (xs ys : List ℕ) → AllBelow n xs → AllBelow n ys → AllBelow n (xs ++ ys)
below_both n xs ys f g x m = ⊎_elim (f x) (g x) (Memᴰ.append_cases xs m)

pub codes-fit : (narrow : Bool) (s : List ℕ) → AllBelow 256 s → AllBelow 65536 (codes narrow s)
unfolding codes
codes-fit true s f x m = let p = f x m in omega arith
codes-fit false s f x m = codes-below s f x m

none_below : (l : List ℕ) → length l ≡ 0 → AllBelow 256 l
none_below [] e x m = absurd (Memᴰ.not-nil m)
none_below (y ∷ l) e x m = absurd (omega arith)

-- a cell's data are a part of the bins data, as `cells` says
pub data-fits : (d : List ℕ) (o : Offset) → AllBelow 256 d → AllBelow 256 (data_at d o)
data-fits d o f = by (length (data_at d o)) refl
  where
    by : (n : ℕ) → length (data_at d o) ≡ n → AllBelow 256 (data_at d o)
    by zero e = none_below (data_at d o) e
    by (suc n) e =
        let p = part_bytes d o 0 (suc n) (record { some = omega arith; ends = omega (arith, e) }) in
        subst (AllBelow 256) (p ∙ take_all (suc n) (data_at d o) (omega (arith, e))) (below-take 256 (suc n) (drop (o.0 + 4 + 0) d) (below-drop 256 (o.0 + 4 + 0) d f))

take-most : (n : ℕ) (l : List ℕ) → length (take n l) ≤ n
take-most zero l = omega arith
take-most (suc n) [] = omega arith
take-most (suc n) (x ∷ xs) = let r = take-most n xs in omega arith

-- ---- the data of a value

segment-least : (m : ℕ) → segment_length m + (m - segment_size) ≤ m
unfolding segment_length
segment-least m = by (ltb segment_size m) refl
  where
    by : (t : Bool) → ltb segment_size m ≡ t → cond t segment_size m + (m - segment_size) ≤ m
    by true e = let l = ltb-true segment_size m e in omega arith
    by false e = let l = ltb-false segment_size m e in omega arith

module _ (d : List ℕ) where
  segments-most : (r : List ℕ) (i left n : ℕ) → length (joined_bytes d (segments_from r i left n)) ≤ left
  unfolding segments_from joined_bytes
  segments-most r i left zero = omega arith
  segments-most r i left (suc n) =
      let rest = joined_bytes d (segments_from r (suc i) (left - segment_size) n) in
      let a = segments-most r (suc i) (left - segment_size) n in
      let b = take-most (segment_length left) (data_at d (record { 0 = u32_at r (i * 4) })) in
      let c = length-append (take (segment_length left) (data_at d (record { 0 = u32_at r (i * 4) }))) rest in
      let e = segment-least left in
      omega arith

  bytes_most : (c : ValueData) → length (bytes_of d c) ≤ length_of c
  unfolding bytes_of segments_of
  bytes_most (Inline v len) = take-most len (drop 8 (data_at d v))
  bytes_most (OneCell o len) = by (eqb len 0)
    where
      by : (t : Bool) → length (cond t [] (take len (data_at d o))) ≤ len
      by true = omega arith
      by false = take-most len (data_at d o)
  bytes_most (Segments o len) = segments-most (data_at d (segment_list d o)) 0 len (segments_for len)

  module _ (bytes : AllBelow 256 d) where
    joined-fit : (ss : List Segment) → AllBelow 256 (joined_bytes d ss)
    unfolding joined_bytes
    joined-fit [] = λ x m. absurd (Memᴰ.not-nil m)
    joined-fit (s ∷ ss) =
        below_both 256 (take s.len (data_at d s.at)) (joined_bytes d ss) (below-take 256 s.len (data_at d s.at) (data-fits d s.at bytes))
        (joined-fit ss)

    bytes_fit : (c : ValueData) → AllBelow 256 (bytes_of d c)
    unfolding bytes_of
    bytes_fit (Inline v len) = below-take 256 len (drop 8 (data_at d v)) (below-drop 256 8 (data_at d v) (data-fits d v bytes))
    bytes_fit (OneCell o len) = by (eqb len 0)
      where
        by : (t : Bool) → AllBelow 256 (cond t [] (take len (data_at d o)))
        by true = λ x m. absurd (Memᴰ.not-nil m)
        by false = below-take 256 len (data_at d o) (data-fits d o bytes)
    bytes_fit (Segments o len) = joined-fit (segments_of d o len)

  -- "Top bit of the size set: length at most 4 [..]. Otherwise at most 1,048,576"
  content-most : (r : List ℕ) (minor : ℕ) (v : Offset) → ValueRecord r → length_of (content_of r minor v) ≤ 1048576
  unfolding content_of
  content-most r minor v g = by (leb top_bit (u32_at r 4)) refl (is_segmented minor (u32_at r 4)) refl
    where
      by : (t : Bool) → leb top_bit (u32_at r 4) ≡ t → (s : Bool) → is_segmented minor (u32_at r 4) ≡ s → length_of (content_of r minor v) ≤ 1048576
      by true e s f = let p = g.inline (leb-true top_bit (u32_at r 4) e) in rw e (omega arith)
      by false e true f = let p = g.limit (leb-false top_bit (u32_at r 4) e) in rw (e, f) p
      by false e false f = let p = g.limit (leb-false top_bit (u32_at r 4) e) in rw (e, f) p

-- ---- a value

module _ (d : List ℕ) (minor : ℕ) where
  pub item-allowed : (v : Offset) → AllBelow 256 d → ValueStands d minor v → ItemAllowed (item_read d minor v)
  unfolding value_of fields_of called_at codes_of
  item-allowed v bytes s =
      let r = data_at d v in
      let good = s.record-good in
      let most = bytes_most d (content_of r minor v) in
      let size = content-most d r minor v good in
      record {
        kind_fits = u32-below r (below_at 256 (omega arith) r (data-fits d v bytes)) 12;
        name-fits = good.old.few;
        codes-fit = codes-fit (value_narrow r) (take (u16_at r 2) (drop 20 r)) (below-take 256 (u16_at r 2) (drop 20 r) (below-drop 256 20 r (data-fits d v bytes)));
        data-fits = omega arith;
        bytes_fit = bytes_fit d bytes (content_of r minor v);
      }

  pub item-framed : (v : Offset) → item_frame (item_read d minor v) ≡ value_frame d minor v
  unfolding item_frame framed_value value_of fields_of called_at
  item-framed v =
      ap (frame 17)
      (regroup (le32 (value_of d minor v).kind) (le32 (2 * length (called_at d v))) (wide (called_at d v)) (bytes_of d (value_of d minor v).content))
    where
      regroup : (a b c e : List ℕ) → a ++ (b ++ (c ++ e)) ≡ ((a ++ b) ++ c) ++ e
      regroup a b c e = simp append_assoc

  pub items-framed : (vs : List Offset) → item_frames (items_read d minor vs) ≡ value_stream d minor vs
  unfolding item_frames items_read value_stream
  items-framed [] = refl
  items-framed (v ∷ vs) = ap₂ (λ (a b : List ℕ). a ++ b) (item-framed v) (items-framed vs)

  pub items-allowed : (vs : List Offset) → AllBelow 256 d → ((v : Offset) → Memᴰ v vs → ValueStands d minor v)
      → (w : Item) → Memᴰ w (items_read d minor vs) → ItemAllowed w
  unfolding items_read
  items-allowed [] bytes f w i = absurd (Memᴰ.not-nil i)
  items-allowed (v ∷ vs) bytes f w i =
      ⊎_elim
      (λ (e : w ≡ item_read d minor v). subst (λ (y : Item). ItemAllowed y) (sym e) (item-allowed v bytes (f v (Memᴰ.head refl))))
      (λ j. items-allowed vs bytes (λ u m. f u (Memᴰ.tail m)) w j)
      (Memᴰ.cases_cons i)

  -- a name of theirs is that of one of them
  record Among (vs : List Offset) (y : List ℕ) : Type 0 where
    at : ℕ
    inside : at < length vs
    is : y ≡ called_at d (get_or vs at nowhere)

  names-among : (vs : List Offset) (y : List ℕ) → Memᴰ y (item_names (items_read d minor vs)) → Among vs y
  unfolding item_names items_read
  names-among [] y i = absurd (Memᴰ.not-nil i)
  names-among (v ∷ vs) y i =
      ⊎_elim
      (λ (e : y ≡ called_at d v). record { at = 0; inside = omega arith; is = e })
      (λ j. let a = names-among vs y j in let p = a.inside in record { at = suc a.at; inside = omega arith; is = a.is })
      (Memᴰ.cases_cons i)

  pub items-apart : (vs : List Offset) → ((i j : ℕ) → i < j → j < length vs → twins d vs i j ≡ false) → Apart (item_names (items_read d minor vs))
  unfolding item_names items_read twins are_namesakes
  items-apart [] f = apart_none
  items-apart (v ∷ vs) f =
      apart_more
      (λ y m. let a = names-among vs y m in
      let p = a.inside in
      ap (same_name (called_at d v)) a.is ∙ f 0 (suc a.at) (omega arith) (omega arith))
      (items-apart vs (λ i j p q. f (suc i) (suc j) (omega arith) (omega arith)))
