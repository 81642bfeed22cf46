-- The value calls in a hive that is clean and well formed, so in every hive that the check accepts: each answers what the key of the path holds, and
-- neither 11 nor 12 can occur.
use Prim.Native.Nat.{ℕ, ◌<◌, ◌≤◌}
use mathlib.Core.Path.{◌≡◌, refl, ap, ◌∙◌}
use mathlib.Core.List.{List, [], ◌++◌, Memᴰ}
use lib.ListN.{length, drop}
use Rattle.fields.specs.declared.Fault.TheVariants.{NoValue, Segmented, OutputShort}
use Rattle.fields.specs.declared.Offset.{Offset}
use Rattle.fields.specs.Faults.{flaw, nowhere, refusal_of, ◌next◌}
use Rattle.fields.proofs.Firsts.{on}
use Rattle.base.specs.Block.{sector, minor_of, bins_data}
use Rattle.cells.specs.Rule.{Header}
use Rattle.records.specs.Keys.{key_of}
use Rattle.values.specs.declared.ValueData.{ValueData}
use Rattle.values.specs.declared.ValueData.TheVariants.{Inline, OneCell, Segments}
use Rattle.values.specs.Records.{data_in, value_of}
use Rattle.values.specs.Segments.{data_fault, bytes_of, length_of}
use Rattle.values.specs.Lists.{values_of}
use Rattle.namesakes.proofs.Laws.{of-one-name, only_one}
use Rattle.tree.specs.Tree.{levels, hive_of}
use Rattle.tree.specs.WellFormed.{CleanAndWellFormed, ValuesStand}
use Rattle.search.specs.declared.How.TheVariants.{InTurn}
use Rattle.paths.specs.declared.Way.TheVariants as way
use Rattle.paths.specs.Paths.{parts_of}
use Rattle.paths.specs.Answers.{key_look, find_by, find_answer}
use Rattle.paths.proofs.Exact.{find-exactly, found-look-is}
use Rattle.paths.proofs.In_accepted.{holds-stands}
use Rattle.lookup.specs.declared.Spot.TheVariants.{Found}
use Rattle.lookup.specs.Answers.{in_key, value_look, info_of, view_fault, info_by, info_answer, view_by, view_answer, view_bytes_by, view_bytes, copy_answer, copy_out}
use Rattle.lookup.specs.Reach.{FirstNamed, first, later, OnlyNamed}
use Rattle.lookup.proofs.ValueFinds.{value-exactly, value_none, data-good}
use Rattle.lookup.proofs.Value_searches.{value-below}
use Rattle.lookup.proofs.Value_answers.{info-missing}
use Rattle.lookup.proofs.Answered.{content-as, copy-short, copy_done, copy_written}
use Rattle.lookup.proofs.Agree.{view-is}
use Rattle.std.specs.Prelude.{Err, Ok}

-- the first value of a name is one of the values
first-in : {d : List ℕ} {minor : ℕ} {x : List ℕ} {vs : List Offset} {v : Offset} → FirstNamed d minor x vs v → Memᴰ v vs
first-in (first p) = Memᴰ.head refl
first-in (later p f) = Memᴰ.tail (first-in f)

-- data that are not segmented can be viewed
unsegmented : (v : Offset) (y : ValueData) → ((a : Offset) (n : ℕ) → y ≡ Segments a n → ⊥) → view_fault v y ≡ Ok tt
unfolding view_fault
unsegmented v (Inline at len) f = refl
unsegmented v (OneCell o len) f = refl
unsegmented v (Segments o len) f = absurd (f o len refl)

module _ (h : List ℕ) (w : CleanAndWellFormed h) (us : List ℕ) where
  -- ---- values of the key that is found
  module _ (o : Offset) (found : find_answer h us ≡ Ok o) where
    at : key_look h us ≡ Ok (way.Found o)
    unfolding find_by
    at = found-look-is (key_look h us) found

    stands : ValuesStand (bins_data h) (minor_of (sector h)) (key_of (bins_data h) o)
    stands =
        (holds-stands (bins_data h) (hive_of h) levels (hive_of h).root o (parts_of us) w.formed.tree ((find-exactly h w us o).0 found)).values

    module _ (x : List ℕ) where
      look-first : {v : Offset} → FirstNamed (bins_data h) (minor_of (sector h)) x (values_of (bins_data h) (key_of (bins_data h) o)) v → value_look h us x ≡ Ok (Found o v)
      look-first {v} f =
          value-below InTurn h us x at
          ∙ ap (in_key o) ((value-exactly (bins_data h) w.formed.tiled (minor_of (sector h)) (key_of (bins_data h) o) stands x v).1 f)

      whole : {v : Offset} → FirstNamed (bins_data h) (minor_of (sector h)) x (values_of (bins_data h) (key_of (bins_data h) o)) v
          → data_fault Header (bins_data h) [] (data_in (bins_data h) (minor_of (sector h)) v) ≡ Ok tt
      whole {v} f = data-good (bins_data h) w.formed.tiled (minor_of (sector h)) (key_of (bins_data h) o) stands v (first-in f)

      -- the first value of that name answers
      pub info-first : {v : Offset} → FirstNamed (bins_data h) (minor_of (sector h)) x (values_of (bins_data h) (key_of (bins_data h) o)) v
          → info_answer h us x ≡ Ok (info_of (value_of (bins_data h) (minor_of (sector h)) v))
      unfolding info_by
      info-first f = rw (look-first f, whole f)

      -- and 18 where there is none
      pub info-none : ((v : Offset) → FirstNamed (bins_data h) (minor_of (sector h)) x (values_of (bins_data h) (key_of (bins_data h) o)) v → ⊥)
          → info_answer h us x ≡ Err (refusal_of o (flaw NoValue nowhere))
      info-none f =
          info-missing InTurn h us x
          (value-below InTurn h us x at ∙ ap (in_key o) (value_none (bins_data h) w.formed.tiled (minor_of (sector h)) (key_of (bins_data h) o) stands x f))

      -- the first value of that name is the only one
      pub only-named : OnlyNamed (bins_data h) (minor_of (sector h)) x (values_of (bins_data h) (key_of (bins_data h) o))
      only-named i j a b p q =
          only_one (bins_data h) (key_of (bins_data h) o) stands.distinct i j a b
          (of-one-name (bins_data h) (minor_of (sector h)) (values_of (bins_data h) (key_of (bins_data h) o)) i j x p q)

      -- ---- the bytes of the first value of that name
      module _ (v : Offset) (named : FirstNamed (bins_data h) (minor_of (sector h)) x (values_of (bins_data h) (key_of (bins_data h) o)) v) where
        view-sound : view_fault v (data_in (bins_data h) (minor_of (sector h)) v) ≡ Ok tt
            → view_answer h us x ≡ Ok (info_of (value_of (bins_data h) (minor_of (sector h)) v))
        unfolding view_by
        view-sound q = rw (look-first named, on (view_fault v (data_in (bins_data h) (minor_of (sector h)) v)) (data_fault Header (bins_data h) [] (data_in (bins_data h) (minor_of (sector h)) v)) q, whole named)

        shows : view_fault v (data_in (bins_data h) (minor_of (sector h)) v) ≡ Ok tt → view_bytes h us x ≡ bytes_of (bins_data h) (data_in (bins_data h) (minor_of (sector h)) v)
        shows q =
            view-is InTurn h us x (view-sound q)
            ∙ ap (bytes_of (bins_data h)) (content-as (bins_data h) (minor_of (sector h)) (info_of (value_of (bins_data h) (minor_of (sector h)) v)) v refl)

        -- data that are not segmented are answered, with the record's facts and bytes
        pub viewed : ((a : Offset) (n : ℕ) → data_in (bins_data h) (minor_of (sector h)) v ≡ Segments a n → ⊥)
            → (view_answer h us x ≡ Ok (info_of (value_of (bins_data h) (minor_of (sector h)) v)))
            × (view_bytes h us x ≡ bytes_of (bins_data h) (data_in (bins_data h) (minor_of (sector h)) v))
        viewed f = let q = unsegmented v (data_in (bins_data h) (minor_of (sector h)) v) f in (view-sound q, shows q)

        -- in segments: 19 at the value
        pub segments-unviewed : (a : Offset) (n : ℕ) → data_in (bins_data h) (minor_of (sector h)) v ≡ Segments a n
            → (view_answer h us x ≡ Err (refusal_of o (flaw Segmented v))) × (view_bytes h us x ≡ [])
        unfolding view_by view_bytes_by view_fault ◌next◌
        segments-unviewed a n e = (rw (look-first named, e), rw (look-first named, e))

        -- the copy, of each case: where there is room it is done, with the data's length; where there is not it is 20
        content : (info_of (value_of (bins_data h) (minor_of (sector h)) v)).content ≡ data_in (bins_data h) (minor_of (sector h)) v
        content = content-as (bins_data h) (minor_of (sector h)) (info_of (value_of (bins_data h) (minor_of (sector h)) v)) v refl

        pub copy-says : (out : List ℕ) → length_of (data_in (bins_data h) (minor_of (sector h)) v) ≤ length out
            → copy_answer h us x (length out) ≡ Ok (length_of (data_in (bins_data h) (minor_of (sector h)) v))
        unfolding info_of
        copy-says out p = copy_done InTurn h us x out (info-first named) (rw (← content) at p) ∙ ap (λ (y : ValueData). Ok (length_of y)) content

        pub copy-20 : (out : List ℕ) → length out < length_of (data_in (bins_data h) (minor_of (sector h)) v)
            → copy_answer h us x (length out) ≡ Err (refusal_of o (flaw OutputShort nowhere))
        unfolding info_of
        copy-20 out p = copy-short InTurn h us x out (info-first named) found (rw (← content) at p)

        pub copied : (out : List ℕ) → length_of (data_in (bins_data h) (minor_of (sector h)) v) ≤ length out
            → copy_out h us x out
            ≡ bytes_of (bins_data h) (data_in (bins_data h) (minor_of (sector h)) v) ++ drop (length_of (data_in (bins_data h) (minor_of (sector h)) v)) out
        unfolding info_of
        copied out p =
            copy_written InTurn h us x out (info-first named) (rw (← content) at p)
            ∙ ap (λ (y : ValueData). bytes_of (bins_data h) y ++ drop (length_of y) out) content
