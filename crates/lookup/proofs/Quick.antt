-- On every accepted hive the value calls whose key is searched by halving answer exactly as the first ones.
use Prim.Native.Nat.{ℕ, ◌<◌}
use mathlib.Core.Path.{◌≡◌, ap}
use mathlib.Core.List.{List}
use lib.ListN.{get_or}
use Rattle.base.specs.Block.{sector, minor_of, bins_data}
use Rattle.records.specs.Keys.{key_of}
use Rattle.tree.specs.WellFormed.{CleanAndWellFormed}
use Rattle.search.specs.declared.How.TheVariants.{InTurn, Halving}
use Rattle.paths.proofs.Quick.{quick-look, quick-same}
use Rattle.lookup.specs.Search.{lookup_value}
use Rattle.lookup.specs.Answers.{on_key, value_look_by, info_by, info_answer, quick_info, view_by, view_answer, quick_view, part_start, viewed_in, view_start_by, view_start, quick_view_start, view_bytes_by, view_bytes, quick_view_bytes, copy_by, copy_answer, quick_copy, written, copy_out_by, copy_out, quick_out}
use Rattle.fields.specs.declared.Refusal.{Refusal}
use Rattle.paths.specs.declared.Way.{Way}
use Rattle.std.specs.Prelude.{Result}

module _ (h : List ℕ) (bytes : (i : ℕ) → get_or h i 0 < 256) (w : CleanAndWellFormed h) (us x : List ℕ) where
  quick-value : value_look_by Halving h us x ≡ value_look_by InTurn h us x
  unfolding value_look_by
  quick-value = ap (λ (y : Result Way Refusal). on_key y (λ o. lookup_value (bins_data h) (minor_of (sector h)) x (key_of (bins_data h) o))) (quick-look h bytes w us)

  pub info-same : quick_info h us x ≡ info_answer h us x
  unfolding info_by
  info-same = rw quick-value

  pub view-same : quick_view h us x ≡ view_answer h us x
  unfolding view_by
  view-same = rw quick-value

  pub start-same : quick_view_start h us x ≡ view_start h us x
  unfolding view_start_by
  start-same = ap part_start view-same

  pub bytes_same : quick_view_bytes h us x ≡ view_bytes h us x
  unfolding view_bytes_by
  bytes_same = ap (viewed_in h) view-same

  pub copy-same : (n : ℕ) → quick_copy h us x n ≡ copy_answer h us x n
  unfolding copy_by
  copy-same n = rw (quick-same h bytes w us, info-same)

  pub out-same : (out : List ℕ) → quick_out h us x out ≡ copy_out h us x out
  unfolding copy_out_by
  out-same out = ap (written (bins_data h) out) info-same
