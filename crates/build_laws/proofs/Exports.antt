-- The export of a built hive is the stream of its forest.
use Prim.Native.Nat.{ℕ, ◌+◌, ◌<◌, ◌≤◌}
use native.Mathlib.Omega.{arith}
use mathlib.Core.Path.{◌≡◌, refl, sym, ap, ap₂, ◌∙◌}
use mathlib.Core.List.{List, ◌++◌, append_assoc, append-nil}
use lib.ListN.{length}
use Rattle.base.specs.Block.{bins_limit}
use Rattle.tree.specs.declared.Hive.{Hive}
use Rattle.tree.specs.Tree.{levels}
use Rattle.stream.specs.Stream.{close_frame, value_stream, stream_over, stream_in, stream_of}
use Rattle.forest.specs.Forest.{Item, Forest, none, more, count_of, key_frame, item_frames, forest_frames}
use Rattle.forest.specs.Allowed.{OneRoot}
use Rattle.layout.specs.Layout.{row_size, nothing, item_at, bins_for, bins_of, built_hive}
use Rattle.layout.proofs.Sizes.{bins-whole}
use Rattle.layout.proofs.Base.{built-hive, built-data}
use Rattle.layout.proofs.Splits.{Split}
use Rattle.layout.proofs.Built.{row_of, Placed, row-size, cells-part, placed}
use Rattle.build_laws.specs.Written.{items_at, children_at}
use Rattle.build_laws.specs.Laid.{ValuesLaid, no-values, value, Laid, no_keys, key}
use Rattle.build_laws.proofs.Forest_keys.{forest-laid}

regroup : (a b c e f : List ℕ) → (a ++ (b ++ (c ++ e))) ++ f ≡ a ++ (b ++ (c ++ (e ++ f)))
regroup a b c e f = simp append_assoc

-- ---- in the bins data d

module _ {d : List ℕ} where
  values-stream : {vs : List Item} {at : ℕ} → ValuesLaid d vs at → value_stream d 5 (items_at vs at) ≡ item_frames vs
  unfolding value_stream items_at item_frames
  values-stream no-values = refl
  values-stream (value v t) = ap₂ (λ (a c : List ℕ). a ++ c) v.framed (values-stream t)

  keys-stream : {S n : ℕ} {f : Forest} {at parent : ℕ} → Laid d S n f at parent → stream_over (stream_in d 5 n) (children_at f at) ≡ forest_frames f
  unfolding stream_over stream_in children_at forest_frames
  keys-stream no_keys = refl
  keys-stream (key {n = n} {s = s} {x = x} {vs = vs} {b = b} {r = r} {at = at} k u t) =
      ap₂ (λ (a c : List ℕ). a ++ c)
      (ap₂ (λ (a c : List ℕ). a ++ c) k.opens
      (ap₂ (λ (a c : List ℕ). a ++ c) (ap (value_stream d 5) k.values-are ∙ values-stream k.each)
      (ap (λ (a : List ℕ). a ++ close_frame) (ap (stream_over (stream_in d 5 n)) k.children-are ∙ keys-stream u))))
      (keys-stream t)
      ∙ regroup (key_frame s x) (item_frames vs) (forest_frames b) close_frame (forest_frames r)

  -- one key alone
  root-stream : {S n : ℕ} (f : Forest) {at parent : ℕ} → count_of f ≡ 1 → Laid d S n f at parent → stream_in d 5 n (record { 0 = at }) ≡ forest_frames f
  unfolding count_of stream_over children_at
  root-stream none e l = absurd (omega arith)
  root-stream (more s x vs b none) e l = sym (append-nil _) ∙ keys-stream l
  root-stream (more s x vs b (more t y ws c r)) e l = absurd (omega arith)

-- ---- the built hive

module _ (f : Forest) (sd : List ℕ) (root : OneRoot f) (fits : bins_for f (length sd) ≤ bins_limit) where
  pub item-fits : item_at f < 4294967296
  item-fits = let w = bins-whole f (length sd) in omega arith

  pub built-laid : Laid (bins_of f sd) (item_at f) levels f 32 nothing
  built-laid =
      let w = bins-whole f (length sd) in
      let r = row-size f sd in
      let there : (o : ℕ) (x : List ℕ) → Split (row_of f sd) 32 o x → Placed (bins_of f sd) o x = λ o x c. placed f sd fits c in
      let small : 32 + row_size (row_of f sd) < 4294967296 = omega arith in
      forest-laid there small (item_at f) item-fits root.allowed 32 nothing (omega arith) (cells-part f sd)

  pub built-exports : stream_of (built_hive f sd) ≡ forest_frames f
  built-exports =
      ap₂ (λ (d : List ℕ) (hive : Hive). stream_in d hive.minor levels hive.root) (built-data f sd fits) (built-hive f sd)
      ∙ root-stream f root.single built-laid
