-- Keys side by side, one after the other: what they and any keys behind them come to.
use Prim.Native.Nat.{ℕ, suc, ◌+◌, ◌^◌, ◌<◌}
use native.Mathlib.Omega.{arith}
use mathlib.Core.Path.{◌≡◌, sym, ap, ◌∙◌}
use mathlib.Core.Bool.{true}
use mathlib.Core.List.{List, [], ◌∷◌, ◌++◌}
use lib.ListN.{length, drop}
use Rattle.stream.specs.Stream.{close_frame}
use Rattle.forest.specs.Forest.{Item, Forest, more, count_of, key_count, key_frame, item_frames, forest_frames}
use Rattle.forest.specs.Allowed.{KeyName}
use Rattle.forest.specs.Faults.{is_above}
use Rattle.forest.proofs.Growing.{Adding, Growing, a_key}
use Rattle.forest.proofs.Written.{in_a_row}
use Rattle.layout.specs.Layout.{cell_size, stored, values_size, list_size, leaf_size, size_of}

-- those between two positions, with the names of all so far, the latest first; how many, the sizes of their cells, and how many keys in all
pub record Chain (s : List ℕ) (n p₀ p : ℕ) (names : List (List ℕ)) (count size keys : ℕ) : Type 0 where
  pub whole : Forest → Forest
  pub grows : (f : Forest) → Growing n names f → Growing n [] (whole f)
  pub frames : (f : Forest) (t : List ℕ) → drop p s ≡ forest_frames f ++ t → drop p₀ s ≡ forest_frames (whole f) ++ t
  pub count-is : (f : Forest) → count_of (whole f) ≡ count + count_of f
  pub size_is : (f : Forest) → size_of (whole f) ≡ size + size_of f
  pub keys-are : (f : Forest) → key_count (whole f) ≡ keys + key_count f

pub chain-none : (s : List ℕ) (n p : ℕ) → Chain s n p p [] 0 0 0
chain-none s n p = record {
  whole = λ f. f;
  grows = λ f g. g;
  frames = λ f t e. e;
  count-is = λ f. omega arith;
  size_is = λ f. omega arith;
  keys-are = λ f. omega arith;
}

-- the size of a key, all that is in it, and its own cell
abbrev pub size_with : List ℕ → List Item → Forest → ℕ
size_with x vs b = cell_size (76 + length (stored x)) + (values_size vs + (list_size (length vs) + (size_of b + leaf_size (count_of b))))

module _ {s : List ℕ} {m p₀ p : ℕ} {names : List (List ℕ)} {count size keys : ℕ} (o : Chain s (suc m) p₀ p names count size keys) (st : ℕ) (x : List ℕ) (vs : List Item) (b : Forest) where
  pub chain_more : st < 2 ^ 64 → KeyName x → is_above x names ≡ true → length names < 65535 → Adding [] vs → Growing m [] b → (e : ℕ)
      → drop p s ≡ key_frame st x ++ (item_frames vs ++ (forest_frames b ++ (close_frame ++ drop e s)))
      → Chain s (suc m) p₀ e (x ∷ names) (suc count) (size + size_with x vs b) (keys + suc (key_count b))
  unfolding count_of size_of key_count
  chain_more sf nm ab fw ad gb e row = record {
    whole = λ f. o.whole (more st x vs b f);
    grows = λ f g. o.grows (more st x vs b f) (a_key sf nm ab fw ad gb g);
    frames = λ f t q. o.frames (more st x vs b f) t
        (row ∙ ap (λ (u : List ℕ). key_frame st x ++ (item_frames vs ++ (forest_frames b ++ (close_frame ++ u)))) q ∙ sym (in_a_row st x vs b f t));
    count-is = λ f. let a = o.count-is (more st x vs b f) in omega arith;
    size_is = λ f. let a = o.size_is (more st x vs b f) in omega arith;
    keys-are = λ f. let a = o.keys-are (more st x vs b f) in omega arith;
  }
