-- The bins size by sizes, the answer to it, and the answer to a stream.
use Prim.Native.Nat.{ℕ, ◌+◌, ◌≤◌, ◌<◌}
use native.Mathlib.Omega.{arith}
use mathlib.Core.Path.{◌≡◌, refl, sym, ap, ◌∙◌}
use mathlib.Core.List.{List}
use Rattle.base.specs.Block.{bins_limit}
use Rattle.forest.specs.Forest.{Forest}
use Rattle.layout.specs.Layout.{size_of, bins_for}
use Rattle.layout.proofs.Sizes.{cell_room}
use Rattle.build_measure.specs.declared.Whole.{Whole}
use Rattle.build_measure.specs.Terms.{cap, FitsAs}
use Rattle.build_measure.proofs.Sizes.{cap-told, cap-past}
use Rattle.build_answers.specs.Answers.{too_large, size_answer, measure_answer}
use Rattle.build_answers.proofs.Cases.{size-large, size-done, measure-as}
use Rattle.build.specs.Terms.{bins_size}
use Rattle.std.specs.Prelude.{Ok}

-- ---- sizes

pub bins-by-size : (f : Forest) (n : ℕ) → bins_for f n ≡ bins_size (size_of f) n
unfolding bins_for
bins-by-size f n = refl

-- t is the whole sum of sizes, size what the code has of it
module _ (t n size : ℕ) (e : size ≡ cap t) where
  pub keys-past : bins_limit < size → too_large ≡ size_answer (bins_size t n)
  keys-past h = let p = cap-past t (omega (arith, e, h)) in sym (size-large (bins_size t n) (omega (arith, p)))

  pub descriptor-past : bins_limit < n → too_large ≡ size_answer (bins_size t n)
  descriptor-past h = let c = cell_room (20 + n) in sym (size-large (bins_size t n) (omega (arith, c, h)))

  module _ (told : size ≤ bins_limit) {bins : ℕ} (q : bins ≡ bins_size size n) where
    whole : bins ≡ bins_size t n
    whole = let w = cap-told t (omega (arith, e, told)) in q ∙ ap (λ (k : ℕ). bins_size k n) (e ∙ sym w)

    pub bins-past : bins_limit < bins → too_large ≡ size_answer (bins_size t n)
    bins-past h = sym (size-large bins h) ∙ ap size_answer whole

    pub bins-within : bins ≤ bins_limit → Ok (4096 + bins) ≡ size_answer (bins_size t n)
    bins-within h = sym (size-done bins h) ∙ ap size_answer whole

-- ---- a stream

pub measure-fits : (s : List ℕ) (n : ℕ) {w : Whole} (x : FitsAs s w) → size_answer (bins_size (size_of x.forest) n) ≡ measure_answer s n
measure-fits s n x = ap size_answer (sym (bins-by-size x.forest n)) ∙ sym (measure-as s n x.forest x.frames x.root)
