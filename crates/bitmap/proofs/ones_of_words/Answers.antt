use Rattle.std.proofs.Common.{ℕ, ◌+◌, ◌*◌, refl, arith}
use Rattle.bitmap.specs.Bits.{bits_before}
use Rattle.bitmap.proofs.Laws.{before-le}
use Rattle.bitmap.proofs.Ones.{word_more}
use Rattle.bitmap.proofs.ones_of_words.Goals as goal

pub loop-k-init : goal.loop-k-init
unfolding bits_before
loop-k-init c = refl

pub overflow_add-n : goal.overflow_add-n
overflow_add-n c =
    let e = word_more c.args.map.now (λ (i : ℕ). (c.type_inv.map i).fits) _ _ _ c.loop-k.invariant c.u64_at.ensures in
    omega (arith, before-le c.args.map.now (8 * (8 * (c.loop-k.k + 1))))

pub loop-k-preserved : goal.loop-k-preserved
loop-k-preserved c = word_more c.args.map.now (λ (i : ℕ). (c.type_inv.map i).fits) _ _ _ c.loop-k.invariant c.u64_at.ensures
