use Rattle.std.proofs.Common.{ℕ, ◌+◌, ◌-◌, ◌*◌, arith, rules}
use Rattle.bitmap.proofs.Laws.{before-le}
use Rattle.bitmap.proofs.Ones.{byte_more}
use Rattle.bitmap.proofs.ones_of_bytes.Goals as goal

pub overflow_add-n : goal.overflow_add-n
overflow_add-n c =
    let m = c.args.to - c.args.from in
    let e = byte_more c.args.map.now (λ (i : ℕ). (c.type_inv.map i).fits) c.args.from m _ _ (search (rules, arith)) c.loop-b.invariant in
    omega (arith, before-le c.args.map.now (8 * (c.args.from + (c.loop-b.b-index + 1))))

pub loop-b-preserved : goal.loop-b-preserved
loop-b-preserved c = byte_more c.args.map.now (λ (i : ℕ). (c.type_inv.map i).fits) c.args.from _ _ _ (search (rules, arith)) c.loop-b.invariant
