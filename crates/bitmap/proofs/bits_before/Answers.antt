use Rattle.std.proofs.Common.{◌*◌, arith}
use Rattle.bitmap.proofs.Laws.{before-le}
use Rattle.bitmap.proofs.bits_before.Goals as goal

pub overflow_add-result : goal.overflow_add-result
overflow_add-result c = omega (arith, before-le c.args.map.now (8 * c.bytes_before-whole.result))

pub overflow_add-result-2 : goal.overflow_add-result-2
overflow_add-result-2 c = omega (arith, before-le c.args.map.now c.args.index)
