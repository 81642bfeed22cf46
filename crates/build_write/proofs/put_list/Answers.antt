use Prim.Native.Nat.{◌*◌}
use native.Mathlib.Omega.{arith}
use Rattle.layout.proofs.Sizes.{cell_room}
use Rattle.build_write.proofs.Lists.{list-few}
use Rattle.build_write.proofs.put_list.Goals as goal

pub overflow_mul-len : goal.overflow_mul-len
overflow_mul-len c = let f = list-few _ _ _ c.if-n-ne0.true c.requires.5 in omega (arith, f.0)

pub put_size-requires : goal.put_size-requires
put_size-requires c = let f = list-few _ _ _ c.if-n-ne0.true c.requires.5 in (omega (arith, f.0), omega (arith, f.1, cell_room (4 * c.args.n)))

pub put_offsets-requires : goal.put_offsets-requires
put_offsets-requires c =
    let f = list-few _ _ _ c.if-n-ne0.true c.requires.5 in (
      c.requires.0,
      c.requires.1,
      c.requires.2,
      c.requires.4,
      omega (
        arith,
        f.1,
        cell_room (4 * c.args.n),
        c.requires.3,
      ),
    )

pub put_pad-requires : goal.put_pad-requires
put_pad-requires c = let f = list-few _ _ _ c.if-n-ne0.true c.requires.5 in (omega (arith, f.0), omega (arith, f.1))
