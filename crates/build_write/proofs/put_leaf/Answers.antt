use Prim.Native.Nat.{◌+◌, ◌*◌}
use native.Mathlib.Omega.{arith}
use Rattle.layout.proofs.Sizes.{cell_room}
use Rattle.build_write.proofs.Leaves.{leaf-few, still-stand}
use Rattle.build_write.proofs.put_leaf.Goals as goal

pub put_size-requires : goal.put_size-requires
put_size-requires c = let f = leaf-few _ _ _ c.if-n-ne0.true c.requires.5 in (omega (arith, f.0), omega (arith, f.1, cell_room (4 + 8 * c.args.n)))

pub put_u16-requires : goal.put_u16-requires
put_u16-requires c = let f = leaf-few _ _ _ c.if-n-ne0.true c.requires.5 in omega (arith, f.1, cell_room (4 + 8 * c.args.n))

pub put_u16-requires-then-n-ne0 : goal.put_u16-requires-then-n-ne0
put_u16-requires-then-n-ne0 c = let f = leaf-few _ _ _ c.if-n-ne0.true c.requires.5 in omega (arith, f.1, cell_room (4 + 8 * c.args.n))

pub put_elements-requires : goal.put_elements-requires
put_elements-requires c =
    let f = leaf-few _ _ _ c.if-n-ne0.true c.requires.5 in (
      c.requires.0,
      still-stand _ _ _ _ _ _ _ _ c.put_size.ensures
          c.put_u16.ensures c.put_u16-then-n-ne0.ensures
          c.requires.4
          c.requires.1,
      c.requires.2,
      omega (arith, c.requires.4),
      omega (
        arith,
        f.1,
        cell_room (4 + 8 * c.args.n),
      ),
    )

pub put_pad-requires : goal.put_pad-requires
put_pad-requires c = let f = leaf-few _ _ _ c.if-n-ne0.true c.requires.5 in (omega (arith, f.0), omega (arith, f.1))
