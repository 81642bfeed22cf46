use Prim.Native.Nat.{◌+◌}
use native.Mathlib.Omega.{arith}
use mathlib.Core.Path.{◌∙◌}
use Rattle.build_write.proofs.Hives.{root-opens, root-here, descriptor-fits, total-fits, keys-fit, keys-room, used-fits, size_fits, left-whole, round, hive-put}
use Rattle.build_write.proofs.put_hive.Goals as goal

pub opening_at-stamp-requires : goal.opening_at-stamp-requires
opening_at-stamp-requires c = root-opens _ _ _ _ _ _ c.requires.1

pub overflow_add-item : goal.overflow_add-item
overflow_add-item c = omega (arith, total-fits _ _ _ _ _ _ c.requires.1)

pub overflow_add-used : goal.overflow_add-used
overflow_add-used c = omega (arith, used-fits _ _ _ _ _ _ c.requires.1 _ c.cell_size.ensures)

pub next_multiple_of-size-requires-clause-fits : goal.next_multiple_of-size-requires-clause-fits
next_multiple_of-size-requires-clause-fits c = omega (arith, (size_fits _ _ _ _ _ _ c.requires.1 _ c.cell_size.ensures).0)

pub overflow_cast-size : goal.overflow_cast-size
overflow_cast-size c = omega (arith, (size_fits _ _ _ _ _ _ c.requires.1 _ c.cell_size.ensures).0)

pub overflow_cast-size-2 : goal.overflow_cast-size-2
overflow_cast-size-2 c = omega (arith, (size_fits _ _ _ _ _ _ c.requires.1 _ c.cell_size.ensures).0)

pub put_header-requires : goal.put_header-requires
put_header-requires c = let f = (size_fits _ _ _ _ _ _ c.requires.1 _ c.cell_size.ensures) in omega (arith, f.1, f.2)

pub put_keys-requires : goal.put_keys-requires
put_keys-requires c =
    let r = keys-room _ _ _ _ _ _ c.requires.1 in
    let i = total-fits _ _ _ _ _ _ c.requires.1 in
    (_, _, root-here _ _ _ _ _ _ c.requires.1, record { low = r.low; inside = omega (arith, r.inside) }, omega arith, omega (arith, i))

pub overflow_cast-keys : goal.overflow_cast-keys
overflow_cast-keys c = omega (arith, keys-fit _ _ _ _ _ _ c.requires.1)

pub overflow_add-item-2 : goal.overflow_add-item-2
overflow_add-item-2 c = omega (arith, total-fits _ _ _ _ _ _ c.requires.1)

pub put_item-requires : goal.put_item-requires
put_item-requires c =
    let f = (size_fits _ _ _ _ _ _ c.requires.1 _ c.cell_size.ensures) in
    let i = total-fits _ _ _ _ _ _ c.requires.1 in
    record {
      descriptor_bound = (descriptor-fits _ _ _ _ _ _ c.requires.1, omega (arith, i));
      descriptor_in_bounds = omega (arith, f.1, f.2, c.cell_size.ensures);
    }

pub overflow_add-used-2 : goal.overflow_add-used-2
overflow_add-used-2 c = omega (arith, used-fits _ _ _ _ _ _ c.requires.1 _ c.cell_size.ensures)

pub put_free-requires : goal.put_free-requires
put_free-requires c =
    let z = c.next_multiple_of-size.ensures.value ∙ round (32 + c.args.total + c.cell_size.result) in
    let f = (size_fits _ _ _ _ _ _ c.requires.1 _ c.cell_size.ensures) in
    record {
      n_value = (rw z (left-whole _ _ _ _ _ _ c.requires.1 _ c.cell_size.ensures), omega (arith, f.0));
      n_in_bounds = omega (arith, f.1, f.2);
    }

pub returns : goal.returns
returns c =
    let z = c.next_multiple_of-size.ensures.value ∙ round (32 + c.args.total + c.cell_size.result) in
    λ f k. rw (
      c.put_free.ensures,
      c.put_item.ensures,
      (c.put_keys.ensures f _ (root-here _ _ _ _ _ _ k) (let r = keys-room _ _ _ _ _ _ k in record { low = r.low; inside = omega (arith, r.inside) })).bytes,
      c.put_header.ensures,
      c.put_base.ensures,
      z,
    )
    (hive-put _ _ _ _ _ _ k _ c.cell_size.ensures _ c.opening_at-stamp.ensures _)
