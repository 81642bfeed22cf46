use native.Mathlib.Omega.{arith}
use mathlib.Core.Path.{refl}
use Rattle.build_measure.proofs.Rows.{passed-few}
use Rattle.build_measure.proofs.Sums.{list-few, cap-on}
use Rattle.build_measure.proofs.begin_key.Goals as goal

pub overflow_add-r : goal.overflow_add-r
overflow_add-r c =
    let x = c.requires.passed in
    let l = c.list_size.result in
    omega (arith, x.room, x.inside, passed-few x, c.list_size.ensures, list-few c.args.r.count)

pub returns : goal.returns
returns c = record {
  place = refl;
  size_is = cap-on _ _ c.requires.passed.size_is c.list_size.ensures c.capped.ensures;
  keys = refl;
  subkeys = refl;
  elder = omega arith;
}
