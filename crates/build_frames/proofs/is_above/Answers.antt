use Rattle.std.proofs.Common.{◌≡◌, refl}
use Rattle.std.specs.declared.cmp.Ordering.{Ordering}
use Rattle.std.specs.declared.cmp.Ordering.TheVariants.{Less, Equal, Greater}
use Rattle.std.specs.Ordering.{is_lt}
use Rattle.tree.specs.Tree.{is_before}
use Rattle.build_frames.specs.Terms.{name_in}
use Rattle.build_frames.proofs.is_above.Goals as goal

before : (o : Ordering) → is_lt o ≡ is_before o
before Less = refl
before Equal = refl
before Greater = refl

pub returns : goal.returns
unfolding name_in
returns c =
    let e = before c.compare_stored.result in
    rw (← c.part_of.ensures, ← c.part_of-2.ensures) (cc)
