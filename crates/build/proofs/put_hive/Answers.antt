use mathlib.Core.Path.{refl}
use Rattle.forest.specs.Parse.{forest_in}
use Rattle.build.proofs.Calls.{planned, hive-put}
use Rattle.build.proofs.put_hive.Goals as goal

pub returns : goal.returns
returns c =
    let a = c.args in
    let x = c.requires in
    let s = a.stream.now in
    let sd = a.descriptor.now in
    hive-put s sd x a.out.now refl (c.put_hive.ensures (forest_in s) (planned s sd x))
