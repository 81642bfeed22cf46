use Rattle.std.proofs.Common.{take, drop}
use Rattle.std.proofs.lemmas.List.{length-take-le, take_at, drop_at}
use Rattle.sectors.proofs.store_closing.Goals as goal

pub returns : goal.returns
returns c =
    let x = take 512 c.args.log.now in
    let y = drop 512 c.args.hive.now in
    let n = length-take-le 512 c.args.log.now c.requires.in_bounds_2 in
    rw (c.make_closing.ensures, c.store.ensures, take_at x y 512 n, drop_at x y 512 n)
