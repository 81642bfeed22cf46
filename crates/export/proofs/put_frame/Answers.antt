use native.Mathlib.Omega.{arith}
use Rattle.stream.proofs.Puts.{close-length}
use Rattle.export.proofs.put_frame.Goals as goal

pub put_close-requires : goal.put_close-requires
put_close-requires c =
    let p = rw c.in-Closing.is at c.requires.what_in_bounds in
    omega (arith, close-length)
