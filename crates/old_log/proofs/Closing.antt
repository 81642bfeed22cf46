-- The closing sector of a log that passes its tests is a clean base block.
use Prim.Native.Nat.{ℕ}
use mathlib.Core.Path.{◌≡◌, ◌∙◌}
use mathlib.Core.Bool.{true}
use mathlib.Core.List.{List}
use lib.ListN.{length}
use lib.Seq.{length-take-le}
use Rattle.base.specs.Block.{sector, type_of, clean}
use Rattle.sectors.specs.Sector.{Bytes}
use Rattle.sectors.proofs.Closed as closed
use Rattle.sectors.proofs.Words.{take-bytes}
use Rattle.old_log.specs.Tests.{log_fault, closing_of}
use Rattle.old_log.proofs.Facts.{head_of, head-facts, log-base}
use Rattle.std.specs.Prelude.{Ok}

module _ (l : List ℕ) (e : log_fault l ≡ Ok tt) where
  pub closing-length : length (closing_of l) ≡ 512
  closing-length = closed.closing-length (sector l) ∙ length-take-le 512 l (head-facts l (head_of l e)).long

  pub closing-clean : Bytes l → clean (closing_of l) ≡ true
  closing-clean bytes =
      let f = head-facts l (head_of l e) in
      let u = log-base (sector l) f.base in
      closed.closing-clean (sector l) (length-take-le 512 l f.long) (take-bytes l bytes 512) (type_of (sector l)) u.0 u.1
