use Rattle.listing.proofs.Members.{leaf_room}
use Rattle.records.proofs.LawsPlaces.{named-length, named-at}
use mathlib.Core.Path.{sym, ◌∙◌}
use native.Mathlib.Omega.{arith}
use Rattle.listing.proofs.nth_in.Goals as goal

pub child_of-requires : goal.child_of-requires
child_of-requires c =
    let l = c.loop-j in (
      c.if-left-leaf.true,
      leaf_room _ _ _ l.j l.left l.invariant _ (omega (arith, named-length c.args.bins.now c.args.ls c.requires))
          (c.leaf_offset-o.ensures ∙ named-at _ _ c.requires _ (omega arith))
          (sym c.leaf_at.ensures ∙ c.in_ok-leaf.was),
    )
