use Rattle.std.proofs.Common.{◌≡◌, None, rules, sym, ◌∙◌}
use Rattle.remnants.proofs.Spots.{going, going_on, going-over}
use Rattle.remnants.proofs.find.Goals as goal

pub loop-o-init : goal.loop-o-init
loop-o-init c = going-over _ _ _ (going _ _ _ c.requires c.skip.ensures) c.next_with-o.ensures

pub loop-o-preserved : goal.loop-o-preserved
loop-o-preserved c =
    let e : c.kind_at-kind.result ≡ None = search rules in
    going-over _ _ _ (going_on _ _ _ c.loop-o.invariant c.loop-o-test.true (sym c.kind_at-kind.ensures ∙ e)) c.next_with-o-in-loop-o.ensures
