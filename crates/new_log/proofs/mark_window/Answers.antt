use Rattle.log_versions.specs.Versions.{versions}
use Rattle.log_versions.specs.Terms.{rest}
use Rattle.new_log.specs.Windows.{always}
use Rattle.new_log.proofs.Windows.{Left, goes, ends}
use native.Mathlib.Omega.{arith}
use Prim.Native.Nat.{ℕ}
use mathlib.Core.List.{List}
use mathlib.Core.Path.{sym, subst}
use Rattle.new_log.proofs.mark_window.Goals as goal

pub loop-c-preserved : goal.loop-c-preserved
loop-c-preserved c =
    let at-put-page = c in
    let k = at-put-page in
    let s = k in
    let l = s.args.log.now in
    let m₀ = s.args.map.now in
    let v = k.loop-c.c in
    let d = c.next-c.result in (
      subst (λ (m : List ℕ). Left always s.args.base m₀ (versions l) m (rest l d)) (sym at-put-page.put_page.ensures)
          (goes always s.args.base m₀ (versions l) k.loop-c.map (rest l v) (record { page = v.page; place = v.place }) (rest l d) c.next-c.ensures.split k.loop-c.invariant.0),
      c.next-c.ensures.stands,
    )

pub returns : goal.returns
returns c =
    let k = c in
    let s = c in
    let l = s.args.log.now in
    ends always s.args.base s.args.map.now (versions l) k.loop-c.map (rest l k.loop-c.c) (k.loop-c.invariant.1.over (omega (arith, c.loop-c-test.false)))
    k.loop-c.invariant.0
