use native.Mathlib.Omega.{arith}
use mathlib.Core.Path.{sym, subst}
use mathlib.Core.List.{List}
use Prim.Native.Nat.{ℕ}
use Rattle.log_versions.specs.Versions.{versions}
use Rattle.log_versions.specs.Terms.{rest}
use Rattle.new_log.specs.Windows.{differs}
use Rattle.new_log.proofs.Windows.{Left, goes, ends}
use Rattle.new_log.proofs.differ_window.Goals as goal

pub loop-c-preserved : goal.loop-c-preserved
loop-c-preserved c =
    let at-put-differs = c in
    let k = at-put-differs in
    let s = k in
    let l = s.args.log.now in
    let says = differs s.args.hive.now l in
    let d = c.next-c.result in (
      subst (λ (m : List ℕ). Left says s.args.base s.args.map.now (versions l) m (rest l d)) (sym at-put-differs.put_differs.ensures)
          (goes says s.args.base s.args.map.now (versions l) k.loop-c.map (rest l k.loop-c.c)
          (record { page = k.loop-c.c.page; place = k.loop-c.c.place }) (rest l d)
          c.next-c.ensures.split
          k.loop-c.invariant.0),
      c.next-c.ensures.stands,
    )

pub returns : goal.returns
returns c =
    let k = c in
    let s = k in
    let l = s.args.log.now in
    ends (differs s.args.hive.now l) s.args.base s.args.map.now (versions l) k.loop-c.map (rest l k.loop-c.c)
    (k.loop-c.invariant.1.over (omega (arith, c.loop-c-test.false)))
    k.loop-c.invariant.0
