use Rattle.std.proofs.Common.{◌≡◌, length, arith}
use Rattle.std.proofs.lemmas.Grind.{common_steps}
use Rattle.paths.proofs.Passes.{path_empty, passed-short, passed-end, cut_short, cut_on, unit-long, unit-on}
use Rattle.paths.proofs.is_path.Goals.{then-u-eq-BACKSLASH+else-units-eq0, else-u-eq-BACKSLASH+else-units-eq255}
use Rattle.paths.proofs.is_path.Goals as goal

pub returns-then-is_empty : goal.returns-then-is_empty
returns-then-is_empty c = let e : length c.args.path.now ≡ 0 = grind (arith, common_steps) in path_empty _ e

pub returns-then-units-eq0 : goal.returns-then-units-eq0
returns-then-units-eq0 c =
    let n : length c.args.path.now ≡ 0 → ⊥ = λ e. grind (arith, common_steps) in
    cut_short _ _ _ _ c.loop-u.invariant c.loop-u-test.true c.if-u-eq-BACKSLASH.true n c.if-units-eq0.true

pub returns-then-units-eq255 : goal.returns-then-units-eq255
returns-then-units-eq255 c =
    let n : length c.args.path.now ≡ 0 → ⊥ = λ e. grind (arith, common_steps) in
    unit-long _ _ _ _ c.loop-u.invariant c.loop-u-test.true c.if-u-eq-BACKSLASH.false n c.if-units-eq255.true

pub loop-u-preserved : goal.loop-u-preserved
loop-u-preserved c = let l = c.loop-u in let m = c.loop-u-test.true in
    elim c.if-u-eq-BACKSLASH.branch [
      | then-u-eq-BACKSLASH+else-units-eq0 w ↦ rw (w.units-is, w.cuts-is) (cut_on _ _ _ _ l.invariant m w.if-u-eq-BACKSLASH.true w.if-units-eq0.false)
      | else-u-eq-BACKSLASH+else-units-eq255 w ↦ rw (w.units-is, w.cuts-is) (unit-on _ _ _ _ l.invariant m w.if-u-eq-BACKSLASH.false w.if-units-eq255.false)
    ]

pub returns-then-units-ne0 : goal.returns-then-units-ne0
returns-then-units-ne0 c =
    let n : length c.args.path.now ≡ 0 → ⊥ = λ e. grind (arith, common_steps) in
    passed-end _ _ _ _ c.loop-u.invariant n c.loop-u-test.false c.if-units-ne0.true

pub returns-else-units-ne0 : goal.returns-else-units-ne0
returns-else-units-ne0 c =
    let n : length c.args.path.now ≡ 0 → ⊥ = λ e. grind (arith, common_steps) in
    rw c.if-units-ne0.false (passed-short _ _ _ _ c.loop-u.invariant n c.loop-u-test.false c.if-units-ne0.false)
