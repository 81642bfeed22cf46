use Rattle.std.proofs.Common.{◌∙◌}
use Rattle.security_check.proofs.Answers.{map-restored, key-sought, seek-none, seek-at}
use Rattle.security_check.proofs.seek_off.Goals as goal

pub returns-in-None : goal.returns-in-None
returns-in-None c =
    let p = c.requires in
    let k = c.clear.ensures in
    let m = c.mark_ring.ensures in
    record {
      value = seek-none _ c.in-None.is (key-sought _ _ p.fact _ p.rung k m _ c.seek_key-s.ensures);
      map_unchanged = map-restored _ _ p.fact _ p.rung k m p.complete c.scan.ensures.value c.scan.ensures.map_after;
    }

pub returns-in-Some : goal.returns-in-Some
returns-in-Some c =
    let p = c.requires in
    let k = c.clear.ensures in
    let m = c.mark_ring.ensures in
    record {
      value = c.refused_at.ensures ∙ seek-at _ c.in-Some.is (key-sought _ _ p.fact _ p.rung k m _ c.seek_key-s.ensures);
      map_unchanged = map-restored _ _ p.fact _ p.rung k m p.complete c.scan.ensures.value c.scan.ensures.map_after;
    }
