use Prim.Native.Nat.{◌/◌}
use mathlib.Core.Path.{ap, ap₂, ◌∙◌}
use lib.ListN.{drop}
use Rattle.bitmap.specs.Bits.{bits_before}
use Rattle.log_entries.specs.declared.Chain.{Chain}
use Rattle.new_log.specs.Layout.{page_count}
use Rattle.new_log.proofs.Counts.{marks-counted}
use Rattle.new_log.proofs.mark.Goals as goal

pub returns : goal.returns
returns c =
    let at-write-marks = c in
    let s = at-write-marks in
    let l = s.args.log.now in
    let written = at-write-marks.write_marks.ensures in record {
      value = c.bits_before.ensures
          ∙ ap₂ bits_before written (ap (λ (k : Chain). k.largest / 512) s.requires.chain_value)
          ∙ marks-counted l s.requires.log_value (drop (page_count l / 8) s.args.map.now);
      map_after = written;
    }
