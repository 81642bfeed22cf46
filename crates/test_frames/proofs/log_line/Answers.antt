use Rattle.std.specs.Prelude.{Ok}
use mathlib.Core.Path.{◌∙◌, sym, ap}
use mathlib.Core.List.{List}
use Prim.Native.Nat.{ℕ}
use Rattle.recovery.proofs.AtOnce.{at_once}
use Rattle.recovery.specs.Calls.{close_hive}
use Rattle.test_frames.proofs.Holds.{repaired-by}
use Rattle.test_frames.proofs.log_line.Goals as goal

pub returns-in-Ok-Clean-clause-hive_after : goal.returns-in-Ok-Clean-clause-hive_after
returns-in-Ok-Clean-clause-hive_after c = sym (repaired-by _ _ _ (sym c.start.ensures ∙ c.in-Ok-Clean.is ∙ ap Ok c.in-Ok-Clean.field-0-is))

pub returns-in-Err-clause-hive_after : goal.returns-in-Err-clause-hive_after
returns-in-Err-clause-hive_after c = sym (repaired-by _ _ _ (sym c.start.ensures ∙ c.in-Err.is))

pub returns-in-Ok-Pages-clause-hive_after : goal.returns-in-Ok-Pages-clause-hive_after
returns-in-Ok-Pages-clause-hive_after c =
    let l = c.args.log.now in
    let e = sym c.start.ensures ∙ c.in-Ok-Pages.is ∙ ap Ok c.in-Ok-Pages.field-0-is in
    c.close.ensures.hive_after
    ∙ ap (λ (d : List ℕ). close_hive d l) c.all_pages.ensures.hive_after
    ∙ at_once _ _ _ e
    ∙ sym (repaired-by _ _ _ e)
