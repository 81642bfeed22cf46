-- Every refusal of a new-format log by itself says why.
use Prim.Native.Nat.{ℕ}
use mathlib.Core.Path.{sym, ◌∙◌}
use mathlib.Core.Bool.{not}
use mathlib.Core.List.{List}
use lib.Dec.{leb}
use lib.ListN.{length}
use borrow.Author.Tests.{leb-true, leb-false}
use Rattle.fields.specs.declared.Fault.TheVariants as named
use Rattle.fields.specs.Faults.{flaw, nowhere, unless}
use Rattle.fields.proofs.Firsts.{held}
use Rattle.fields.proofs.Every.{Every, every-unless, every-next}
use Rattle.base.specs.Block.{sector}
use Rattle.log_entries.specs.Entries.{counted}
use Rattle.new_log.specs.Tests.{is_empty, is_log_base, log_fault}
use Rattle.new_log.specs.Refused.{OfLog, log-short, no-log-base, no-entry}
use Rattle.new_log.proofs.Entry.{some-entry}

pub log-refuses : (l : List ℕ) → Every (OfLog l) (log_fault l)
unfolding log_fault
log-refuses l =
    every-next (OfLog l) (unless (leb 512 (length l)) (flaw named.LogBase nowhere)) _
    (every-unless (OfLog l) (leb 512 (length l)) _ (λ e. log-short (leb-false _ _ e)))
    (λ a. every-next (OfLog l) (unless (is_log_base (sector l)) (flaw named.LogBase nowhere)) _
    (every-unless (OfLog l) (is_log_base (sector l)) _ (λ e. no-log-base e))
    (λ b. every-unless (OfLog l) (not (is_empty (counted l))) _
    (λ e. no-entry (sym (some-entry l (leb-true _ _ (held (leb 512 (length l)) (flaw named.LogBase nowhere) a))) ∙ e))))
