-- A key's tests one after the other, and its charge: a law for each way out of them.
use Rattle.std.proofs.Common.{◌≡◌, ℕ, List}
use Rattle.fields.specs.declared.Flaw.{Flaw}
use Rattle.fields.specs.Faults.{refusal_of}
use Rattle.fields.specs.Charges.{Free, Of, ◌after◌}
use Rattle.fields.proofs.Firsts.{on, stop}
use Rattle.cells.specs.Rule.{Map}
use Rattle.records.specs.declared.Child.{Child}
use Rattle.records.specs.Keys.{key_of, key_fault}
use Rattle.records.proofs.LawsAnswer.{keyed-whole, keyed-flawed}
use Rattle.records.proofs.LawsKey.{name-room}
use Rattle.tree.specs.declared.Hive.{Hive}
use Rattle.tree.specs.declared.Arrival.{Arrival}
use Rattle.tree.specs.Tree.{own_fault, key_charge, holder}
use Rattle.std.specs.Prelude.{Err, Ok}

-- a test, and what follows it
pub ruleset firsts = (on, stop)

module _ (d m : List ℕ) (hive : Hive) (n : ℕ) (c : Child) (l : Arrival) where
  pub charged-record : {f : Flaw} → key_fault Map d m c.at ≡ Err f → key_charge d m hive n c l ≡ Of (refusal_of (holder l) f)
  unfolding key_charge ◌after◌
  charged-record e = rw e

  pub charged-own : {f : Flaw} → key_fault Map d m c.at ≡ Ok tt → own_fault d m hive n (key_of d c.at) c l ≡ Err f
      → key_charge d m hive n c l ≡ Of (refusal_of c.at f)
  unfolding key_charge ◌after◌
  charged-own e q = rw (e, q)

  pub charged-none : key_fault Map d m c.at ≡ Ok tt → own_fault d m hive n (key_of d c.at) c l ≡ Ok tt → key_charge d m hive n c l ≡ Free
  unfolding key_charge ◌after◌
  charged-none e q = rw (e, q)

-- the ways of `tested_key`
pub ruleset charged = (keyed-whole, keyed-flawed, name-room, charged-record, charged-own, charged-none)
