use Rattle.std.proofs.Common.{get_or, sym, ◌∙◌, rules}
use Rattle.fields.specs.Faults.{nowhere}
use Rattle.records.specs.Terms.{leaves_named}
use Rattle.records.proofs.LawsPlaces.{named-length}
use Rattle.search.specs.Quick.{ask_leaf}
use Rattle.search.proofs.Asks.{asked-leaf, halves-start}
use Rattle.search.proofs.quick_leaves.Goals as goal

pub returns : goal.returns
returns c =
    let a = c.args in
    let os = leaves_named a.bins.now a.ls in
    c.by_halves.ensures (λ i. ask_leaf a.bins.now a.name.now (get_or os i nowhere)) (λ i t p q. search (rules, asked-leaf))
    ∙ sym (halves-start (ask_leaf a.bins.now a.name.now) nowhere os (named-length a.bins.now a.ls c.requires))
