use Rattle.std.proofs.Common.{get_or, sym, ◌∙◌, rules}
use Rattle.records.specs.Terms.{elements_of, no_child}
use Rattle.records.proofs.LawsElements.{elements-length}
use Rattle.search.specs.Quick.{ask_key, quick_keys}
use Rattle.search.proofs.Asks.{asked-key, halves-start}
use Rattle.search.proofs.quick_keys.Goals as goal

pub returns : goal.returns
unfolding quick_keys
returns c =
    let a = c.args in
    let cs = elements_of a.bins.now a.leaf in
    c.by_halves.ensures (λ i. ask_key a.bins.now a.name.now (get_or cs i no_child)) (λ i t p q. search (rules, asked-key))
    ∙ sym (halves-start (ask_key a.bins.now a.name.now) no_child cs (elements-length a.bins.now a.leaf))
