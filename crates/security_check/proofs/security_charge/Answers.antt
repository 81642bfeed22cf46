use Rattle.std.proofs.Common.{◌≡◌, ℕ, Ok, Err, Result, MatchResult, rules, sym, ◌∙◌, arith}
use Rattle.fields.specs.declared.Flaw.{Flaw}
use Rattle.fields.specs.declared.Offset.{Offset}
use Rattle.fields.specs.declared.Refusal.{Refusal}
use Rattle.fields.specs.Faults.{refusal_of, Verdict}
use Rattle.security_check.specs.Terms.{summed}
use Rattle.security_check.proofs.Answers.{ring-flawed, ring-summed, no_item, at-fault, by-keys, all-on}
use Rattle.security_check.proofs.security_charge.Goals as goal

pub returns-then-not-is_item-clause-value : goal.returns-then-not-is_item-clause-value
returns-then-not-is_item-clause-value c = c.refused_at.ensures ∙ no_item _ _ _ _ c.security_of-first.ensures (sym c.is_item.ensures ∙ c.if-not-is_item.true)

-- what is refused with a key was a flaw of the ring
keyed : (key : Offset) (v : Verdict) (n : ℕ) (a : Result ℕ Flaw) {b : Result ℕ Refusal} {r : Refusal} → a ≡ summed v n
    → MatchResult a (λ n. b ≡ Ok n) (λ f. b ≡ Err (refusal_of key f)) → b ≡ Err r → (f : Flaw) × (v ≡ Err f) × (r ≡ refusal_of key f)
keyed key v n (Ok s) q h e = absurd (let z : ◌≡◌ {A = ℕ} 0 1 = cc in omega arith)
keyed key v n (Err f) q h e = (f, ring-flawed v n q, cc)

pub returns-in_err-n-clause-value : goal.returns-in_err-n-clause-value
returns-in_err-n-clause-value c =
    let i = sym c.is_item.ensures ∙ c.if-not-is_item.false in
    let h : MatchResult c.ring_sum.result (λ n. c.map_err.result ≡ Ok n) (λ f. c.map_err.result ≡ Err (refusal_of c.args.root f)) = search rules in
    let k = keyed c.args.root _ _ _ c.ring_sum.ensures h c.in_err-n.was in
    let a = at-fault _ _ _ _ c.security_of-first.ensures i {f = k.0} k.1 k.2 in
    search rules

pub returns-then-n-keys-clause-value : goal.returns-then-n-keys-clause-value
returns-then-n-keys-clause-value c =
    let p = c.requires in
    let i = sym c.is_item.ensures ∙ c.if-not-is_item.false in
    let t : c.ring_sum.result ≡ Ok c.in_ok-n.n = search rules in
    let s = ring-summed _ _ (rw t at c.ring_sum.ensures) in
    all-on _ _ _ _ c.security_of-first.ensures i s.0 (rw (← p.total) p.few) p.total s.1 c.if-n-keys.true

pub returns-clause-value : goal.returns-clause-value
returns-clause-value c =
    let i = sym c.is_item.ensures ∙ c.if-not-is_item.false in
    let t : c.ring_sum.result ≡ Ok c.in_ok-n.n = search rules in
    let s = ring-summed _ _ (rw t at c.ring_sum.ensures) in
    c.seek_off.ensures.value ∙ by-keys _ _ _ _ c.security_of-first.ensures i s.0
