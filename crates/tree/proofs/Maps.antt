-- The work map by the number of the refusal: "Refusals 1 to 8 leave the map untouched; 9 and 10 leave its first bins size / 64 bytes zero; later ones leave
-- it complete", and "bytes beyond bins size / 64 stay".
use Rattle.std.proofs.Common.{◌≡◌, ℕ, ◌/◌, ◌≤◌, List, length, take, drop, replicate, refl, ap, ◌∙◌, arith, length-drop, length-take, take_at, drop_at}
use lib.ListN.{length-replicate}
use Rattle.fields.specs.declared.Flaw.{Flaw}
use Rattle.fields.specs.declared.Refusal.{Refusal}
use Rattle.fields.specs.Faults.{number_of, no_key, refusal_of, Verdict}
use Rattle.base.specs.Block.{sector, bins_of, bins_data}
use Rattle.base.proofs.Laws.{base-facts}
use Rattle.cells.specs.declared.Tally.{Tally}
use Rattle.cells.specs.Tiling.{layout, survey_of}
use Rattle.bitmap.specs.Bits.{zeros}
use Rattle.cells.specs.Map.{map_after}
use Rattle.cells.specs.Survey.{front_fault, survey_answer, map_left}
use Rattle.cells.specs.Tiled.{Mapped}
use Rattle.cells.proofs.Fronts.{front-facts, survey-front, survey-on}
use Rattle.cells.proofs.Cleared.{beyond}
use Rattle.cells.proofs.Mapped.{surveyed}
use Rattle.cells.proofs.Refusals.{front-number, bins-refuse, bins-number}
use Rattle.tree.specs.declared.Report.{Report}
use Rattle.tree.specs.Tree.{on_tiled, check_answer}
use Rattle.tree.specs.Told.{map_bytes}
use Rattle.tree.proofs.Tells.{walk-number}
use Rattle.std.specs.Prelude.{Err, Ok, Result}

module _ (h m : List ℕ) where
  -- the three kinds of answers
  data Ended : Result Report Refusal → Type 0 where
    early : {f : Flaw} → front_fault h (length m) ≡ Err f → Ended (Err (refusal_of no_key f))
    untiled : {f : Flaw} → front_fault h (length m) ≡ Ok tt → survey_of (layout (bins_data h) 0) 0 0 0 ≡ Err f → Ended (Err (refusal_of no_key f))
    walked : {t : Tally} {a : Result Report Refusal} → survey_answer h (length m) ≡ Ok t → ((r : Refusal) → a ≡ Err r → 11 ≤ number_of r.fault) → Ended a

  ended : Ended (check_answer h m)
  unfolding check_answer
  ended = by (front_fault h (length m)) refl
    where
      on : front_fault h (length m) ≡ Ok tt → (s : Result Tally Flaw) → survey_of (layout (bins_data h) 0) 0 0 0 ≡ s → Ended (on_tiled h m (survey_answer h (length m)))
      on p (Err f) q = rw ((survey-on h m (bins_data h) _ p refl refl).0 ∙ q) (untiled p q)
      on p (Ok t) q =
          let e = (survey-on h m (bins_data h) _ p refl refl).0 ∙ q in
          walked {a = on_tiled h m (survey_answer h (length m))} e (λ r x. walk-number h m e (rw e at x))

      by : (v : Verdict) → front_fault h (length m) ≡ v → Ended (on_tiled h m (survey_answer h (length m)))
      by (Ok tt) p = on p _ refl
      by (Err f) p = rw (survey-front h m p).0 (early p)

  bins-length : front_fault h (length m) ≡ Ok tt → length (bins_data h) ≡ bins_of (sector h)
  bins-length p = let b = base-facts h (front-facts h (length m) p).0 in simp (length-take, length-drop) (omega (arith, b.inside))

  -- the map itself, after each kind
  zeroed : {f : Flaw} → front_fault h (length m) ≡ Ok tt → survey_of (layout (bins_data h) 0) 0 0 0 ≡ Err f → map_left h m ≡ zeros (map_bytes h) m
  unfolding map_after
  zeroed e p = (survey-on h m (bins_data h) _ e refl refl).1 ∙ rw (p, bins-length e)

  zeros-beyond : (n : ℕ) → drop n (zeros n m) ≡ drop n m
  unfolding zeros
  zeros-beyond n = drop_at (replicate n 0) (drop n m) n (length-replicate n 0)

  zeros-front : (n : ℕ) → take n (zeros n m) ≡ replicate n 0
  unfolding zeros
  zeros-front n = take_at (replicate n 0) (drop n m) n (length-replicate n 0)

  walked-beyond : {t : Tally} → survey_answer h (length m) ≡ Ok t → drop (map_bytes h) (map_left h m) ≡ drop (map_bytes h) m
  unfolding map_after
  walked-beyond {t} e =
      let s = surveyed h m t e in
      let b = base-facts h (front-facts h (length m) s.0).0 in
      let n = bins-length s.0 in
      let p = (survey-on h m (bins_data h) _ s.0 refl refl).1 in
      rw (← n)
      (ap (drop (length (bins_data h) / 64)) (p ∙ rw s.1.counts)
      ∙ beyond (length (bins_data h) / 64) (bins_data h) (zeros (length (bins_data h) / 64) m) (omega (arith, b.size.pages))
      ∙ zeros-beyond (length (bins_data h) / 64))

  -- 1 to 8
  pub map-untouched : {r : Refusal} → check_answer h m ≡ Err r → number_of r.fault ≤ 8 → map_left h m ≡ m
  map-untouched {r} e le = by ended e
    where
      by : {a : Result Report Refusal} → Ended a → a ≡ Err r → map_left h m ≡ m
      by (early p) q = (survey-front h m p).1
      by (untiled {f} p s) q =
          let z : refusal_of no_key f ≡ r = cc in
          let n = bins-number (bins_data h) (bins-refuse (bins_data h) s) in
          absurd (let w : number_of f.fault ≤ 8 = rw (← z) at le in omega (arith, n.0))
      by (walked p n) q = absurd (let w = n r q in omega arith)

  -- 9 and 10
  pub map-zero : {r : Refusal} → check_answer h m ≡ Err r → 9 ≤ number_of r.fault → number_of r.fault ≤ 10
      → take (map_bytes h) (map_left h m) ≡ replicate (map_bytes h) 0
  map-zero {r} e low high = by ended e
    where
      by : {a : Result Report Refusal} → Ended a → a ≡ Err r → take (map_bytes h) (map_left h m) ≡ replicate (map_bytes h) 0
      by (early {f} p) q =
          let z : refusal_of no_key f ≡ r = cc in
          let n = front-number h (length m) p in
          absurd (let w : 9 ≤ number_of f.fault = rw (← z) at low in omega arith)
      by (untiled p s) q = ap (take (map_bytes h)) (zeroed p s) ∙ zeros-front (map_bytes h)
      by (walked p n) q = absurd (let w = n r q in omega arith)

  -- a later number, and "accepted"
  pub map-complete : {r : Refusal} → check_answer h m ≡ Err r → 11 ≤ number_of r.fault → Mapped (bins_data h) (map_left h m)
  map-complete {r} e low = by ended e
    where
      by : {a : Result Report Refusal} → Ended a → a ≡ Err r → Mapped (bins_data h) (map_left h m)
      by (early {f} p) q =
          let z : refusal_of no_key f ≡ r = cc in
          let n = front-number h (length m) p in
          absurd (let w : 11 ≤ number_of f.fault = rw (← z) at low in omega arith)
      by (untiled {f} p s) q =
          let z : refusal_of no_key f ≡ r = cc in
          let n = bins-number (bins_data h) (bins-refuse (bins_data h) s) in
          absurd (let w : 11 ≤ number_of f.fault = rw (← z) at low in omega (arith, n.1))
      by (walked {t} p n) q = (surveyed h m t p).1.mapped

  pub map-accepted : {x : Report} → check_answer h m ≡ Ok x → Mapped (bins_data h) (map_left h m)
  map-accepted {x} e = by ended e
    where
      by : {a : Result Report Refusal} → Ended a → a ≡ Ok x → Mapped (bins_data h) (map_left h m)
      by (early p) q = absurd (let z : ◌≡◌ {A = ℕ} 0 1 = cc in omega arith)
      by (untiled p s) q = absurd (let z : ◌≡◌ {A = ℕ} 0 1 = cc in omega arith)
      by (walked {t} p n) q = (surveyed h m t p).1.mapped

  -- the bytes beyond, always
  pub map-beyond : drop (map_bytes h) (map_left h m) ≡ drop (map_bytes h) m
  map-beyond = by ended
    where
      by : {a : Result Report Refusal} → Ended a → drop (map_bytes h) (map_left h m) ≡ drop (map_bytes h) m
      by (early p) = ap (drop (map_bytes h)) (survey-front h m p).1
      by (untiled p s) = ap (drop (map_bytes h)) (zeroed p s) ∙ zeros-beyond (map_bytes h)
      by (walked p n) = walked-beyond p
