-- A hive whose sequence numbers were made equal: when that is done, why it is refused, and what it is worth.
use Prim.Native.Nat.{ℕ, ◌+◌, ◌≤◌, ◌<◌}
use native.Mathlib.Decide.{dec_lt}
use native.Mathlib.Omega.{arith}
use mathlib.Core.Path.{◌≡◌, refl, sym, ap, ◌∙◌}
use mathlib.Core.Logic.{◌↔◌, ◌⊎◌, inr}
use mathlib.Core.Bool.{Bool, true, false, cond}
use mathlib.Core.List.{List}
use lib.Dec.{eqb, leb}
use lib.ListN.{length, drop, get_or, get_or-append}
use lib.Seq.{get_or-take, get_or-drop}
use borrow.Author.Tests.{eq-eqb, ne_eqb, eqb-true, eqb-false, leb-true}
use Rattle.fields.specs.declared.Flaw.{Flaw}
use Rattle.fields.specs.declared.Refusal.{Refusal}
use Rattle.fields.specs.declared.Fault.TheVariants.{HiveShort, NoRegf, Checksum, Version, BinsSize, BinsCut, Sequences}
use Rattle.fields.specs.Faults.{number_of, flaw, nowhere, no_key, refusal_of, Keyless, unless, is_sound, Verdict}
use Rattle.fields.proofs.Firsts.{held}
use Rattle.fields.proofs.Bools.{never}
use Rattle.fields.proofs.Every.{Every, every-next, every-unless}
use Rattle.base.specs.Block.{sector, is_regf, is_summed, is_version, bins_of, is_bins_size, usable, is_settled, clean, block_fault, base_fault}
use Rattle.base.proofs.Laws.{base-facts, facts-base}
use Rattle.base.proofs.Refusals.{base-refuses, base-number}
use Rattle.sectors.specs.Sector.{Bytes, stored}
use Rattle.sectors.specs.Settling.{settled_sector}
use Rattle.sectors.proofs.Stored.{sector-length, stored-length, stored_same, stored-drop}
use Rattle.sectors.proofs.Words.{take-bytes}
use Rattle.sectors.proofs.Settles.{settled-length, settled-u32, settled-apart, settled-clean}
use Rattle.recovery.specs.declared.Stepped.TheVariants.{Clean, Done}
use Rattle.recovery.specs.Calls.{changed}
use Rattle.recovery.specs.Settling.{settled_by, settle_answer, settle_hive, OfSettle, of-base, is_refused, Settles}
use Rattle.recovery.specs.declared.Stepped.{Stepped}
use Rattle.std.specs.Prelude.{Err, Ok, Result}

-- ---- where 7 answers, 1 to 6 have passed

pub record Torn (h : List ℕ) : Type 0 where
  pub is-usable : usable (sector h) 0 ≡ true
  pub inside : 4096 + bins_of (sector h) ≤ length h

module _ (h : List ℕ) where
  -- a flaw of that number says so
  abbrev Seven : Flaw → Type 0
  Seven f = number_of f.fault ≡ 7 → Torn h

  another : (t : Bool) (f : Flaw) → (number_of f.fault ≡ 7 → ⊥) → Every Seven (unless t f)
  another t f n = every-unless Seven t f (λ e m. absurd (n m))

  block-seven : Every Seven (block_fault (sector h) 0)
  unfolding block_fault
  block-seven =
      every-next Seven (unless (is_regf (sector h)) (flaw NoRegf nowhere)) _ (another (is_regf (sector h)) (flaw NoRegf nowhere) (λ m. omega arith)) (λ a.
      every-next Seven (unless (is_summed (sector h)) (flaw Checksum nowhere)) _ (another (is_summed (sector h)) (flaw Checksum nowhere) (λ m. omega arith)) (λ b.
      every-next Seven (unless (is_version (sector h) 0) (flaw Version nowhere)) _ (another (is_version (sector h) 0) (flaw Version nowhere) (λ m. omega arith)) (λ c.
      another (is_bins_size (bins_of (sector h))) (flaw BinsSize nowhere) (λ m. omega arith))))

  pub torn : (f : Flaw) → base_fault h ≡ Err f → number_of f.fault ≡ 7 → Torn h
  unfolding base_fault usable
  torn =
      let inside = leb (4096 + bins_of (sector h)) (length h) in
      every-next Seven (unless (leb 4096 (length h)) (flaw HiveShort nowhere)) _ (another (leb 4096 (length h)) (flaw HiveShort nowhere) (λ m. omega arith)) (λ a.
      every-next Seven (block_fault (sector h) 0) _ block-seven (λ b.
      every-next Seven (unless inside (flaw BinsCut nowhere)) _ (another inside (flaw BinsCut nowhere) (λ m. omega arith)) (λ c.
      every-unless Seven (is_settled (sector h)) (flaw Sequences nowhere) (λ e m.
      record { is-usable = ap is_sound b; inside = leb-true _ _ (held inside (flaw BinsCut nowhere) c) }))))

  -- so its first sector is all there
  pub torn_long : (f : Flaw) → base_fault h ≡ Err f → f.fault ≡ Sequences → 512 ≤ length h
  torn_long f e q = let t = torn f e (ap number_of q) in omega (arith, t.inside)

-- ---- the hive

module _ (h : List ℕ) (bytes : Bytes h) (t : Torn h) where
  long : 512 ≤ length h
  long = omega (arith, t.inside)

  abbrev new : List ℕ
  new = settled_sector (sector h)

  new-length : length new ≡ 512
  new-length = settled-length (sector h) ∙ sector-length h 0 long

  abbrev done : List ℕ
  done = stored h 0 new

  done-length : length done ≡ length h
  done-length = stored-length h 0 new new-length long

  done-sector : sector done ≡ new
  done-sector = stored_same h 0 new new-length long

  done-clean : clean (sector done) ≡ true
  done-clean = ap clean done-sector ∙ settled-clean (sector h) (sector-length h 0 long) (take-bytes h bytes 512) t.is-usable

  done-sound : base_fault done ≡ Ok tt
  done-sound =
      let bins : bins_of (sector done) ≡ bins_of (sector h) =
      ap bins_of done-sector ∙ settled-u32 (sector h) 40 (inr (omega arith)) (omega arith) in
      facts-base done done-clean (omega (arith, t.inside, done-length))

  done-apart : (i : ℕ) → (i < 8) ⊎ (12 ≤ i) → (i < 508) ⊎ (512 ≤ i) → get_or done i 0 ≡ get_or h i 0
  done-apart i a b = by (dec_lt i 512)
    where
      by : Dec (i < 512) → get_or done i 0 ≡ get_or h i 0
      by (yes g) =
          get_or-append new (drop 512 h) 0 i (omega (arith, new-length)) ∙ settled-apart (sector h) i a b ∙ get_or-take 512 h i 0 g
      by (no g) =
          let z : i + 0 ≡ i = omega arith in
          sym (ap (λ (k : ℕ). get_or done k 0) z) ∙ sym (get_or-drop i done 0 0)
          ∙ ap (λ (l : List ℕ). get_or l 0 0) (stored-drop h 0 new new-length long i (omega arith)) ∙ get_or-drop i h 0 0 ∙ ap (λ (k : ℕ). get_or h k 0) z

-- ---- the answers

-- what holds where it answers so
data Met (h : List ℕ) : Result Stepped Refusal → Type 0 where
  met-clean : base_fault h ≡ Ok tt → Met h (Ok Clean)
  met-torn : Torn h → Met h (Ok Done)
  met-flaw : (f : Flaw) → base_fault h ≡ Err f → number_of f.fault ≤ 6 → Met h (Err (refusal_of no_key f))

module _ (h : List ℕ) where
  pub answer-clean : base_fault h ≡ Ok tt → settle_answer h ≡ Ok Clean
  unfolding settle_answer
  answer-clean e = ap settled_by e

  module _ (f : Flaw) (e : base_fault h ≡ Err f) where
    abbrev by_number : Bool → Result Stepped Refusal
    by_number t = cond t (Ok Done) (Err (refusal_of no_key f))

    pub answer-seven : number_of f.fault ≡ 7 → settle_answer h ≡ Ok Done
    unfolding settle_answer
    answer-seven n = ap settled_by e ∙ ap by_number (eq-eqb (number_of f.fault) 7 n)

    pub answer-other : (number_of f.fault ≡ 7 → ⊥) → settle_answer h ≡ Err (refusal_of no_key f)
    unfolding settle_answer
    answer-other n = ap settled_by e ∙ ap by_number (ne_eqb (number_of f.fault) 7 n)

  meets : Met h (settle_answer h)
  unfolding settle_answer
  meets = by (base_fault h) refl
    where
      pick : (f : Flaw) → base_fault h ≡ Err f → (t : Bool) → eqb (number_of f.fault) 7 ≡ t → Met h (cond t (Ok Done) (Err (refusal_of no_key f)))
      pick f p true q = met-torn (torn h f p (eqb-true _ _ q))
      pick f p false q = met-flaw f p (omega (arith, base-number h (base-refuses h f p), eqb-false (number_of f.fault) 7 q))

      by : (v : Verdict) → base_fault h ≡ v → Met h (settled_by v)
      by (Ok tt) p = met-clean p
      by (Err f) p = pick f p (eqb (number_of f.fault) 7) refl

  -- the hive afterwards, by the answer
  pub after : {a : Result Stepped Refusal} → settle_answer h ≡ a → settle_hive h ≡ changed a (stored h 0 (settled_sector (sector h))) h
  unfolding settle_hive
  after e = ap (λ (a : Result Stepped Refusal). changed a (stored h 0 (settled_sector (sector h))) h) e

  pub settle-stays : {r : Refusal} → settle_answer h ≡ Err r → settle_hive h ≡ h
  settle-stays e = after e

  pub settle-refuses : {r : Refusal} → settle_answer h ≡ Err r → Keyless (OfSettle h) r
  settle-refuses {r} e = by (settle_answer h) e meets
    where
      by : (a : Result Stepped Refusal) → a ≡ Err r → Met h a → Keyless (OfSettle h) r
      by (Ok Clean) q m = absurd (let z : ◌≡◌ {A = ℕ} 0 1 = cc in omega arith)
      by (Ok Done) q m = absurd (let z : ◌≡◌ {A = ℕ} 0 1 = cc in omega arith)
      by (Err x) q (met-flaw f p n) = (f, let z : refusal_of no_key f ≡ r = cc in sym z, of-base (base-refuses h f p) n)

  pub settles : Bytes h → Settles h
  settles b = by (settle_answer h) refl meets
    where
      whole : ((base_fault (settle_hive h) ≡ Ok tt) ↔ (is_refused (settle_answer h) ≡ false)) → length (settle_hive h) ≡ length h
          → ((i : ℕ) → (i < 8) ⊎ (12 ≤ i) → (i < 508) ⊎ (512 ≤ i) → get_or (settle_hive h) i 0 ≡ get_or h i 0) → Settles h
      whole r l a = record { reads = r; is-clean = λ q. (base-facts (settle_hive h) (r.1 q)).is-clean; as_long = l; apart = a }

      same : settle_hive h ≡ h → ((base_fault h ≡ Ok tt) ↔ (is_refused (settle_answer h) ≡ false)) → Settles h
      same k r =
          whole (λ p. r.0 (sym (ap base_fault k) ∙ p), λ q. ap base_fault k ∙ r.1 q) (ap length k) (λ i x y. ap (λ (l : List ℕ). get_or l i 0) k)

      by : (a : Result Stepped Refusal) → settle_answer h ≡ a → Met h a → Settles h
      by (Ok Clean) e (met-clean p) = same (after e) (λ q. ap is_refused e, λ q. p)
      by (Err x) e (met-flaw f p n) =
          same (after e) (λ q. absurd (let z : ◌≡◌ {A = ℕ} 0 1 = cc in omega arith), λ q. absurd (never _ (ap is_refused e) q))
      by (Ok Done) e (met-torn t) =
          let k : settle_hive h ≡ done h b t = after e in
          whole (λ q. ap is_refused e, λ q. ap base_fault k ∙ done-sound h b t) (ap length k ∙ done-length h b t)
          (λ i x y. ap (λ (l : List ℕ). get_or l i 0) k ∙ done-apart h b t i x y)
