-- The traces are not empty: a repair that two power failures interrupt, in which page 0 lands twice and a store of page 15 is lost, ends in the
-- finished file. Hive and log are those of the figures.
use Prim.Native.Nat.{ℕ, zero, suc}
use native.Mathlib.Omega.{arith}
use mathlib.Core.Path.{◌≡◌, refl, sym, ap, ◌∙◌}
use mathlib.Core.Logic.{◌⊎◌, inl, inr}
use mathlib.Core.Bool.{Bool, true, false, ◌&&◌}
use mathlib.Core.List.Memᴰ
use mathlib.Core.List.{List, [], ◌∷◌}
use lib.Dec.{ltb, lit<}
use borrow.Author.Tests.{ltb-true}
use Rattle.fields.proofs.Bools.{and-inv}
use Rattle.sectors.specs.Sector.{sector_at, stored, page, Bytes}
use Rattle.logs.specs.Logs.{is_logged, logged}
use Rattle.logs.specs.Small.{head, log, hive}
use Rattle.logs.proofs.Small.{zero-logged, fifteen-logged, small-pages}
use Rattle.recovery.specs.declared.Started.TheVariants.{Pages}
use Rattle.recovery.specs.declared.Stepped.TheVariants.{Done}
use Rattle.recovery.specs.Calls.{start_answer, page_answer, page_hive, close_answer}
use Rattle.recovery.specs.Finished.{after_pages, AllIn}
use Rattle.recovery.proofs.Small.{small-accepted}
use Rattle.recovery.proofs.Within.{page-is, page-stays}
use Rattle.crash.specs.Trace.{Sent, send, land, Trace, Open, failures, landed_in, times}
use Rattle.crash.specs.Demand.{Landed}
use Rattle.crash.proofs.Demand3.{keeps, memory-within, land-in, land-keeps, until, running, may-seal, landed}
use Rattle.std.specs.Prelude.{Ok}

-- a list of bytes, by a test that computes
unfoldable pub are_bytes : List ℕ → Bool
are_bytes [] = true
are_bytes (x ∷ s) = ltb x 256 && are_bytes s

pub bytes_of : (s : List ℕ) → are_bytes s ≡ true → Bytes s
unfolding are_bytes
bytes_of [] e i = lit< tt
bytes_of (x ∷ s) e zero = ltb-true x 256 (and-inv (ltb x 256) (are_bytes s) e).0
bytes_of (x ∷ s) e (suc i) = bytes_of s (and-inv (ltb x 256) (are_bytes s) e).1 i

abbrev pub l : List ℕ
l = log 512

ok : start_answer hive l ≡ Ok (Pages 2)
ok = small-accepted

bytes : Bytes l
unfolding are_bytes log head
bytes = bytes_of l refl

-- ---- the trace

-- a trace whose closing call is done, and whose closing sector may be sent
pub record Cut (h l : List ℕ) : Type 0 where
  pub memory : List ℕ
  pub stores : List Sent
  pub disk : List ℕ
  pub trace : Open h l true memory stores [] disk
  pub failed : failures trace ≡ 2
  pub twice : times 0 (landed_in trace) ≡ 2
  pub all-landed : close_answer disk l ≡ Ok Done

cut : {h l m : List ℕ} {q : List Sent} {d : List ℕ} (o : Open h l true m q [] d) → failures o ≡ 2 → times 0 (landed_in o) ≡ 2 → close_answer d l ≡ Ok Done → Cut h l
cut {m = m} {q = q} {d = d} o a b c = record { memory = m; stores = q; disk = d; trace = o; failed = a; twice = b; all-landed = c }

-- a page call in a run is done where the page is logged
may-store : {m : List ℕ} {q : List Sent} {d : List ℕ} → Open hive l false m q [] d → (p : ℕ) → is_logged l p ≡ true → page_answer m l p ≡ Ok Done
unfolding after_pages
may-store o p e = (running hive l 2 ok bytes o).pages [] p e

-- a file with pages 0 and 15 in has every logged page in
both-in : (d : List ℕ) → page d 0 ≡ logged l 0 → page d 15 ≡ logged l 15 → AllIn d l
both-in d a b p m = go (small-pages p m)
  where
    go : (p ≡ 0) ⊎ (p ≡ 15) → page d p ≡ logged l p
    go (inl z) = ap (page d) z ∙ a ∙ sym (ap (logged l) z)
    go (inr z) = ap (page d) z ∙ b ∙ sym (ap (logged l) z)

-- a page call of a logged page, and its store once it has landed: that page is in, and a page that was in stays in
module _ {m : List ℕ} {q : List Sent} {d : List ℕ} (o : Open hive l false m q [] d) (p : ℕ) (e : is_logged l p ≡ true) where
  abbrev made : Sent
  made = send (page_hive m l p) p

  made_in : page (page_hive m l p) p ≡ logged l p
  made_in = page-is hive l 2 ok m (memory-within hive l 2 ok bytes o) p e

  now-in : page (land made d) p ≡ logged l p
  now-in = land-in hive l 2 ok bytes d (inl (keeps hive l 2 ok bytes o).disk) made e made_in

  made_other : (r : ℕ) → (r ≡ p → ⊥) → page (page_hive m l p) r ≡ page m r
  made_other r z = page-stays hive l 2 ok m (memory-within hive l 2 ok bytes o) p r z

  still-in : (r : ℕ) → page d r ≡ logged l r → page (land made d) r ≡ logged l r
  still-in r i = land-keeps hive l 2 ok bytes d (inl (keeps hive l 2 ok bytes o).disk) made e made_in r i

pub cut_twice : Cut hive l
unfolding failures landed_in times
cut_twice =
    let o₀ : Open hive l false hive [] [] hive = Trace.begin in
    let o₁ = Trace.stores 0 (may-store o₀ 0 zero-logged) o₀ in
    let o₂ = Trace.fails (Trace.lands _ (Memᴰ.head refl) o₁) in
    let o₃ = Trace.stores 0 (may-store o₂ 0 zero-logged) o₂ in
    let o₄ = Trace.stores 15 (may-store o₃ 15 fifteen-logged) o₃ in
    let o₅ = Trace.fails (Trace.lands _ (Memᴰ.tail (Memᴰ.head refl)) o₄) in
    let o₆ = Trace.stores 15 (may-store o₅ 15 fifteen-logged) o₅ in
    let o₇ = Trace.lands _ (Memᴰ.head refl) o₆ in
    let zero = now-in o₂ 0 zero-logged in
    let memory = both-in _ (made_other o₅ 15 fifteen-logged 0 (λ z. omega arith) ∙ zero) (made_in o₅ 15 fifteen-logged) in
    let disk = both-in _ (still-in o₅ 15 fifteen-logged 0 zero) (now-in o₅ 15 fifteen-logged) in
    cut (Trace.closes ((running hive l 2 ok bytes o₇).until.closes.1 memory) o₇) refl refl ((until hive l 2 ok bytes o₇).closes.1 disk)

-- Theorem 4.
pub ends : Landed hive l (stored cut_twice.disk 0 (sector_at cut_twice.memory 0))
ends =
    let o = Trace.seals (may-seal hive l 2 ok bytes cut_twice.trace cut_twice.all-landed) cut_twice.trace in
    landed hive l 2 ok bytes (Trace.shuts _ (Memᴰ.head refl) o)
