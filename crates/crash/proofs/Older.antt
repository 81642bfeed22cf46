-- A repair that finds an older version of a page on the disk: the closing call says 27, and the repair ends in the finished file all the same. Hive and log are
-- the small ones, whose log has two versions of page 1.
use Prim.Native.Nat.{ℕ}
use native.Mathlib.Omega.{arith}
use mathlib.Core.Path.{◌≡◌, refl, sym, ap, subst, ◌∙◌}
use mathlib.Core.Logic.{inl}
use mathlib.Core.Bool.{Bool, true, false, cond}
use mathlib.Core.List.{List, [], ◌∷◌, Memᴰ}
use lib.ListN.{get_or}
use Rattle.fields.specs.declared.Fault.TheVariants.{NotIn}
use Rattle.fields.specs.Faults.{flaw, nowhere, no_key, refusal_of}
use Rattle.sectors.specs.Sector.{sector_at, stored, page_place, page, Bytes}
use Rattle.sectors.proofs.Pages.{page-same}
use Rattle.logs.specs.Logs.{versions_of, logged, all_in}
use Rattle.logs.specs.Small.{later, hive}
use Rattle.logs.proofs.Laws.{logged-below, version-length, all_in_lem}
use Rattle.logs.proofs.Later.{first_byte, second-byte, page-versions, page-logged, page-last, only-page}
use Rattle.recovery.specs.declared.Started.TheVariants.{Pages}
use Rattle.recovery.specs.declared.Stepped.TheVariants.{Done}
use Rattle.recovery.specs.Calls.{start_answer, page_answer, page_hive, close_answer, close_hive}
use Rattle.recovery.specs.Finished.{after_pages, AllIn}
use Rattle.recovery.proofs.ByStart.{close-answer}
use Rattle.recovery.proofs.Small.{later-accepted}
use Rattle.recovery.proofs.Within.{good, inside, page-is}
use Rattle.crash.specs.Trace.{Sent, send, land, Trace, Open}
use Rattle.crash.specs.Demand.{Landed}
use Rattle.crash.proofs.Demand3.{keeps, memory-within, land-in, until, running, may-seal, landed}
use Rattle.crash.proofs.Twice.{are_bytes, bytes_of}
use Rattle.std.specs.Prelude.{Err, Ok}

ok : start_answer hive later ≡ Ok (Pages 1)
ok = later-accepted

bytes : Bytes later
unfolding are_bytes later
bytes = bytes_of later refl

-- the older version of page 1, and the disk once it has landed
abbrev old : List ℕ
old = sector_at later 560

abbrev behind : List ℕ
behind = stored hive (page_place 1) old

is-version : Memᴰ old (versions_of later 1)
is-version = subst (Memᴰ old) (sym page-versions) (Memᴰ.head refl)

-- the run that then begins
begun : Open hive later false behind [] [] behind
begun = Trace.fails (Trace.replays 1 old is-version Trace.begin)

-- "closing, but a logged page is not in yet"
pub not_yet : close_answer behind later ≡ Err (refusal_of no_key (flaw NotIn nowhere))
not_yet = close-answer behind later (Ok (Pages 1)) (until hive later 1 ok bytes begun).accepted ∙ go (all_in behind later) refl
  where
    holds-old : page behind 1 ≡ old
    holds-old =
        page-same hive 1 old (version-length later (good hive later 1 ok).log 1 old is-version)
        (inside hive later 1 ok 1 (logged-below later (good hive later 1 ok).log 1 page-logged))

    go : (b : Bool) → all_in behind later ≡ b → cond b (Ok Done) (Err (refusal_of no_key (flaw NotIn nowhere))) ≡ Err (refusal_of no_key (flaw NotIn nowhere))
    go false e = refl
    go true e =
        absurd
        (let z : ◌≡◌ {A = ℕ} 170 187 =
        sym first_byte
        ∙ ap (λ (x : List ℕ). get_or x 0 0) (sym holds-old ∙ all_in_lem behind later (good hive later 1 ok).log e 1 page-logged ∙ page-last) ∙ second-byte in omega arith)

-- page 1 is then called, stored, and lands
may-store : page_answer behind later 1 ≡ Ok Done
unfolding after_pages
may-store = (running hive later 1 ok bytes begun).pages [] 1 page-logged

abbrev made : Sent
made = send (page_hive behind later 1) 1

stored-now : Open hive later false (page_hive behind later 1) (made ∷ []) [] (land made behind)
stored-now = Trace.lands made (Memᴰ.head refl) (Trace.stores 1 may-store begun)

made_in : page (page_hive behind later 1) 1 ≡ logged later 1
made_in = page-is hive later 1 ok behind (memory-within hive later 1 ok bytes begun) 1 page-logged

every_in : (d : List ℕ) → page d 1 ≡ logged later 1 → AllIn d later
every_in d i p m = let e = only-page p m in ap (page d) e ∙ i ∙ sym (ap (logged later) e)

closed-now : Open hive later true (close_hive (page_hive behind later 1) later) (made ∷ []) [] (land made behind)
closed-now = Trace.closes ((running hive later 1 ok bytes stored-now).until.closes.1 (every_in (page_hive behind later 1) made_in)) stored-now

all-landed : close_answer (land made behind) later ≡ Ok Done
all-landed =
    (until hive later 1 ok bytes stored-now).closes.1
    (every_in (land made behind) (land-in hive later 1 ok bytes behind (inl (keeps hive later 1 ok bytes begun).disk) made page-logged made_in))

-- Theorem 5.
pub ends-well : Landed hive later (stored (land made behind) 0 (sector_at (close_hive (page_hive behind later 1) later) 0))
ends-well =
    landed hive later 1 ok bytes
    (Trace.shuts _ (Memᴰ.head refl) (Trace.seals (may-seal hive later 1 ok bytes closed-now all-landed) closed-now))
