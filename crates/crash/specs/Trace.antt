-- Power may fail at any moment, and a run may end at any moment: what memory and the disk can hold during the repair of the hive h with the log l.
--
-- Of the machine and the host this is taken:
-- "the disk stores a 512-byte sector wholly or not at all, nobody else alters either file";
-- a page store sends what a page call has made in memory; the closing sector is sent as memory has it after a closing call of this run that was done,
-- and only when the disk holds every logged page as memory does, which `barrier` (proofs/Barrier.antt) gives where
-- "all page stores have landed before the closing sector is sent";
-- what was sent may land at any later moment before the power fails, any number of times or never, and in any order;
-- when the power fails, what has not landed is lost, and the next run reads the disk into memory;
-- a process that is killed loses no store that it has sent: what was under way stays under way, and the next run may read some of it already;
-- until the closing sector is sent, any version of a logged page may land, as where another repair went entry by entry.
use Rattle.std.specs.Prelude.{ℕ, suc, ◌+◌, ◌≡◌, Bool, true, false, cond, eqb, Err, Ok, Result}
use mathlib.Core.List.{List, [], ◌∷◌, Memᴰ}
use Rattle.sectors.specs.Sector.{sector_at, stored, page_place, page}
use Rattle.logs.specs.Logs.{is_logged, versions_of}
use Rattle.recovery.specs.declared.Stepped.TheVariants.{Clean, Done}
use Rattle.recovery.specs.Calls.{page_answer, page_hive, close_answer, close_hive}
use Rattle.fields.specs.declared.Refusal.{Refusal}
use Rattle.recovery.specs.declared.Stepped.{Stepped}

-- a page store that is under way: the page's number, and the bytes that memory had there when it was sent
pub record Sent : Type 0 where
  pub number : ℕ
  pub bytes : List ℕ

abbrev pub send : List ℕ → ℕ → Sent
send m p = record { number = p; bytes = page m p }

abbrev pub land : Sent → List ℕ → List ℕ
land s d = stored d (page_place s.number) s.bytes

-- what a run can read of the disk's d while the page stores q and the closing sectors k are under way: some of them in, in any order, or none
pub data Read (q : List Sent) (k : List (List ℕ)) (d : List ℕ) : List ℕ → Type 0 where
  disk : Read q k d d
  store : {x : List ℕ} (s : Sent) → Memᴰ s q → Read q k d x → Read q k d (land s x)
  closing : {x : List ℕ} (b : List ℕ) → Memᴰ b k → Read q k d x → Read q k d (stored x 0 b)

-- The first Bool says whether the closing sector has landed, the second whether this run's closing call was done. Memory holds m, the page stores
-- q and the closing sectors k are under way, and the disk holds d.
pub data Trace (h l : List ℕ) : Bool → Bool → List ℕ → List Sent → List (List ℕ) → List ℕ → Type 0 where
  begin : Trace h l false false h [] [] h
  -- power fails
  fails : {e c : Bool} {m : List ℕ} {q : List Sent} {k : List (List ℕ)} {d : List ℕ} → Trace h l e c m q k d → Trace h l e false d [] [] d
  -- the run ends, or its process is killed; the file is read again
  ends : {e c : Bool} {m : List ℕ} {q : List Sent} {k : List (List ℕ)} {d : List ℕ} (x : List ℕ) → Read q k d x → Trace h l e c m q k d
      → Trace h l e false x q k d
  -- a page call, whatever page it names and whatever it answers
  calls : {e c : Bool} {m : List ℕ} {q : List Sent} {k : List (List ℕ)} {d : List ℕ} (p : ℕ) → Trace h l e c m q k d
      → Trace h l e c (page_hive m l p) q k d
  -- a page call that is done, and the store of what it made
  stores : {e c : Bool} {m : List ℕ} {q : List Sent} {k : List (List ℕ)} {d : List ℕ} (p : ℕ) → page_answer m l p ≡ Ok Done → Trace h l e c m q k d
      → Trace h l e c (page_hive m l p) (send (page_hive m l p) p ∷ q) k d
  -- a page store lands; it may land again
  lands : {e c : Bool} {m : List ℕ} {q : List Sent} {k : List (List ℕ)} {d : List ℕ} (s : Sent) → Memᴰ s q → Trace h l e c m q k d
      → Trace h l e c m q k (land s d)
  -- a version of a logged page lands that this repair did not send: "A page named by several entries has the bytes of the last", and it may be an older one
  replays : {c : Bool} {m : List ℕ} {q : List Sent} {d : List ℕ} (p : ℕ) (x : List ℕ) → Memᴰ x (versions_of l p) → Trace h l false c m q [] d
      → Trace h l false c m q [] (stored d (page_place p) x)
  -- a closing call that is done
  closes : {e c : Bool} {m : List ℕ} {q : List Sent} {k : List (List ℕ)} {d : List ℕ} → close_answer m l ≡ Ok Done → Trace h l e c m q k d
      → Trace h l e true (close_hive m l) q k d
  -- the closing sector is sent: the disk holds every logged page as memory does, for all page stores have landed
  seals : {e : Bool} {m : List ℕ} {q : List Sent} {k : List (List ℕ)} {d : List ℕ} → ((p : ℕ) → is_logged l p ≡ true → page d p ≡ page m p)
      → Trace h l e true m q k d → Trace h l e true m q (sector_at m 0 ∷ k) d
  -- it lands; it may land again
  shuts : {e c : Bool} {m : List ℕ} {q : List Sent} {k : List (List ℕ)} {d : List ℕ} (b : List ℕ) → Memᴰ b k → Trace h l e c m q k d
      → Trace h l true c m q k (stored d 0 b)

-- until the closing sector lands
abbrev pub Open : List ℕ → List ℕ → Bool → List ℕ → List Sent → List (List ℕ) → List ℕ → Type 0
Open h l = Trace h l false

-- once it has landed
abbrev pub Closed : List ℕ → List ℕ → Bool → List ℕ → List Sent → List (List ℕ) → List ℕ → Type 0
Closed h l = Trace h l true

-- ---- what happened in a trace

-- how often the power failed
unfoldable pub failures : {h l : List ℕ} {e c : Bool} {m : List ℕ} {q : List Sent} {k : List (List ℕ)} {d : List ℕ} → Trace h l e c m q k d → ℕ
failures Trace.begin = 0
failures (Trace.fails o) = suc (failures o)
failures (Trace.ends x r o) = failures o
failures (Trace.calls p o) = failures o
failures (Trace.stores p i o) = failures o
failures (Trace.lands s i o) = failures o
failures (Trace.replays p x i o) = failures o
failures (Trace.closes i o) = failures o
failures (Trace.seals i o) = failures o
failures (Trace.shuts b i o) = failures o

-- some stores but those of page p
unfoldable pub but : ℕ → List Sent → List Sent
but p [] = []
but p (s ∷ q) = cond (eqb s.number p) (but p q) (s ∷ but p q)

-- the page stores that have landed, and over which no version of their page has landed that this repair did not send
unfoldable pub landed_in : {h l : List ℕ} {e c : Bool} {m : List ℕ} {q : List Sent} {k : List (List ℕ)} {d : List ℕ} → Trace h l e c m q k d → List Sent
landed_in Trace.begin = []
landed_in (Trace.fails o) = landed_in o
landed_in (Trace.ends x r o) = landed_in o
landed_in (Trace.calls p o) = landed_in o
landed_in (Trace.stores p i o) = landed_in o
landed_in (Trace.lands s i o) = s ∷ landed_in o
landed_in (Trace.replays p x i o) = but p (landed_in o)
landed_in (Trace.closes i o) = landed_in o
landed_in (Trace.seals i o) = landed_in o
landed_in (Trace.shuts b i o) = landed_in o

-- the page stores that this run has sent
unfoldable pub sent_in : {h l : List ℕ} {e c : Bool} {m : List ℕ} {q : List Sent} {k : List (List ℕ)} {d : List ℕ} → Trace h l e c m q k d → List Sent
sent_in Trace.begin = []
sent_in (Trace.fails o) = []
sent_in (Trace.ends x r o) = []
sent_in (Trace.calls p o) = sent_in o
sent_in {l = l} (Trace.stores {m = m} p i o) = send (page_hive m l p) p ∷ sent_in o
sent_in (Trace.lands s i o) = sent_in o
sent_in (Trace.replays p x i o) = sent_in o
sent_in (Trace.closes i o) = sent_in o
sent_in (Trace.seals i o) = sent_in o
sent_in (Trace.shuts b i o) = sent_in o

-- a page of which a call was done
abbrev pub where_done : Result Stepped Refusal → ℕ → List ℕ → List ℕ
where_done (Ok Clean) p ps = ps
where_done (Ok Done) p ps = p ∷ ps
where_done (Err r) p ps = ps

-- the pages of which a call was done in this run
unfoldable pub done_in : {h l : List ℕ} {e c : Bool} {m : List ℕ} {q : List Sent} {k : List (List ℕ)} {d : List ℕ} → Trace h l e c m q k d → List ℕ
done_in Trace.begin = []
done_in (Trace.fails o) = []
done_in (Trace.ends x r o) = []
done_in {l = l} (Trace.calls {m = m} p o) = where_done (page_answer m l p) p (done_in o)
done_in {l = l} (Trace.stores {m = m} p i o) = where_done (page_answer m l p) p (done_in o)
done_in (Trace.lands s i o) = done_in o
done_in (Trace.replays p x i o) = done_in o
done_in (Trace.closes i o) = done_in o
done_in (Trace.seals i o) = done_in o
done_in (Trace.shuts b i o) = done_in o

-- whether a version landed in this run that this repair did not send
unfoldable pub replayed_in : {h l : List ℕ} {e c : Bool} {m : List ℕ} {q : List Sent} {k : List (List ℕ)} {d : List ℕ} → Trace h l e c m q k d → Bool
replayed_in Trace.begin = false
replayed_in (Trace.fails o) = false
replayed_in (Trace.ends x r o) = false
replayed_in (Trace.calls p o) = replayed_in o
replayed_in (Trace.stores p i o) = replayed_in o
replayed_in (Trace.lands s i o) = replayed_in o
replayed_in (Trace.replays p x i o) = true
replayed_in (Trace.closes i o) = replayed_in o
replayed_in (Trace.seals i o) = replayed_in o
replayed_in (Trace.shuts b i o) = replayed_in o

-- "all page stores have landed": of every page of which a call was done in this run, a store sent in this run has landed, and so has every store under way
pub record AllLanded {h l : List ℕ} {e c : Bool} {m : List ℕ} {q : List Sent} {k : List (List ℕ)} {d : List ℕ} (o : Trace h l e c m q k d) : Type 0 where
  pub own : (p : ℕ) → Memᴰ p (done_in o) → (s : Sent) × (s.number ≡ p) × Memᴰ s (sent_in o) × Memᴰ s (landed_in o)
  pub others : (s : Sent) → Memᴰ s q → Memᴰ s (landed_in o)

-- how often a store of page p is among some stores
unfoldable pub times : ℕ → List Sent → ℕ
times p [] = 0
times p (s ∷ q) = cond (eqb s.number p) 1 0 + times p q
