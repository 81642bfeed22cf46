-- Demand 3, proved over every trace.
use Prim.Native.Nat.{ℕ, ◌+◌, ◌≤◌}
use native.Mathlib.Decide.{ℕ_discrete}
use native.Mathlib.Omega.{arith}
use mathlib.Core.Path.{◌≡◌, refl, sym, ap, ap₂, subst, ◌∙◌}
use mathlib.Core.Logic.{◌⊎◌, inl, inr}
use mathlib.Core.Bool.{Bool, true, false, ◌||◌}
use mathlib.Core.List.Memᴰ
use mathlib.Core.List.{List, [], ◌∷◌, Memᴰ}
use lib.ListN.{length}
use Rattle.base.proofs.Laws.{unclean-refused}
use Rattle.sectors.specs.Sector.{sector_at, stored, page_place, page, Bytes}
use Rattle.sectors.proofs.Stored.{stored-again}
use Rattle.sectors.proofs.Pages.{page-same, page-other}
use Rattle.logs.specs.Logs.{is_logged, versions_of, logged}
use Rattle.logs.proofs.Laws.{logged-below, logged-version, logged-length}
use Rattle.recovery.specs.declared.Started.TheVariants.{Pages}
use Rattle.recovery.specs.declared.Started.TheVariants as start
use Rattle.recovery.specs.declared.Stepped.TheVariants.{Clean, Done}
use Rattle.recovery.specs.Calls.{start_answer, page_answer, page_hive, close_answer, close_hive}
use Rattle.recovery.specs.Finished.{finished, after_pages, Covers, AllIn}
use Rattle.recovery.proofs.Within.{Within, within-self, good, inside, within-version, unclean, reached, within-page, page-done, done-logged, page-is, close-all, all-close}
use Rattle.recovery.proofs.Repair.{lid, finished-is, close-finishes, pages-within, covered}
use Rattle.recovery.proofs.Ended.{end-length, end-lid, end-page, end_clean, clean-page, clean_close}
use Rattle.crash.specs.Trace.{Sent, send, land, Read, Trace, Open, Closed}
use Rattle.crash.specs.Demand.{Until, Running, Landed}
use Rattle.std.specs.Prelude.{Ok}

module _ (h l : List ℕ) (n : ℕ) (ok : start_answer h l ≡ Ok (Pages n)) (bytes : Bytes l) where
  abbrev pub end : List ℕ
  end = finished h l

  -- ---- what memory, the stores under way and the disk keep to

  -- a file: some logged pages in; where it may have been closed, that or the finished file
  abbrev pub File : Bool → List ℕ → Type 0
  File false x = Within h l x
  File true x = Within h l x ⊎ (x ≡ end)

  pub either : (b : Bool) (x : List ℕ) → File b x → File true x
  either false x w = inl w
  either true x w = w

  pub some : List (List ℕ) → Bool
  some [] = false
  some (b ∷ k) = true

  -- memory may be closed where this run's closing call is done, or a closing sector was sent before it was read
  abbrev pub Memory : Bool → Bool → List (List ℕ) → List ℕ → Type 0
  Memory e c k m = File (c || (e || some k)) m

  abbrev pub Disk : Bool → List ℕ → Type 0
  Disk false d = Within h l d
  Disk true d = d ≡ end

  -- every page store under way is of a logged page, as the log has it
  abbrev pub Stores : List Sent → Type 0
  Stores q = (s : Sent) → Memᴰ s q → (is_logged l s.number ≡ true) × (s.bytes ≡ logged l s.number)

  -- every closing sector under way is that of the finished file, and every logged page is on the disk
  abbrev pub Lids : List (List ℕ) → List ℕ → Type 0
  Lids k d = (b : List ℕ) → Memᴰ b k → (b ≡ lid h l n ok) × AllIn d l

  pub record Kept (e c : Bool) (m : List ℕ) (q : List Sent) (k : List (List ℕ)) (d : List ℕ) : Type 0 where
    pub memory : Memory e c k m
    pub closed : c ≡ true → m ≡ end
    pub stores : Stores q
    pub lids : Lids k d
    pub disk : Disk e d

  none : Stores []
  none s k = absurd (Memᴰ.not-nil k)

  no-lid : (d : List ℕ) → Lids [] d
  no-lid d b k = absurd (Memᴰ.not-nil k)

  open-run : (m : List ℕ) → false ≡ true → m ≡ end
  open-run m e = absurd (let z : ◌≡◌ {A = ℕ} 0 1 = cc in omega arith)

  one_more : (m : List ℕ) (p : ℕ) (q : List Sent) → is_logged l p ≡ true → page m p ≡ logged l p → Stores q → Stores (send m p ∷ q)
  one_more m p q e x old s k = go (Memᴰ.cases_cons k)
    where
      go : (s ≡ send m p) ⊎ Memᴰ s q → (is_logged l s.number ≡ true) × (s.bytes ≡ logged l s.number)
      go (inl i) = (ap (λ (z : Sent). is_logged l z.number) i ∙ e, ap (λ (z : Sent). z.bytes) i ∙ x ∙ sym (ap (λ (z : Sent). logged l z.number) i))
      go (inr i) = old s i

  -- ---- page and closing calls in memory

  pub end_stays : (m : List ℕ) → m ≡ end → (p : ℕ) → page_hive m l p ≡ end
  end_stays m w p = ap (λ (x : List ℕ). page_hive x l p) w ∙ (clean-page end l (end_clean h l n ok bytes l) p).1

  file-calls : (b : Bool) (m : List ℕ) → File b m → (p : ℕ) → File b (page_hive m l p)
  file-calls false m w p = within-page h l n ok m w p
  file-calls true m (inl w) p = inl (within-page h l n ok m w p)
  file-calls true m (inr w) p = inr (end_stays m w p)

  -- a page call that is done is one of a logged page; the finished file's says clean
  pub done-in : (m : List ℕ) → File true m → (p : ℕ) → page_answer m l p ≡ Ok Done → (is_logged l p ≡ true) × (page (page_hive m l p) p ≡ logged l p)
  done-in m (inl w) p e = let k = done-logged h l n ok m w p e in (k, page-is h l n ok m w p k)
  done-in m (inr w) p e =
      let clean : page_answer m l p ≡ (Ok Clean) = ap (λ (x : List ℕ). page_answer x l p) w ∙ (clean-page end l (end_clean h l n ok bytes l) p).0 in
      absurd (let z : ◌≡◌ {A = ℕ} 0 1 = cc in omega arith)

  closed_is : (m : List ℕ) → File true m → close_answer m l ≡ Ok Done → close_hive m l ≡ end
  closed_is m (inl w) e = close-finishes h l n ok m w (close-all h l n ok m w e)
  closed_is m (inr w) e = ap (λ (x : List ℕ). close_hive x l) w ∙ (clean_close end l (end_clean h l n ok bytes l)).1

  -- ---- what lands

  file-long : (x : List ℕ) → File true x → length x ≡ length h
  file-long x (inl w) = w.long
  file-long x (inr e) = ap length e ∙ end-length h l n ok

  pub disk-file : (e : Bool) (d : List ℕ) → Disk e d → File true d
  disk-file false d w = inl w
  disk-file true d w = inr w

  module _ (x : List ℕ) (w : File true x) (s : Sent) (e : is_logged l s.number ≡ true) (b : s.bytes ≡ logged l s.number) where
    size : length s.bytes ≡ 512
    size = ap length b ∙ logged-length l (good h l n ok).log s.number e

    fits : page_place s.number + 512 ≤ length x
    fits = omega (arith, inside h l n ok s.number (logged-below l (good h l n ok).log s.number e), file-long x w)

    -- the store's own page is then in, and every other page stays
    pub land-in : page (land s x) s.number ≡ logged l s.number
    land-in = page-same x s.number s.bytes size fits ∙ b

    pub land-other : (p : ℕ) → (p ≡ s.number → ⊥) → page (land s x) p ≡ page x p
    land-other p z = page-other x s.number s.bytes size fits p z

    -- a page that is in stays in
    pub land-keeps : (p : ℕ) → page x p ≡ logged l p → page (land s x) p ≡ logged l p
    land-keeps p i = go (ℕ_discrete p s.number)
      where
        go : Dec (p ≡ s.number) → page (land s x) p ≡ logged l p
        go (yes z) = ap (page (land s x)) z ∙ land-in ∙ sym (ap (logged l) z)
        go (no z) = land-other p z ∙ i

  within-lands : (s : Sent) (d : List ℕ) → is_logged l s.number ≡ true → s.bytes ≡ logged l s.number → Within h l d → Within h l (land s d)
  within-lands s d e x w =
      within-version h l n ok d w s.number s.bytes (subst (λ (y : List ℕ). Memᴰ y (versions_of l s.number)) (sym x) (logged-version l s.number e))

  end-lands : (s : Sent) (d : List ℕ) → is_logged l s.number ≡ true → s.bytes ≡ logged l s.number → d ≡ end → land s d ≡ end
  unfolding page
  end-lands s d e x w =
      ap (land s) w ∙ ap (stored end (page_place s.number)) (x ∙ sym (end-page h l n ok s.number e)) ∙ stored-again end (page_place s.number)

  disk-lands : (e : Bool) (s : Sent) (d : List ℕ) → is_logged l s.number ≡ true → s.bytes ≡ logged l s.number → Disk e d → Disk e (land s d)
  disk-lands false s d i x w = within-lands s d i x w
  disk-lands true s d i x w = end-lands s d i x w

  end-shuts : (d b : List ℕ) → b ≡ lid h l n ok → d ≡ end → stored d 0 b ≡ end
  end-shuts d b i w = ap₂ (λ (x y : List ℕ). stored x 0 y) w (i ∙ sym (end-lid h l n ok)) ∙ stored-again end 0

  disk-shuts : (e : Bool) (d b : List ℕ) → b ≡ lid h l n ok → AllIn d l → Disk e d → stored d 0 b ≡ end
  disk-shuts false d b i all w = ap (stored d 0) i ∙ finished-is h l n ok d w all
  disk-shuts true d b i all w = end-shuts d b i w

  -- ---- what a run reads

  read-within : (q : List Sent) (d : List ℕ) → Stores q → Within h l d → (x : List ℕ) → Read q [] d x → Within h l x
  read-within q d st w x Read.disk = w
  read-within q d st w x (Read.store {x = y} s i r) = let j = st s i in within-lands s y j.0 j.1 (read-within q d st w y r)
  read-within q d st w x (Read.closing {x = y} b i r) = absurd (Memᴰ.not-nil i)

  -- a page is in where the disk has it, and where the disk has all pages, all are in
  pub read-any : (q : List Sent) (k : List (List ℕ)) (d : List ℕ) → Stores q → Lids k d → File true d → (x : List ℕ) → Read q k d x
      → File true x × ((p : ℕ) → page d p ≡ logged l p → is_logged l p ≡ true → page x p ≡ logged l p)
  read-any q k d st ls w x Read.disk = (w, λ p i e. i)
  read-any q k d st ls w x (Read.store {x = y} s i r) =
      let j = st s i in
      let u = read-any q k d st ls w y r in
      (lands u.0 j.0 j.1, λ p a e. land-keeps y u.0 s j.0 j.1 p (u.1 p a e))
    where
      lands : File true y → is_logged l s.number ≡ true → s.bytes ≡ logged l s.number → File true (land s y)
      lands (inl v) e b = inl (within-lands s y e b v)
      lands (inr v) e b = inr (end-lands s y e b v)
  read-any q k d st ls w x (Read.closing {x = y} b i r) =
      let j = ls b i in
      let u = read-any q k d st ls w y r in
      let f = shuts u.0 j.0 (λ p e. u.1 p (j.1 p e) e) in
      (inr f, λ p a e. ap (λ (z : List ℕ). page z p) f ∙ end-page h l n ok p e)
    where
      shuts : File true y → b ≡ lid h l n ok → AllIn y l → stored y 0 b ≡ end
      shuts (inl v) e all = disk-shuts false y b e all v
      shuts (inr v) e all = end-shuts y b e v

  memory-reads : (e : Bool) (q : List Sent) (k : List (List ℕ)) (d : List ℕ) → Stores q → Lids k d → Disk e d → (x : List ℕ) → Read q k d x
      → Memory e false k x
  unfolding some
  memory-reads false q [] d st ls w x r = read-within q d st w x r
  memory-reads false q (b ∷ k) d st ls w x r = (read-any q (b ∷ k) d st ls (inl w) x r).0
  memory-reads true q k d st ls w x r = (read-any q k d st ls (inr w) x r).0

  -- ---- every trace keeps to it

  pub memory-of : {e c : Bool} {m : List ℕ} {q : List Sent} {k : List (List ℕ)} {d : List ℕ} → Kept e c m q k d → File true m
  memory-of {e = e} {c = c} {m = m} {k = k} i = either (c || (e || some k)) m i.memory

  memory-fails : (e : Bool) (d : List ℕ) → Disk e d → Memory e false [] d
  unfolding some
  memory-fails false d w = w
  memory-fails true d w = inr w

  memory-shuts : (c : Bool) (m : List ℕ) (k : List (List ℕ)) → File true m → Memory true c k m
  memory-shuts false m k w = w
  memory-shuts true m k w = w

  pub keeps : {e c : Bool} {m : List ℕ} {q : List Sent} {k : List (List ℕ)} {d : List ℕ} → Trace h l e c m q k d → Kept e c m q k d
  unfolding some
  keeps Trace.begin = record { memory = within-self h l; closed = open-run h; stores = none; lids = no-lid h; disk = within-self h l }
  keeps (Trace.fails {e = e} {d = d} o) =
      let i = keeps o in record { memory = memory-fails e d i.disk; closed = open-run d; stores = none; lids = no-lid d; disk = i.disk }
  keeps (Trace.ends {e = e} {q = q} {k = k} {d = d} x r o) =
      let i = keeps o in
      record { memory = memory-reads e q k d i.stores i.lids i.disk x r; closed = open-run x; stores = i.stores; lids = i.lids; disk = i.disk }
  keeps (Trace.calls {e = e} {c = c} {m = m} {k = k} p o) =
      let i = keeps o in
      record {
        memory = file-calls (c || (e || some k)) m i.memory p;
        closed = λ z. end_stays m (i.closed z) p;
        stores = i.stores;
        lids = i.lids;
        disk = i.disk;
      }
  keeps (Trace.stores {e = e} {c = c} {m = m} {q = q} {k = k} p a o) =
      let i = keeps o in
      let j = done-in m (memory-of i) p a in
      record {
        memory = file-calls (c || (e || some k)) m i.memory p;
        closed = λ z. end_stays m (i.closed z) p;
        stores = one_more (page_hive m l p) p q j.0 j.1 i.stores;
        lids = i.lids;
        disk = i.disk;
      }
  keeps (Trace.lands {e = e} {d = d} s a o) =
      let i = keeps o in
      let j = i.stores s a in
      record {
        memory = i.memory;
        closed = i.closed;
        stores = i.stores;
        lids = λ b u. ((i.lids b u).0, λ p g. land-keeps d (disk-file e d i.disk) s j.0 j.1 p ((i.lids b u).1 p g));
        disk = disk-lands e s d j.0 j.1 i.disk;
      }
  keeps (Trace.replays {d = d} p x a o) =
      let i = keeps o in
      record {
        memory = i.memory;
        closed = i.closed;
        stores = i.stores;
        lids = no-lid (stored d (page_place p) x);
        disk = within-version h l n ok d i.disk p x a;
      }
  keeps (Trace.closes {m = m} a o) =
      let i = keeps o in
      let f = closed_is m (memory-of i) a in
      record { memory = inr f; closed = λ z. f; stores = i.stores; lids = i.lids; disk = i.disk }
  keeps (Trace.seals {m = m} {k = k} {d = d} barrier o) =
      let i = keeps o in
      let f = i.closed refl in
      let all : AllIn d l = λ p g. barrier p g ∙ ap (λ (x : List ℕ). page x p) f ∙ end-page h l n ok p g in
      record {
        memory = inr f;
        closed = λ z. f;
        stores = i.stores;
        lids = λ b u. lid-is b (ap (λ (x : List ℕ). sector_at x 0) f ∙ end-lid h l n ok) all (i.lids b) (Memᴰ.cases_cons u);
        disk = i.disk;
      }
    where
      lid-is : (b : List ℕ) → sector_at m 0 ≡ lid h l n ok → AllIn d l → (Memᴰ b k → (b ≡ lid h l n ok) × AllIn d l) → (b ≡ sector_at m 0) ⊎ Memᴰ b k
          → (b ≡ lid h l n ok) × AllIn d l
      lid-is b g all old (inl z) = (z ∙ g, all)
      lid-is b g all old (inr z) = old z
  keeps (Trace.shuts {e = e} {c = c} {m = m} {k = k} {d = d} b a o) =
      let i = keeps o in
      let j = i.lids b a in
      let f = disk-shuts e d b j.0 j.1 i.disk in
      record {
        memory = memory-shuts c m k (memory-of i);
        closed = i.closed;
        stores = i.stores;
        lids = λ y u. ((i.lids y u).0, λ p g. ap (λ (x : List ℕ). page x p) f ∙ end-page h l n ok p g);
        disk = f;
      }

  -- ---- until the closing sector lands

  until-within : (d : List ℕ) → Within h l d → Until l n d
  until-within d w = record {
    accepted = reached h l n ok d w;
    refused = unclean-refused d (unclean h l n ok d w);
    closes = (close-all h l n ok d w, all-close h l n ok d w);
  }

  -- Theorem 3, first half: whatever the disk holds.
  pub until : {c : Bool} {m : List ℕ} {q : List Sent} {k : List (List ℕ)} {d : List ℕ} → Open h l c m q k d → Until l n d
  until {d = d} o = until-within d (keeps o).disk

  -- and whatever memory holds before the closing call is done
  pub memory-within : {m : List ℕ} {q : List Sent} {d : List ℕ} → Open h l false m q [] d → Within h l m
  unfolding some
  memory-within o = (keeps o).memory

  pub running : {m : List ℕ} {q : List Sent} {d : List ℕ} → Open h l false m q [] d → Running l n m
  running {m = m} o =
      let w = memory-within o in
      record {
        until = until-within m w;
        pages = λ ps p g. page-done h l n ok (after_pages m l ps) (pages-within h l n ok ps m w) p g;
        closes = λ ps c. all-close h l n ok (after_pages m l ps) (pages-within h l n ok ps m w) (covered h l n ok ps m w c);
      }

  -- Progress: in every state, page calls that cover the log, in any order, and the closing call give the finished file.
  end-pages : (ps m : List ℕ) → m ≡ end → after_pages m l ps ≡ end
  unfolding after_pages
  end-pages [] m e = e
  end-pages (p ∷ ps) m e = end-pages ps (page_hive m l p) (end_stays m e p)

  pub finishes : {e c : Bool} {m : List ℕ} {q : List Sent} {k : List (List ℕ)} {d : List ℕ} → Trace h l e c m q k d → (ps : List ℕ) → Covers l ps
      → close_hive (after_pages m l ps) l ≡ end
  finishes {m = m} o ps c = go (memory-of (keeps o))
    where
      go : File true m → close_hive (after_pages m l ps) l ≡ end
      go (inl w) = close-finishes h l n ok (after_pages m l ps) (pages-within h l n ok ps m w) (covered h l n ok ps m w c)
      go (inr w) = ap (λ (x : List ℕ). close_hive x l) (end-pages ps m w) ∙ (clean_close end l (end_clean h l n ok bytes l)).1

  -- the closing call on the disk's own bytes tells that the closing sector may be sent
  pub may-seal : {m : List ℕ} {q : List Sent} {k : List (List ℕ)} {d : List ℕ} → Open h l true m q k d → close_answer d l ≡ Ok Done
      → (p : ℕ) → is_logged l p ≡ true → page d p ≡ page m p
  may-seal {d = d} o a p g =
      let i = keeps o in
      close-all h l n ok d i.disk a p g ∙ sym (ap (λ (x : List ℕ). page x p) (i.closed refl) ∙ end-page h l n ok p g)

  -- ---- once it has landed

  -- Theorem 3, second half.
  pub landed : {c : Bool} {m : List ℕ} {q : List Sent} {k : List (List ℕ)} {d : List ℕ} → Closed h l c m q k d → Landed h l d
  landed {d = d} x =
      let e : d ≡ end = (keeps x).disk in
      let s : (l' : List ℕ) → start_answer d l' ≡ (Ok start.Clean) = λ l'. ap (λ (y : List ℕ). start_answer y l') e ∙ end_clean h l n ok bytes l' in
      record { file = e; starts = s; pages = λ l' p. clean-page d l' (s l') p; closes = λ l'. clean_close d l' (s l') }
