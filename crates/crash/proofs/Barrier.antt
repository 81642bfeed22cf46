-- The barrier: where "all page stores have landed before the closing sector is sent", the disk holds every logged page as memory does.
use Prim.Native.Nat.{ℕ, ◌+◌, ◌≤◌}
use native.Mathlib.Decide.{ℕ_discrete}
use native.Mathlib.Omega.{arith}
use mathlib.Core.Path.{◌≡◌, refl, sym, ap, subst, ◌∙◌}
use mathlib.Core.Logic.{◌⊎◌, inl, inr}
use mathlib.Core.Bool.{Bool, true, false, cond}
use mathlib.Core.List.Memᴰ
use mathlib.Core.List.{List, [], ◌∷◌, Memᴰ}
use lib.Dec.{eqb}
use lib.ListN.{length}
use borrow.Author.Tests.{eqb-false}
use Rattle.fields.proofs.Bools.{never}
use Rattle.sectors.specs.Sector.{stored, page_place, page, Bytes}
use Rattle.sectors.proofs.Pages.{page-other}
use Rattle.logs.specs.Logs.{is_logged, versions_of, logged}
use Rattle.logs.proofs.Laws.{logged-below, version-logged, version-length}
use Rattle.recovery.specs.declared.Started.TheVariants.{Pages}
use Rattle.recovery.specs.declared.Stepped.TheVariants.{Clean, Done}
use Rattle.recovery.specs.Calls.{start_answer, page_answer, page_hive}
use Rattle.recovery.proofs.Within.{Within, good, inside, page-done, page-stays, close-all}
use Rattle.recovery.proofs.Ended.{end-page}
use Rattle.crash.specs.Trace.{Sent, send, land, Read, Trace, but, landed_in, where_done, done_in, replayed_in, AllLanded}
use Rattle.crash.proofs.Demand3.{File, Stores, Lids, keeps, memory-of, disk-file, land-keeps, land-in, land-other, read-any}
use Rattle.fields.specs.declared.Refusal.{Refusal}
use Rattle.recovery.specs.declared.Stepped.{Stepped}
use Rattle.std.specs.Prelude.{Err, Ok, Result}

module _ (h l : List ℕ) (n : ℕ) (ok : start_answer h l ≡ Ok (Pages n)) (bytes : Bytes l) where
  -- ---- a store that has landed is on the disk

  shut-page : {e c : Bool} {m : List ℕ} {q : List Sent} {k : List (List ℕ)} {d : List ℕ} → Trace h l e c m q k d → (b : List ℕ) → Memᴰ b k
      → (p : ℕ) → is_logged l p ≡ true → page (stored d 0 b) p ≡ logged l p
  shut-page o b a p g = ap (λ (x : List ℕ). page x p) (keeps h l n ok bytes (Trace.shuts b a o)).disk ∙ end-page h l n ok p g

  -- a store that is left is one of another page
  but-other : (p : ℕ) (q : List Sent) (s : Sent) → Memᴰ s (but p q) → Memᴰ s q × (s.number ≡ p → ⊥)
  unfolding but
  but-other p [] s i = absurd (Memᴰ.not-nil i)
  but-other p (t ∷ q) s i = go (eqb t.number p) refl (λ z. but-other p q s z) i
    where
      go : (b : Bool) → eqb t.number p ≡ b → (Memᴰ s (but p q) → Memᴰ s q × (s.number ≡ p → ⊥)) → Memᴰ s (cond b (but p q) (t ∷ but p q))
          → Memᴰ s (t ∷ q) × (s.number ≡ p → ⊥)
      go true e rest j = let u = rest j in (Memᴰ.tail u.0, u.1)
      go false e rest j = at e rest (Memᴰ.cases_cons j)
        where
          at : eqb t.number p ≡ false → (Memᴰ s (but p q) → Memᴰ s q × (s.number ≡ p → ⊥)) → (s ≡ t) ⊎ Memᴰ s (but p q)
              → Memᴰ s (t ∷ q) × (s.number ≡ p → ⊥)
          at e rest (inl z) = (Memᴰ.head z, λ y. eqb-false t.number p e (sym (ap (λ (x : Sent). x.number) z) ∙ y))
          at e rest (inr z) = let u = rest z in (Memᴰ.tail u.0, u.1)

  replay-fits : (d : List ℕ) → Within h l d → (p : ℕ) (x : List ℕ) → Memᴰ x (versions_of l p) → page_place p + 512 ≤ length d
  replay-fits d w p x a = omega (arith, inside h l n ok p (logged-below l (good h l n ok).log p (version-logged l p x a)), w.long)

  on-disk : {e c : Bool} {m : List ℕ} {q : List Sent} {k : List (List ℕ)} {d : List ℕ} (o : Trace h l e c m q k d) → (s : Sent) → Memᴰ s (landed_in o)
      → (is_logged l s.number ≡ true) × (page d s.number ≡ logged l s.number)
  unfolding landed_in
  on-disk Trace.begin s i = absurd (Memᴰ.not-nil i)
  on-disk (Trace.fails o) s i = on-disk o s i
  on-disk (Trace.ends x r o) s i = on-disk o s i
  on-disk (Trace.calls p o) s i = on-disk o s i
  on-disk (Trace.stores p a o) s i = on-disk o s i
  on-disk (Trace.lands {e = e} {d = d} t a o) s i = go (λ z. on-disk o s z) (Memᴰ.cases_cons i)
    where
      j : (is_logged l t.number ≡ true) × (t.bytes ≡ logged l t.number)
      j = (keeps h l n ok bytes o).stores t a

      file : File h l n ok bytes true d
      file = disk-file h l n ok bytes e d (keeps h l n ok bytes o).disk

      go : (Memᴰ s (landed_in o) → (is_logged l s.number ≡ true) × (page d s.number ≡ logged l s.number)) → (s ≡ t) ⊎ Memᴰ s (landed_in o)
          → (is_logged l s.number ≡ true) × (page (land t d) s.number ≡ logged l s.number)
      go old (inl z) =
          subst (λ (x : Sent). (is_logged l x.number ≡ true) × (page (land t d) x.number ≡ logged l x.number)) (sym z)
          (j.0, land-in h l n ok bytes d file t j.0 j.1)
      go old (inr z) = let u = old z in (u.0, land-keeps h l n ok bytes d file t j.0 j.1 s.number u.1)
  on-disk (Trace.replays {d = d} p x a o) s i =
      let u = but-other p (landed_in o) s i in
      let v = on-disk o s u.0 in
      (v.0, page-other d p x (version-length l (good h l n ok).log p x a) (replay-fits d (keeps h l n ok bytes o).disk p x a) s.number u.1 ∙ v.1)
  on-disk (Trace.closes a o) s i = on-disk o s i
  on-disk (Trace.seals a o) s i = on-disk o s i
  on-disk (Trace.shuts b a o) s i = let u = on-disk o s i in (u.0, shut-page o b a s.number u.0)

  -- ---- where a logged page that memory has in came from: a page call of this run, a store under way, or the disk

  abbrev Came : List ℕ → List Sent → List ℕ → ℕ → Type 0
  Came done q d p = Memᴰ p done ⊎ (((s : Sent) × (s.number ≡ p) × Memᴰ s q) ⊎ (page d p ≡ logged l p))

  more-done : (a : Result Stepped Refusal) (p r : ℕ) (done : List ℕ) → Memᴰ p done → Memᴰ p (where_done a r done)
  more-done (Ok Clean) p r done i = i
  more-done (Ok Done) p r done i = Memᴰ.tail i
  more-done (Err x) p r done i = i

  later : (a : Result Stepped Refusal) (p r : ℕ) (done : List ℕ) (q : List Sent) (d : List ℕ) → Came done q d p → Came (where_done a r done) q d p
  later a p r done q d (inl i) = inl (more-done a p r done i)
  later a p r done q d (inr i) = inr i

  one_more : (s : Sent) (p : ℕ) (done : List ℕ) (q : List Sent) (d : List ℕ) → Came done q d p → Came done (s ∷ q) d p
  one_more s p done q d (inl i) = inl i
  one_more s p done q d (inr (inl i)) = inr (inl (i.0, i.1, Memᴰ.tail i.2))
  one_more s p done q d (inr (inr i)) = inr (inr i)

  moved : (p : ℕ) (done : List ℕ) (q : List Sent) (d d' : List ℕ) → (page d p ≡ logged l p → page d' p ≡ logged l p) → Came done q d p → Came done q d' p
  moved p done q d d' f (inl i) = inl i
  moved p done q d d' f (inr (inl i)) = inr (inl i)
  moved p done q d d' f (inr (inr i)) = inr (inr (f i))

  -- memory after a page call
  called : (m : List ℕ) → File h l n ok bytes true m → (r p : ℕ) (done : List ℕ) (q : List Sent) (d : List ℕ) → is_logged l p ≡ true
      → page (page_hive m l r) p ≡ logged l p → (page m p ≡ logged l p → Came done q d p) → Came (where_done (page_answer m l r) r done) q d p
  called m (inr w) r p done q d g i old =
      later (page_answer m l r) p r done q d (old (ap (λ (x : List ℕ). page x p) w ∙ end-page h l n ok p g))
  called m (inl w) r p done q d g i old = go (ℕ_discrete p r)
    where
      go : Dec (p ≡ r) → Came (where_done (page_answer m l r) r done) q d p
      go (yes z) =
          inl (subst (λ (a : Result Stepped Refusal). Memᴰ p (where_done a r done)) (sym (page-done h l n ok m w r (sym (ap (is_logged l) z) ∙ g))) (Memᴰ.head z))
      go (no z) = later (page_answer m l r) p r done q d (old (sym (page-stays h l n ok m w r p z) ∙ i))

  -- memory as it was read
  came-read : (q : List Sent) (k : List (List ℕ)) (d : List ℕ) → Stores h l n ok bytes q → Lids h l n ok bytes k d → File h l n ok bytes true d → (x : List ℕ)
      → Read q k d x → (p : ℕ) → is_logged l p ≡ true → page x p ≡ logged l p → (((s : Sent) × (s.number ≡ p) × Memᴰ s q) ⊎ (page d p ≡ logged l p))
  came-read q k d st ls w x Read.disk p g i = inr i
  came-read q k d st ls w x (Read.store {x = y} s a r) p g i = go (λ z. came-read q k d st ls w y r p g z) (ℕ_discrete p s.number)
    where
      go : (page y p ≡ logged l p → ((s : Sent) × (s.number ≡ p) × Memᴰ s q) ⊎ (page d p ≡ logged l p)) → Dec (p ≡ s.number)
          → ((s : Sent) × (s.number ≡ p) × Memᴰ s q) ⊎ (page d p ≡ logged l p)
      go old (yes z) = inl (s, sym z, a)
      go old (no z) =
          let j = st s a in
          old (sym (land-other h l n ok bytes y (read-any h l n ok bytes q k d st ls w y r).0 s j.0 j.1 p z) ∙ i)
  came-read q k d st ls w x (Read.closing b a r) p g i = inr ((ls b a).1 p g)

  came : {e c : Bool} {m : List ℕ} {q : List Sent} {k : List (List ℕ)} {d : List ℕ} (o : Trace h l e c m q k d) (p : ℕ) → is_logged l p ≡ true
      → replayed_in o ≡ false → page m p ≡ logged l p → Came (done_in o) q d p
  unfolding done_in replayed_in
  came Trace.begin p g f i = inr (inr i)
  came (Trace.fails o) p g f i = inr (inr i)
  came (Trace.ends {e = e} {q = q} {k = k} {d = d} x r o) p g f i =
      let j = keeps h l n ok bytes o in
      inr (came-read q k d j.stores j.lids (disk-file h l n ok bytes e d j.disk) x r p g i)
  came (Trace.calls {m = m} {q = q} {d = d} r o) p g f i = called m (memory-of h l n ok bytes (keeps h l n ok bytes o)) r p (done_in o) q d g i (λ z. came o p g f z)
  came (Trace.stores {m = m} {q = q} {d = d} r a o) p g f i =
      one_more (send (page_hive m l r) r) p _ q d (called m (memory-of h l n ok bytes (keeps h l n ok bytes o)) r p (done_in o) q d g i (λ z. came o p g f z))
  came (Trace.lands {e = e} {q = q} {d = d} s a o) p g f i =
      let j = keeps h l n ok bytes o in
      let u = j.stores s a in
      moved p (done_in o) q d (land s d) (land-keeps h l n ok bytes d (disk-file h l n ok bytes e d j.disk) s u.0 u.1 p) (came o p g f i)
  came (Trace.replays r x a o) p g f i = absurd (never true refl f)
  came (Trace.closes {m = m} a o) p g f i = came o p g f (go (memory-of h l n ok bytes (keeps h l n ok bytes o)))
    where
      go : File h l n ok bytes true m → page m p ≡ logged l p
      go (inl w) = close-all h l n ok m w a p g
      go (inr w) = ap (λ (x : List ℕ). page x p) w ∙ end-page h l n ok p g
  came (Trace.seals a o) p g f i = came o p g f i
  came (Trace.shuts {q = q} {d = d} b a o) p g f i = moved p (done_in o) q d (stored d 0 b) (λ z. shut-page o b a p g) (came o p g f i)

  -- The customer's premise gives that of `seals`, in a run in which no version has landed that this repair did not send.
  pub barrier : {e : Bool} {m : List ℕ} {q : List Sent} {k : List (List ℕ)} {d : List ℕ} (o : Trace h l e true m q k d) → replayed_in o ≡ false → AllLanded o
      → (p : ℕ) → is_logged l p ≡ true → page d p ≡ page m p
  barrier {m = m} {q = q} {d = d} o own all p g = go (came o p g own in_memory) ∙ sym in_memory
    where
      in_memory : page m p ≡ logged l p
      in_memory = ap (λ (x : List ℕ). page x p) ((keeps h l n ok bytes o).closed refl) ∙ end-page h l n ok p g

      of-store : (s : Sent) → s.number ≡ p → Memᴰ s (landed_in o) → page d p ≡ logged l p
      of-store s z i = subst (λ (x : ℕ). page d x ≡ logged l x) z (on-disk o s i).1

      go : Came (done_in o) q d p → page d p ≡ logged l p
      go (inl i) = let u = all.own p i in of-store u.0 u.1 u.3
      go (inr (inl i)) = of-store i.0 i.1 (all.others i.0 i.2)
      go (inr (inr i)) = i
