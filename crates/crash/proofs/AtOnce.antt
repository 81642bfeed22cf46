-- A host may install all pages by one call and store them afterwards: it goes no way that the traces do not have.
use Prim.Native.Nat.{ℕ}
use mathlib.Core.Path.{◌≡◌, sym, ap, ◌∙◌}
use mathlib.Core.Bool.{Bool, true, false}
use mathlib.Core.List.{List, [], ◌∷◌}
use Rattle.sectors.specs.Sector.{stored, page_place, page, Bytes}
use Rattle.sectors.proofs.Stored.{stored-again}
use Rattle.logs.specs.Logs.{is_logged, logged}
use Rattle.recovery.specs.declared.Started.TheVariants.{Pages}
use Rattle.recovery.specs.declared.Stepped.TheVariants.{Clean, Done}
use Rattle.recovery.specs.Calls.{start_answer, page_answer, page_hive, changed}
use Rattle.recovery.specs.Finished.{after_pages}
use Rattle.recovery.specs.AtOnce.{logged_pages, all_answer, all_hive}
use Rattle.crash.specs.Trace.{Sent, Trace, Open}
use Rattle.crash.proofs.Demand3.{running}
use Rattle.fields.specs.declared.Refusal.{Refusal}
use Rattle.recovery.specs.declared.Stepped.{Stepped}
use Rattle.std.specs.Prelude.{Err, Ok, Result}

module _ (h l : List ℕ) where
  row_goes : {e c : Bool} {q : List Sent} {k : List (List ℕ)} {d : List ℕ} (ps m : List ℕ) → Trace h l e c m q k d → Trace h l e c (after_pages m l ps) q k d
  unfolding after_pages
  row_goes [] m o = o
  row_goes (p ∷ ps) m o = row_goes ps (page_hive m l p) (Trace.calls p o)

  -- all pages at once are page calls in a row
  pub all-opens : {e c : Bool} {m : List ℕ} {q : List Sent} {k : List (List ℕ)} {d : List ℕ} → Trace h l e c m q k d → Trace h l e c (all_hive m l) q k d
  unfolding all_hive
  all-opens {e = e} {c = c} {m = m} {q = q} {k = k} {d = d} o = go (all_answer m l)
    where
      go : (a : Result Stepped Refusal) → Trace h l e c (changed a (after_pages m l (logged_pages l)) m) q k d
      go (Ok Clean) = o
      go (Ok Done) = row_goes (logged_pages l) m o
      go (Err r) = o

  -- a page that is in is called again and stays, so its store is one of a page call that is done
  pub in-again : (n : ℕ) → start_answer h l ≡ Ok (Pages n) → Bytes l → {m : List ℕ} {q : List Sent} {d : List ℕ} → Open h l false m q [] d
      → (p : ℕ) → is_logged l p ≡ true → page m p ≡ logged l p → (page_answer m l p ≡ Ok Done) × (page_hive m l p ≡ m)
  unfolding page_hive page after_pages
  in-again n ok bytes {m = m} o p k e =
      let s : page_answer m l p ≡ (Ok Done) = (running h l n ok bytes o).pages [] p k in
      (s, ap (λ (a : Result Stepped Refusal). changed a (stored m (page_place p) (logged l p)) m) s ∙ ap (stored m (page_place p)) (sym e) ∙ stored-again m (page_place p))
