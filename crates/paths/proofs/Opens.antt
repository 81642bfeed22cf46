-- 1 to 7, 16, and the key: a law for each way out, and what is known where a key is found.
use Prim.Native.Nat.{ℕ}
use mathlib.Core.Path.{◌≡◌, refl, sym, ◌∙◌}
use mathlib.Core.Bool.{Bool, true, false}
use mathlib.Core.List.{List, []}
use Rattle.fields.specs.declared.Fault.TheVariants.{PathParts}
use Rattle.fields.specs.declared.Flaw.{Flaw}
use Rattle.fields.specs.declared.Offset.{Offset}
use Rattle.fields.specs.Faults.{flaw, nowhere, no_key, refusal_of}
use Rattle.fields.proofs.Firsts.{on, stop, both, sound, held, holds, fails}
use Rattle.base.specs.Block.{bins_data, base_fault}
use Rattle.cells.specs.Rule.{Header}
use Rattle.records.specs.Keys.{key_fault}
use Rattle.tree.specs.Tree.{hive_of}
use Rattle.search.specs.declared.How.{How}
use Rattle.paths.specs.declared.Way.TheVariants.{Found}
use Rattle.paths.specs.Paths.{parts_of, is_path, path_fault}
use Rattle.paths.specs.Descent.{lookup_key_by}
use Rattle.paths.specs.Answers.{ask_fault, open_fault, key_look_by, find_by}
use Rattle.paths.proofs.Descents.{opened-found, lookup-tested}
use Rattle.std.specs.Prelude.{Err, Ok}

-- 1 to 7, then 16
module _ (h : List ℕ) (t : Bool) where
  pub ask-base : {f : Flaw} → base_fault h ≡ Err f → ask_fault h t ≡ Err f
  unfolding ask_fault
  ask-base e = stop _ _ e

  pub ask-good : base_fault h ≡ Ok tt → t ≡ true → ask_fault h t ≡ Ok tt
  unfolding ask_fault
  ask-good e p = sound _ _ e (holds _ p)

  pub ask-bad : base_fault h ≡ Ok tt → t ≡ false → ask_fault h t ≡ Err (flaw PathParts nowhere)
  unfolding ask_fault
  ask-bad e p = on _ _ e ∙ fails _ p

  pub ask-facts : ask_fault h t ≡ Ok tt → (base_fault h ≡ Ok tt) × (t ≡ true)
  unfolding ask_fault
  ask-facts e = let b = both (base_fault h) _ e in (b.0, held t (flaw PathParts nowhere) b.1)

-- of a path
module _ (h us : List ℕ) where
  pub open_is : open_fault h us ≡ ask_fault h (is_path us)
  unfolding open_fault path_fault ask_fault
  open_is = refl

  pub open-base : {f : Flaw} → base_fault h ≡ Err f → open_fault h us ≡ Err f
  open-base e = open_is ∙ ask-base h (is_path us) e

  pub open-facts : open_fault h us ≡ Ok tt → (base_fault h ≡ Ok tt) × (is_path us ≡ true)
  open-facts e = ask-facts h (is_path us) (sym open_is ∙ e)

-- the key, by either search
module _ (how : How) (h us : List ℕ) where
  pub look_stop : {f : Flaw} → open_fault h us ≡ Err f → key_look_by how h us ≡ Err (refusal_of no_key f)
  unfolding key_look_by
  look_stop e = rw e

  pub look-on : open_fault h us ≡ Ok tt → key_look_by how h us ≡ lookup_key_by how (bins_data h) (hive_of h).root (parts_of us)
  unfolding key_look_by
  look-on e = rw e

  -- the key that is found
  pub look-facts : {o : Offset} → key_look_by how h us ≡ Ok (Found o) → (base_fault h ≡ Ok tt) × (key_fault Header (bins_data h) [] o ≡ Ok tt)
  unfolding key_look_by
  look-facts e =
      let s = opened-found (open_fault h us) _ e in
      ((open-facts h us s.0).0, lookup-tested how (bins_data h) (hive_of h).root (parts_of us) s.1)

  -- find_key and quick_key
  pub find_at : {o : Offset} → key_look_by how h us ≡ Ok (Found o) → find_by how h us ≡ Ok o
  unfolding find_by
  find_at e = rw e
