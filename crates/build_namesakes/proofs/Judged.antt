-- The row as a stream is judged: passed up to the first value that has an earlier namesake, and refused there.
use Prim.Native.Nat.{ℕ, zero, suc, ◌+◌, ◌<◌, ◌≤◌}
use native.Mathlib.Omega.{arith}
use mathlib.Core.Path.{◌≡◌, refl, sym, ap, ap₂, ◌∙◌}
use mathlib.Core.Bool.{true, false, not}
use mathlib.Core.List.{List, [], ◌∷◌}
use lib.ListN.{length, get_or, take, drop, length-drop}
use lib.Seq.{drop-drop}
use borrow.Author.Tests.{le-leb, eq-eqb}
use Rattle.fields.specs.declared.Fault.TheVariants.{NoFrame, ValueLate, Unbalanced, Unsorted, Repeated}
use Rattle.fields.specs.Faults.{flaw, nowhere}
use Rattle.fields.proofs.Bools.{and_both}
use Rattle.fields.proofs.Firsts.{on, stop, holds as passing, fails}
use Rattle.names.specs.Comparison.{same_name}
use Rattle.namesake_laws.specs.Repeats.{First}
use Rattle.forest.specs.Forest.{Item, item_names}
use Rattle.forest.specs.Faults.{Shape as Said, holds, frame_len, shape_of, Open, State, within, with_value, hold_in, behind, values_seen, subkeys_seen, level_of, is_laid, is_timely, is_inside, is_sorted, is_new, is_single, is_named, is_small, is_shallow, is_few, frame_fault, Wrong, judge}
use Rattle.forest.proofs.Judge.{judge-stop, judge-on}
use Rattle.forest.proofs.Tests.{passes-sound}
use Rattle.forest.proofs.Written.{added-subkeys}
use Rattle.forest.specs.Behind.{add_values}
use Rattle.build_namesakes.specs.Rows.{start_of, called}
use Rattle.build_namesakes.proofs.Rows.{held-named}
use Rattle.build_namesakes.proofs.Laws.{take-name, take-length, names-length, Listed, listed-names, listed-again}
use Rattle.std.specs.Prelude.{Err, Ok}

-- ---- one value inside of a key

module _ (k : Open) (ks : List Open) (v : Item) (timely : length k.subkeys ≡ 0) where
  pub value_passes : is_new v.name k.values ≡ true → is_named (holds v) ≡ true → is_small (holds v) ≡ true → frame_fault (holds v) (within (k ∷ ks)) ≡ Ok tt
  unfolding is_laid is_timely is_inside is_sorted is_single is_shallow is_few values_seen subkeys_seen level_of
  value_passes new named small =
      passes-sound (holds v) (within (k ∷ ks)) (record {
        laid = refl;
        timely = eq-eqb (length k.subkeys) 0 timely;
        inside = le-leb 1 (suc (length ks)) (omega arith);
        sorted = refl;
        single = new;
        named = named;
        small = small;
        shallow = refl;
        few = refl;
      })

  pub value-repeats : is_new v.name k.values ≡ false → frame_fault (holds v) (within (k ∷ ks)) ≡ Err (flaw Repeated nowhere)
  unfolding frame_fault is_laid is_timely is_inside is_sorted is_single values_seen subkeys_seen level_of
  value-repeats seen =
      on _ _ (passing (flaw NoFrame nowhere) refl)
      ∙ on _ _ (passing (flaw ValueLate nowhere) (eq-eqb (length k.subkeys) 0 timely))
      ∙ on _ _ (passing (flaw Unbalanced nowhere) (le-leb 1 (suc (length ks)) (omega arith)))
      ∙ on _ _ (passing (flaw Unsorted nowhere) refl)
      ∙ stop _ _ (fails (flaw Repeated nowhere) seen)

-- ---- what is open behind some values

add-snoc : (vs : List Item) (k : Open) (j : ℕ) → j < length vs → add_values (take (suc j) vs) k ≡ with_value (get_or (item_names vs) j []) (add_values (take j vs) k)
unfolding add_values item_names
add-snoc [] k j l = absurd (omega arith)
add-snoc (v ∷ vs) k zero l = refl
add-snoc (v ∷ vs) k (suc j) l = add-snoc vs (with_value v.name k) j (omega arith)

pub new-at : (x : List ℕ) (vs : List Item) (k : Open) → is_new x k.values ≡ true → ((i : ℕ) → i < length vs → same_name (get_or (item_names vs) i []) x ≡ false)
    → is_new x (add_values vs k).values ≡ true
unfolding add_values is_new item_names
new-at x [] k e h = e
new-at x (v ∷ vs) k e h = new-at x vs (with_value v.name k) (and_both (ap not (h 0 (omega arith))) e) (λ i l. h (suc i) (omega arith))

-- ---- the row

module _ (s : List ℕ) (at : ℕ) (vs : List Item) (l : Listed s at vs) (k : Open) (ks : List Open) (none : k.values ≡ []) (timely : length k.subkeys ≡ 0) where
  abbrev standing : ℕ → State
  standing j = within (add_values (take j vs) k ∷ ks)

  abbrev judged_at : ℕ → Said
  judged_at j = shape_of (drop (start_of s at j) s)

  module _ (r : ℕ) (f : First (called s at) (length vs) r) where
    still-timely : (j : ℕ) → length (add_values (take j vs) k).subkeys ≡ 0
    still-timely j = ap length (added-subkeys (take j vs) k) ∙ timely

    there : (j : ℕ) → j < length vs → 0 < length (drop (start_of s at j) s)
    there j q = let a = (held-named s (start_of s at j) (l.each j q).says).room in let b = length-drop (start_of s at j) s in omega arith

    is-new : (j : ℕ) → j < r → is_new (get_or (item_names vs) j []) (add_values (take j vs) k).values ≡ true
    unfolding is_new
    is-new j q =
        let w = f.within in
        let n = take-length j vs (omega arith) in
        let m = names-length (take j vs) in
        new-at (get_or (item_names vs) j []) (take j vs) k (ap (is_new (get_or (item_names vs) j [])) none) (λ i u.
        ap₂ same_name (take-name j vs i (omega arith) ∙ sym (listed-names l i (omega arith))) (sym (listed-names l j (omega arith))) ∙ f.clear i j (omega arith) q)

    step : (j : ℕ) → j < r → is_named (judged_at j) ≡ true → is_small (judged_at j) ≡ true
        → judge (drop (start_of s at j) s) (start_of s at j) (standing j) ≡ judge (drop (start_of s at (suc j)) s) (start_of s at (suc j)) (standing (suc j))
    unfolding start_of behind hold_in
    step j q named small =
        let w = f.within in
        let x = l.each j (omega arith) in
        let p = start_of s at j in
        let st = standing j in
        let v = x.item in
        let sound : frame_fault (judged_at j) st ≡ (Ok tt) =
        ap (λ (o : Said). frame_fault o st) x.says
        ∙ value_passes (add_values (take j vs) k) ks v (still-timely j) (ap (λ (y : List ℕ). is_new y (add_values (take j vs) k).values) x.name ∙ is-new j q)
        (sym (ap is_named x.says) ∙ named) (sym (ap is_small x.says) ∙ small) in
        let open-then : behind (judged_at j) st ≡ standing (suc j) =
        ap (λ (o : Said). behind o st) x.says
        ∙ ap (λ (o : Open). within (o ∷ ks)) (ap (λ (y : List ℕ). with_value y (add_values (take j vs) k)) x.name ∙ sym (add-snoc vs k j (omega arith))) in
        judge-on (drop p s) p st (there j (omega arith)) sound
        ∙ ap₂ (λ (a : List ℕ) (b : State). judge a (p + frame_len (drop p s)) b) (drop-drop (frame_len (drop p s)) p s) open-then

    -- the values before the answer, whose names and data are within their bounds, are passed
    pub row-passed : (j : ℕ) → j ≤ r → ((i : ℕ) → i < j → (is_named (judged_at i) ≡ true) × (is_small (judged_at i) ≡ true))
        → judge (drop at s) at (within (k ∷ ks)) ≡ judge (drop (start_of s at j) s) (start_of s at j) (standing j)
    unfolding start_of add_values
    row-passed zero q h = refl
    row-passed (suc j) q h =
        let t = h j (omega arith) in
        row-passed j (omega arith) (λ i u. h i (omega arith)) ∙ step j (omega arith) t.0 t.1

    -- and the first that has an earlier namesake is at fault
    pub row-repeated : r < length vs → ((i : ℕ) → i < r → (is_named (judged_at i) ≡ true) × (is_small (judged_at i) ≡ true))
        → judge (drop at s) at (within (k ∷ ks)) ≡ Wrong (flaw Repeated nowhere) (start_of s at r)
    row-repeated q h =
        let x = l.each r q in
        let p = start_of s at r in
        let seen = ap (λ (y : List ℕ). is_new y (add_values (take r vs) k).values) x.name ∙ listed-again l f q k in
        row-passed r (omega arith) h
        ∙ judge-stop (drop p s) p (standing r) (there r q)
        (ap (λ (o : Said). frame_fault o (standing r)) x.says ∙ value-repeats (add_values (take r vs) k) ks x.item (still-timely r) seen)
