-- A path taken apart from its start: the first part, and what stands behind it.
use Prim.Native.Nat.{ℕ, suc, ◌+◌, ◌-◌, ◌<◌, ◌≤◌}
use native.Mathlib.Omega.{arith}
use native.Mathlib.Numerals.{add-one}
use mathlib.Core.Path.{◌≡◌, refl, sym, ap, ◌∙◌}
use mathlib.Core.Bool.{Bool, true, false, cond}
use mathlib.Core.List.{List, [], ◌∷◌}
use lib.Dec.{eqb}
use lib.ListN.{length, get_or, take, drop, length-drop}
use lib.Seq.{drop-cons, drop-drop}
use borrow.Author.Tests.{eq-eqb, ne_eqb}
use Rattle.fields.proofs.Bools.{and-inv, never}
use Rattle.fields.proofs.Loops.{drop_all}
use Rattle.names.specs.Codes.{backslash}
use Rattle.paths.specs.Paths.{join_first, split, first_part, parts_of, is_part, are_parts}

-- the parts behind the first
unfoldable pub behind : List ℕ → List (List ℕ)
behind [] = []
behind (u ∷ us) = cond (eqb u backslash) (split us) (behind us)

pub split-is : (us : List ℕ) → split us ≡ first_part us ∷ behind us
unfolding split first_part behind
split-is [] = refl
split-is (u ∷ us) = by (eqb u backslash) refl (split-is us)
  where
    by : (t : Bool) → eqb u backslash ≡ t → split us ≡ first_part us ∷ behind us
        → cond (eqb u backslash) ([] ∷ split us) (join_first u (split us))
        ≡ cond (eqb u backslash) [] (u ∷ first_part us) ∷ cond (eqb u backslash) (split us) (behind us)
    by true e q = rw e
    by false e q = rw (e, q)

-- the first part is the start of the path
first_taken : (us : List ℕ) → take (length (first_part us)) us ≡ first_part us
unfolding first_part
first_taken [] = refl
first_taken (u ∷ us) = by (eqb u backslash) refl (first_taken us)
  where
    by : (t : Bool) → eqb u backslash ≡ t → take (length (first_part us)) us ≡ first_part us
        → take (length (cond (eqb u backslash) [] (u ∷ first_part us))) (u ∷ us) ≡ cond (eqb u backslash) [] (u ∷ first_part us)
    by true e q = rw e
    by false e q = rw e (ap (λ (l : List ℕ). u ∷ l) q)

first-within : (us : List ℕ) → length (first_part us) ≤ length us
unfolding first_part
first-within [] = omega arith
first-within (u ∷ us) = by (eqb u backslash) refl (first-within us)
  where
    by : (t : Bool) → eqb u backslash ≡ t → length (first_part us) ≤ length us → length (cond (eqb u backslash) [] (u ∷ first_part us)) ≤ suc (length us)
    by true e q = rw e (omega arith)
    by false e q = rw e (omega arith)

-- behind it stand the parts of what follows its backslash, or none
behind-cut : (us : List ℕ) → length (first_part us) < length us → behind us ≡ split (drop (suc (length (first_part us))) us)
unfolding first_part behind
behind-cut [] p = absurd (omega arith)
behind-cut (u ∷ us) p = by (eqb u backslash) refl (behind-cut us)
  where
    by : (t : Bool) → eqb u backslash ≡ t → (length (first_part us) < length us → behind us ≡ split (drop (suc (length (first_part us))) us))
        → cond (eqb u backslash) (split us) (behind us) ≡ split (drop (length (cond (eqb u backslash) [] (u ∷ first_part us))) us)
    by true e q = rw e
    by false e q = rw e (q (let s = rw e at p in omega arith))

behind-end : (us : List ℕ) → length us ≤ length (first_part us) → behind us ≡ []
unfolding first_part behind
behind-end [] p = refl
behind-end (u ∷ us) p = by (eqb u backslash) refl (behind-end us)
  where
    by : (t : Bool) → eqb u backslash ≡ t → (length us ≤ length (first_part us) → behind us ≡ []) → cond (eqb u backslash) (split us) (behind us) ≡ []
    by true e q = absurd (let s = rw e at p in omega arith)
    by false e q = rw e (q (let s = rw e at p in omega arith))

-- ---- the loop that looks for the end of a part: so far no backslash

module _ (us : List ℕ) (start i : ℕ) (inv : start + length (first_part (drop start us)) ≡ i + length (first_part (drop i us))) where
  pub part_cut : i < length us → get_or us i 0 ≡ 92 → i ≡ start + length (first_part (drop start us))
  unfolding first_part
  part_cut p e = let n = rw (drop-cons us i 0 p, eq-eqb (get_or us i 0) backslash e) at inv in omega arith

  pub part-on : i < length us → (get_or us i 0 ≡ 92 → ⊥) → start + length (first_part (drop start us)) ≡ i + 1 + length (first_part (drop (i + 1) us))
  unfolding first_part
  part-on p e = let n = rw (drop-cons us i 0 p, ne_eqb (get_or us i 0) backslash e) at inv in rw (add-one i) (omega arith)

  pub part-over : length us ≤ i → i ≡ start + length (first_part (drop start us))
  unfolding first_part
  part-over p = let n = rw (drop_all us i p) at inv in omega arith

-- ---- along a path, part by part

parts-some : (us : List ℕ) → 0 < length us → parts_of us ≡ split us
unfolding parts_of
parts-some [] p = absurd (omega arith)
parts-some (u ∷ us) p = refl

-- no part is empty, so what is split is not
split-some : (us : List ℕ) → are_parts (split us) ≡ true → parts_of us ≡ split us
unfolding split parts_of are_parts is_part
split-some [] e = absurd (never _ e refl)
split-some (u ∷ us) e = refl

-- the part from `start` to `end`, and the parts from the start of the next
module _ (us : List ℕ) (start end : ℕ) (more : start < length us) (ends : end ≡ start + length (first_part (drop start us)))
    (good : are_parts (parts_of (drop start us)) ≡ true) where
  rest_some : 0 < length (drop start us)
  rest_some = simp length-drop (omega arith)

  parts_are : parts_of (drop start us) ≡ first_part (drop start us) ∷ behind (drop start us)
  parts_are = parts-some (drop start us) rest_some ∙ split-is (drop start us)

  pub end-within : end ≤ length us
  end-within = let w = first-within (drop start us) in let l = length-drop start us in omega arith

  part-is : take (end - start) (drop start us) ≡ first_part (drop start us)
  part-is =
      let e : end - start ≡ length (first_part (drop start us)) = omega arith in
      ap (λ (k : ℕ). take k (drop start us)) e ∙ first_taken (drop start us)

  pub part-first : parts_of (drop start us) ≡ take (end - start) (drop start us) ∷ behind (drop start us)
  part-first = parts_are ∙ rw part-is

  behind-good : are_parts (behind (drop start us)) ≡ true
  unfolding are_parts
  behind-good = (and-inv (is_part (first_part (drop start us))) _ (sym (ap are_parts parts_are) ∙ good)).1

  -- where the next part starts
  module _ (next : ℕ) where
    pub record Next : Type 0 where
      pub within : next ≤ length us
      pub onward : start < next
      pub rest-good : are_parts (parts_of (drop next us)) ≡ true
      pub parts : parts_of (drop start us) ≡ take (end - start) (drop start us) ∷ parts_of (drop next us)

    next-is : next ≤ length us → start < next → behind (drop start us) ≡ parts_of (drop next us) → Next
    next-is w o e =
        record {
          within = w;
          onward = o;
          rest-good = sym (ap are_parts e) ∙ behind-good;
          parts = part-first ∙ rw e;
        }

    pub next-cut : end < length us → next ≡ end + 1 → Next
    next-cut p e =
        let l = length-drop start us in
        let q : start + suc (length (first_part (drop start us))) ≡ next = omega arith in
        let b : behind (drop start us) ≡ split (drop next us) =
        behind-cut (drop start us) (omega arith) ∙ ap split (drop-drop (suc (length (first_part (drop start us)))) start us ∙ ap (λ (k : ℕ). drop k us) q) in
        next-is (omega arith) (omega arith) (b ∙ sym (split-some (drop next us) (sym (ap are_parts b) ∙ behind-good)))

    pub next-end : length us ≤ end → next ≡ end → Next
    unfolding parts_of
    next-end p e =
        let l = length-drop start us in
        let w = end-within in
        next-is (omega arith) (omega arith) (behind-end (drop start us) (omega arith) ∙ sym (ap parts_of (drop_all us next (omega arith))))
