-- The rows of the walk, child by child.
use Rattle.std.proofs.Common.{◌≡◌, ℕ, zero, suc, ◌<◌, List, [], ◌∷◌, length, get_or, sym, refl, ap, ◌∙◌, arith, eq-eqb, ne_eqb}
use Rattle.records.specs.declared.Child.{Child}
use Rattle.records.specs.declared.Leaf.{Leaf}
use Rattle.records.specs.Terms.{elements_of, ElementsLie, child_named, no_child}
use Rattle.records.proofs.LawsElements.{elements-length, element-at}
use Rattle.tree.specs.Terms.{alone, row_children, RowLies}

module _ (d : List ℕ) (l : Leaf) where
  pub row-start : l.width ≡ 0 → row_children d l ≡ alone l.cell ∷ []
  unfolding row_children
  row-start e = rw (eq-eqb l.width 0 e)

  row-leaf : (l.width ≡ 0 → ⊥) → row_children d l ≡ elements_of d l
  unfolding row_children
  row-leaf f = rw (ne_eqb l.width 0 f)

  -- as many as the row counts
  pub row-length : RowLies d l → length (row_children d l) ≡ l.count
  row-length r = by l.width refl
    where
      by : (w : ℕ) → l.width ≡ w → length (row_children d l) ≡ l.count
      by zero e = ap length (row-start e) ∙ sym (r.one e)
      by (suc w) e = ap length (row-leaf (λ z. omega arith)) ∙ elements-length d l

  pub row-element : (i : ℕ) → i < l.count → (l.width ≡ 0 → ⊥) → {c : Child} → c ≡ child_named d l i → c ≡ get_or (row_children d l) i no_child
  row-element i p f q = rw (row-leaf f) (element-at d l i p q)

  -- a leaf is a row
  module _ (s : ElementsLie d l) where
    wide : l.width ≡ 0 → ⊥
    wide e = let w = s.offset-fits in omega arith

    pub leaf-row : RowLies d l
    leaf-row = record { one = λ e. absurd (wide e); lies = λ f. s }

    pub leaf-children : row_children d l ≡ elements_of d l
    leaf-children = row-leaf wide
