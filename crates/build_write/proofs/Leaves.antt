-- The leaf of a key.
use Prim.Native.Nat.{ℕ, ◌+◌, ◌-◌, ◌*◌, ◌<◌, ◌≤◌}
use native.Mathlib.Omega.{arith}
use mathlib.Core.Path.{◌≡◌, refl, sym, ap, subst, ◌∙◌}
use mathlib.Core.List.{List, ◌∷◌, ◌++◌, append_assoc, append-nil}
use lib.ListN.{length, length-append}
use lib.Seq.{sets}
use Rattle.fields.specs.Number.{le16, le32}
use Rattle.fields.proofs.Little.{length-le16, length-le32}
use Rattle.names.specs.Hashing.{hash_of}
use Rattle.forest.specs.Forest.{Item, Forest, none, more, count_of}
use Rattle.layout.specs.Layout.{cell_size, cell_bytes, row_bytes, leaf_size, size_of, beside_at, elements, leaf_cells}
use Rattle.layout.proofs.Sizes.{cell_room, leaf-length}
use Rattle.build_frames.proofs.Sizes.{leaf-some}
use Rattle.build_cells.specs.Terms.{pad}
use Rattle.build_cells.proofs.Laws.{join2, join3, cell-put}
use Rattle.build_write.specs.declared.Elements.{Elements}
use Rattle.build_write.specs.Terms.{Room, KeyStands, KeysStand, SomeElement, ElementMore}
use Rattle.build_write.proofs.Stands.{first-stands, rest-stands, first-size, stand-apart}

-- ---- one element

pub element-more : (p : Elements) (before middle after : List ℕ) (x : List ℕ) (hash stop : ℕ) {vs : List Item} {b : Forest} → hash ≡ hash_of x
    → stop ≡ beside_at x vs b p.offset → middle ≡ sets before p.place (le32 p.offset) → after ≡ sets middle (p.place + 4) (le32 hash) → 0 < p.left
    → ElementMore p before after x vs b (record { left = p.left - 1; offset = stop; place = p.place + 8 })
element-more p before middle after x hash stop e f g h some =
    let a = length-le32 p.offset in
    record {
      bytes =
          h ∙ ap (λ (l : List ℕ). sets l (p.place + 4) (le32 hash)) g
          ∙ join2 (le32 p.offset) (le32 hash) before p.place (p.place + 4) (omega arith)
          ∙ ap (λ (n : ℕ). sets before p.place (le32 p.offset ++ le32 n)) e;
      fewer = omega arith;
      behind = f;
      onward = refl;
    }

-- ---- all of them: what is left to write makes the whole

pub record KeptElements (place offset : ℕ) (first now : List ℕ) (f rest : Forest) (p : Elements) : Type 0 where
  pub stand : KeysStand now p.offset rest
  pub bytes : sets now p.place (elements rest p.offset) ≡ sets first place (elements f offset)
  pub left : p.left ≡ count_of rest
  pub behind : p.offset + size_of rest ≡ offset + size_of f
  pub onward : p.place + 8 * count_of rest ≡ place + 8 * count_of f
  pub far : place ≤ p.place

abbrev pub Going : List ℕ → ℕ → ℕ → ℕ → List ℕ → Elements → Type 0
Going first place offset n now p =
    (f : Forest) → KeysStand first offset f → n ≡ count_of f → 4096 + offset + size_of f ≤ place → (rest : Forest) × KeptElements place offset first now f rest p

pub starts-going : (out : List ℕ) (place offset n : ℕ) → Going out place offset n out (record { left = n; offset = offset; place = place })
starts-going out place offset n f k e apart =
    (f, record { stand = k; bytes = refl; left = e; behind = refl; onward = refl; far = omega arith })

kept_on : (place offset : ℕ) (first now : List ℕ) (f : Forest) (p : Elements) (later : List ℕ) (q : Elements) (s : ℕ) (x : List ℕ) (vs : List Item) (b r : Forest)
    → 4096 + offset + size_of f ≤ place → KeptElements place offset first now f (more s x vs b r) p → ElementMore p now later x vs b q
    → KeptElements place offset first later f r q
unfolding elements count_of
kept_on place offset first now f p later q s x vs b r apart k m =
    let pair = le32 p.offset ++ le32 (hash_of x) in
    let l = length-append (le32 p.offset) (le32 (hash_of x)) in
    let l₁ = length-le32 p.offset in
    let l₂ = length-le32 (hash_of x) in
    let a = m.behind in
    let c = m.onward in
    let d = m.fewer in
    let g = k.left in
    let h = k.behind in
    let i = k.onward in
    let j = k.far in
    let z = first-size s x vs b r p.offset in
    record {
      stand =
          subst (λ (l : List ℕ). KeysStand l q.offset r) (sym m.bytes)
          (stand-apart now q.offset r p.place pair (omega arith) (rest-stands now p.offset s x vs b r k.stand q.offset a));
      bytes =
          ap (λ (l : List ℕ). sets l q.place (elements r q.offset)) m.bytes
          ∙ join2 pair (elements r q.offset) now p.place q.place (omega arith)
          ∙ ap (λ (n : ℕ). sets now p.place (pair ++ elements r n)) a
          ∙ ap (sets now p.place) (append_assoc (le32 p.offset) (le32 (hash_of x)) (elements r (beside_at x vs b p.offset)))
          ∙ k.bytes;
      left = omega arith;
      behind = omega arith;
      onward = omega arith;
      far = omega arith;
    }

none_left : (f : Forest) → count_of f ≡ 0 → f ≡ none
unfolding count_of
none_left none e = refl
none_left (more s x vs b r) e = absurd (omega (arith, e))

module _ (first : List ℕ) (place offset n : ℕ) (now : List ℕ) (p : Elements) (g : Going first place offset n now p) where
  module _ (some : p.left ≡ 0 → ⊥) where
    pub element-fits : (m : ℕ) → length now ≡ m → (f : Forest) → KeysStand first offset f → n ≡ count_of f → 4096 + offset + size_of f ≤ place → place + 8 * n ≤ m
        → SomeElement now p
    unfolding count_of
    element-fits m w f k e apart room = by (g f k e apart).0 (g f k e apart).1
      where
        by : (rest : Forest) → KeptElements place offset first now f rest p → SomeElement now p
        by none y = absurd (some y.left)
        by (more s x vs b r) y =
            let a = y.onward in
            (omega (arith, some), omega arith, (x, vs, b, first-stands now p.offset s x vs b r y.stand))

    pub goes_on : (later : List ℕ) (q : Elements)
        → ((x : List ℕ) (vs : List Item) (b : Forest) → KeyStands now p.offset x vs b → ElementMore p now later x vs b q)
        → Going first place offset n later q
    unfolding count_of
    goes_on later q more_of f k e apart = by (g f k e apart).0 (g f k e apart).1
      where
        by : (rest : Forest) → KeptElements place offset first now f rest p → (left : Forest) × KeptElements place offset first later f left q
        by none y = absurd (some y.left)
        by (more s x vs b r) y =
            (r, kept_on place offset first now f p later q s x vs b r apart y (more_of x vs b (first-stands now p.offset s x vs b r y.stand)))

  pub all_there : p.left ≡ 0 → (f : Forest) → KeysStand first offset f → n ≡ count_of f → 4096 + offset + size_of f ≤ place
      → now ≡ sets first place (elements f offset)
  unfolding elements count_of
  all_there z f k e apart = by (g f k e apart).0 (g f k e apart).1
    where
      by : (rest : Forest) → KeptElements place offset first now f rest p → now ≡ sets first place (elements f offset)
      by none y = y.bytes
      by (more s x vs b r) y = absurd (omega (arith, z, y.left))

-- ---- the cell

pub leaf-none : (l : List ℕ) (at offset n : ℕ) → n ≡ 0 → (f : Forest) → n ≡ count_of f → l ≡ sets l at (row_bytes (leaf_cells f offset))
unfolding leaf_cells row_bytes count_of
leaf-none l at offset n z none e = refl
leaf-none l at offset n z (more s x vs b r) e = absurd (omega (arith, z, e))

pub leaf-few : (leaf n m : ℕ) → (n ≡ 0 → ⊥) → Room leaf (leaf_size n) m → (4 + 8 * n < 2147483648) × (4096 + leaf + cell_size (4 + 8 * n) ≤ m)
leaf-few leaf n m z r =
    let a = leaf-some n z in
    let b = cell_room (4 + 8 * n) in
    let c = r.low in
    let d = r.inside in
    (omega arith, omega arith)

-- what is written of a leaf before its elements leaves the keys as they are
pub still-stand : (l m₁ m₂ m₃ : List ℕ) (first leaf n : ℕ) (f : Forest) → m₁ ≡ sets l (4096 + leaf) (le32 (4294967296 - cell_size (4 + 8 * n)))
    → m₂ ≡ sets m₁ (4096 + leaf + 4) (le16 26732) → m₃ ≡ sets m₂ (4096 + leaf + 6) (le16 n) → first + size_of f ≤ leaf → KeysStand l first f
    → KeysStand m₃ first f
still-stand l m₁ m₂ m₃ first leaf n f p q r s k =
    subst (λ (m : List ℕ). KeysStand m first f) (sym r)
    (stand-apart m₂ first f (4096 + leaf + 6) (le16 n) (omega arith)
    (subst (λ (m : List ℕ). KeysStand m first f) (sym q)
    (stand-apart m₁ first f (4096 + leaf + 4) (le16 26732) (omega arith)
    (subst (λ (m : List ℕ). KeysStand m first f) (sym p) (stand-apart l first f (4096 + leaf) (le32 (4294967296 - cell_size (4 + 8 * n))) (omega arith) k)))))

mark : (x : List ℕ) → le16 26732 ++ x ≡ 108 ∷ 104 ∷ x
unfolding le16
mark x = refl

pub leaf-put : (l : List ℕ) (at offset n : ℕ) → (n ≡ 0 → ⊥) → (f : Forest) → n ≡ count_of f
    → sets (sets (sets (sets (sets l at (le32 (4294967296 - cell_size (4 + 8 * n)))) (at + 4) (le16 26732)) (at + 6) (le16 n)) (at + 8) (elements f offset))
    (at + 4 + (4 + 8 * n)) (pad (4 + 8 * n))
    ≡ sets l at (row_bytes (leaf_cells f offset))
unfolding leaf_cells row_bytes count_of
leaf-put l at offset n z none e = absurd (z e)
leaf-put l at offset n z (more s x vs b r) e =
    let f = more s x vs b r in
    let m = sets l at (le32 (4294967296 - cell_size (4 + 8 * n))) in
    let a = length-le16 26732 in
    let c = length-le16 n in
    let d = leaf-length f offset in
    let whole : List ℕ = 108 ∷ 104 ∷ (le16 (count_of f) ++ elements f offset) in
    ap (λ (y : List ℕ). sets y (at + 4 + (4 + 8 * n)) (pad (4 + 8 * n)))
    (join3 (le16 26732) (le16 n) (elements f offset) m (at + 4) (at + 6) (at + 8) (omega arith) (omega arith)
    ∙ ap (sets m (at + 4)) (mark (le16 n ++ elements f offset))
    ∙ ap (λ (k : ℕ). sets m (at + 4) (108 ∷ 104 ∷ (le16 k ++ elements f offset))) e)
    ∙ cell-put whole l at (4 + 8 * n) (omega arith)
    ∙ ap (sets l at) (sym (append-nil (cell_bytes whole)))

-- for the tactics
pub ruleset leaf_ways = (leaf-none, leaf-few, leaf-put, still-stand, cell_room)
