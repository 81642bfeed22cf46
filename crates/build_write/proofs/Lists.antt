-- The value list of a key.
use Prim.Native.Nat.{ℕ, ◌+◌, ◌-◌, ◌*◌, ◌<◌, ◌≤◌}
use native.Mathlib.Omega.{arith}
use mathlib.Core.Path.{◌≡◌, refl, sym, ap, subst, ◌∙◌}
use mathlib.Core.Bool.{true, false}
use mathlib.Core.List.{List, [], ◌∷◌, ◌++◌, append-nil}
use lib.ListN.{length, drop}
use lib.Seq.{sets}
use Rattle.fields.specs.Number.{le32}
use Rattle.fields.proofs.Bools.{never}
use Rattle.fields.proofs.Little.{length-le32}
use Rattle.forest.specs.Forest.{Item}
use Rattle.forest.specs.Faults.{holds, shape_of, is_laid}
use Rattle.layout.specs.Layout.{cell_size, cell_bytes, row_bytes, value_size, values_size, value_offsets, list_cells, list_size}
use Rattle.build_frames.specs.declared.Held.{Held}
use Rattle.build_frames.specs.Terms.{item_in, Ends}
use Rattle.build_cells.specs.Terms.{pad}
use Rattle.build_frames.proofs.Sizes.{list-some}
use Rattle.build_cells.proofs.Laws.{join2, cell-put}
use Rattle.layout.proofs.Sizes.{cell_room, value-offsets-length}
use Rattle.build_write.proofs.Values.{same_item, first-allowed, first-shape, rest-here, here-laid, no_more, values-first, value-is-one}
use Rattle.build_write.specs.declared.Listing.{Listing}
use Rattle.build_write.specs.Terms.{is_value, Holding, Room, ValuesHere, ListFits, ListedMore}

-- ---- one offset

module _ (s : List ℕ) (p : Listing) (u : Held) (h : Holding s p.at u) (size : ℕ) (e : size ≡ value_size (item_in s u)) where
  pub listed-low : (v : Item) (n : ℕ) → ListFits s p v n → p.offset + size < 2147483648
  listed-low v n x =
      let a = x.low in
      let b = ap value_size (same_item (sym x.is ∙ h.is)) in
      omega arith

  pub listed_more : (before after : List ℕ) (r : Listing) → after ≡ sets before p.place (le32 p.offset) → Ends s p.at r.at
      → r.offset ≡ p.offset + size → r.place ≡ p.place + 4 → (v : Item) → shape_of (drop p.at s) ≡ holds v → ListedMore s p before after v r
  listed_more before after r b x o k v f =
      let y = x.further in
      let z = ap value_size (same_item (sym h.is ∙ f)) in
      record { bytes = b; ends = x.is; inside = x.inside; further = omega arith; behind = o ∙ ap (λ (m : ℕ). p.offset + m) (e ∙ z); onward = k }

-- ---- all of them: what is left to write makes the whole

pub record KeptList (place offset : ℕ) (first now : List ℕ) (vs rest : List Item) (p : Listing) : Type 0 where
  pub bytes : sets now p.place (value_offsets rest p.offset) ≡ sets first place (value_offsets vs offset)
  pub behind : p.offset + values_size rest ≡ offset + values_size vs
  pub onward : p.place + 4 * length rest ≡ place + 4 * length vs

abbrev pub Listed : List ℕ → ℕ → List ℕ → ℕ → ℕ → List ℕ → Listing → Type 0
Listed s at first place offset now p =
    (vs : List Item) (t : List ℕ) → ValuesHere s at vs t → (rest : List Item) × ValuesHere s p.at rest t × KeptList place offset first now vs rest p

pub starts-listing : (s : List ℕ) (at : ℕ) (out : List ℕ) (place offset : ℕ) (p : Listing) → p.at ≡ at → p.place ≡ place → p.offset ≡ offset
    → Listed s at out place offset out p
starts-listing s at out place offset p a b c vs t h = (
  vs,
  subst (λ (k : ℕ). ValuesHere s k vs t) (sym a) h,
  record {
    bytes = ap (λ (k : ℕ). sets out k (value_offsets vs p.offset)) b ∙ ap (λ (k : ℕ). sets out place (value_offsets vs k)) c;
    behind = omega (arith, c);
    onward = omega (arith, b);
  },
)

kept-list : (s : List ℕ) (first : List ℕ) (place offset : ℕ) (now : List ℕ) (p : Listing) (later : List ℕ) (r : Listing) (vs : List Item) (v : Item)
    (rest : List Item) → KeptList place offset first now vs (v ∷ rest) p → ListedMore s p now later v r → KeptList place offset first later vs rest r
unfolding value_offsets
kept-list s first place offset now p later r vs v rest k m =
    let a = length-le32 p.offset in
    let b = m.behind in
    let c = m.onward in
    let d = k.onward in
    let o = k.behind in
    let f = values-first v rest in
    let y : r.place ≡ p.place + length (le32 p.offset) = omega arith in
    record {
      bytes =
          ap (λ (l : List ℕ). sets l r.place (value_offsets rest r.offset)) m.bytes
          ∙ join2 (le32 p.offset) (value_offsets rest r.offset) now p.place r.place y
          ∙ ap (λ (n : ℕ). sets now p.place (le32 p.offset ++ value_offsets rest n)) b
          ∙ k.bytes;
      behind = omega arith;
      onward = omega arith;
    }

module _ (s : List ℕ) (at : ℕ) (first : List ℕ) (place offset : ℕ) (now : List ℕ) (p : Listing) (g : Listed s at first place offset now p) where
  pub listed-laid : (vs : List Item) (t : List ℕ) → ValuesHere s at vs t → is_laid (shape_of (drop p.at s)) ≡ true
  listed-laid vs t h = here-laid s p.at (g vs t h).0 t (g vs t h).1

  module _ (one : is_value (shape_of (drop p.at s)) ≡ true) where
    pub list-fits : (n : ℕ) (vs : List Item) (t : List ℕ) → ValuesHere s at vs t → offset + values_size vs < 2147483648 → place + 4 * length vs ≤ n
        → (v : Item) × ListFits s p v n
    list-fits n vs t h low room = by (g vs t h).0 (g vs t h).1 (g vs t h).2
      where
        by : (rest : List Item) → ValuesHere s p.at rest t → KeptList place offset first now vs rest p → (v : Item) × ListFits s p v n
        by [] x k = absurd (never (is_value (shape_of (drop p.at s))) one (no_more s p.at t x))
        by (v ∷ rest) x k =
            let a = k.behind in
            let b = values-first v rest in
            let c = k.onward in
            (v, record { starts = x.starts; is = first-shape s p.at v rest t x; allowed = first-allowed s p.at v rest t x; low = omega arith; room = omega arith })

    pub lists-on : (later : List ℕ) (r : Listing) → ((v : Item) → shape_of (drop p.at s) ≡ holds v → ListedMore s p now later v r)
        → Listed s at first place offset later r
    lists-on later r more vs t h = by (g vs t h).0 (g vs t h).1 (g vs t h).2
      where
        by : (rest : List Item) → ValuesHere s p.at rest t → KeptList place offset first now vs rest p
            → (left : List Item) × ValuesHere s r.at left t × KeptList place offset first later vs left r
        by [] x k = absurd (never (is_value (shape_of (drop p.at s))) one (no_more s p.at t x))
        by (v ∷ rest) x k =
            let m = more v (first-shape s p.at v rest t x) in
            (rest, rest-here s p.at v rest t x r.at m.ends m.inside, kept-list s first place offset now p later r vs v rest k m)

  pub all_listed : is_value (shape_of (drop p.at s)) ≡ false → (vs : List Item) (t : List ℕ) → ValuesHere s at vs t
      → now ≡ sets first place (value_offsets vs offset)
  unfolding value_offsets
  all_listed none vs t h = by (g vs t h).0 (g vs t h).1 (g vs t h).2
    where
      by : (rest : List Item) → ValuesHere s p.at rest t → KeptList place offset first now vs rest p → now ≡ sets first place (value_offsets vs offset)
      by [] x k = k.bytes
      by (v ∷ rest) x k = absurd (never (is_value (shape_of (drop p.at s))) (value-is-one _ v (first-shape s p.at v rest t x)) none)

pub more_room : {k m n : ℕ} → m ≡ n → k ≤ n → k ≤ m
more_room e r = omega (arith, e, r)

-- ---- the cell

pub list-none : (l : List ℕ) (at offset n : ℕ) → n ≡ 0 → (vs : List Item) → n ≡ length vs → l ≡ sets l at (row_bytes (list_cells vs offset))
unfolding list_cells row_bytes
list-none l at offset n z [] e = refl
list-none l at offset n z (v ∷ vs) e = absurd (omega (arith, z, e))

pub list-few : (list n m : ℕ) → (n ≡ 0 → ⊥) → Room list (list_size n) m → (4 * n < 2147483648) × (4096 + list + cell_size (4 * n) ≤ m)
list-few list n m z r =
    let a = list-some n z in
    let b = cell_room (4 * n) in
    let c = r.low in
    let d = r.inside in
    (omega arith, omega arith)

pub list_put : (l : List ℕ) (at offset n : ℕ) → (n ≡ 0 → ⊥) → (vs : List Item) → n ≡ length vs
    → sets (sets (sets l at (le32 (4294967296 - cell_size (4 * n)))) (at + 4) (value_offsets vs offset)) (at + 4 + 4 * n) (pad (4 * n))
    ≡ sets l at (row_bytes (list_cells vs offset))
unfolding list_cells row_bytes
list_put l at offset n z [] e = absurd (z e)
list_put l at offset n z (v ∷ vs) e =
    let a = value-offsets-length (v ∷ vs) offset in
    cell-put (value_offsets (v ∷ vs) offset) l at (4 * n) (omega arith) ∙ ap (sets l at) (sym (append-nil (cell_bytes (value_offsets (v ∷ vs) offset))))

-- for the tactics
pub ruleset list_ways = (list-none, list-few, list_put, cell_room)
