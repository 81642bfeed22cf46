-- The test of a key's record holds exactly when the record is what the plain facts say.
use Prim.Native.Nat.{ℕ, ◌+◌, ◌%◌}
use native.Mathlib.Omega.{arith}
use mathlib.Core.Path.{◌≡◌, refl, sym, ap, ap₂}
use mathlib.Core.Bool.{Bool, true, false, not, ◌&&◌, ◌||◌}
use mathlib.Core.Logic.{◌↔◌, ⊎_elim}
use mathlib.Core.List.Memᴰ
use mathlib.Core.List.{List, [], ◌∷◌, Memᴰ}
use lib.Dec.{eqb}
use lib.ListN.{length}
use borrow.Author.Tests.{eqb-true, eqb-false, eq-eqb, ne_eqb, le-leb}
use Rattle.fields.specs.Number.{u16_at}
use Rattle.fields.specs.Bytes.{same_bytes, stands_at}
use Rattle.fields.proofs.Bools.{and-inv, and_both, never}
use Rattle.names.specs.Codes.{codes, characters_in, has_code, backslash}
use Rattle.names.proofs.LawsCodes.{counted}
use Rattle.cells.proofs.Parts.{part_length}
use Rattle.records.specs.Keys.{is_whole, is_key_name, key_narrow, key_name, is_key}
use Rattle.records.specs.Facts.{Signed, KeyRecord}
use Rattle.records.proofs.LawsKey.{is-key-facts}

-- a signature
signed : (r : List ℕ) (x y : ℕ) → stands_at r 0 (x ∷ y ∷ []) ≡ true → Signed r x y
unfolding stands_at same_bytes
signed [] x y e = absurd (let z : ◌≡◌ {A = ℕ} 0 1 = cc in omega arith)
signed (a ∷ []) x y e = absurd (let p = (and-inv (eqb a x) _ e).1 in let z : ◌≡◌ {A = ℕ} 0 1 = cc in omega arith)
signed (a ∷ b ∷ r) x y e =
    let p = and-inv (eqb a x) _ e in
    let q = and-inv (eqb b y) _ p.1 in
    ap₂ (λ (i j : ℕ). i ∷ j ∷ []) (eqb-true a x p.0) (eqb-true b y q.0)

-- of two bytes that stand there, what the test says of any two
pub stands : (r : List ℕ) {a b : ℕ} → Signed r a b → (x y : ℕ) → stands_at r 0 (x ∷ y ∷ []) ≡ eqb a x && (eqb b y && true)
unfolding stands_at same_bytes
stands r e x y = rw e

pub signed-exactly : (r : List ℕ) (x y : ℕ) → (stands_at r 0 (x ∷ y ∷ []) ≡ true) ↔ Signed r x y
signed-exactly r x y = (signed r x y, λ e. rw (stands r e x y, eq-eqb x x refl, eq-eqb y y refl))

-- an even length, where a character has two bytes
pub even-of : (len : ℕ) (narrow : Bool) → is_whole len narrow ≡ true → narrow ≡ false → len % 2 ≡ 0
even-of len true e f = absurd (never true refl f)
even-of len false e f = eqb-true (len % 2) 0 e

pub of-even : (len : ℕ) (narrow : Bool) → (narrow ≡ false → len % 2 ≡ 0) → is_whole len narrow ≡ true
of-even len true f = refl
of-even len false f = eq-eqb (len % 2) 0 (f refl)

-- a code that does not stand in a name
code_out : (k : ℕ) (cs : List ℕ) → has_code k cs ≡ false → Memᴰ k cs → ⊥
unfolding has_code
code_out k [] e i = Memᴰ.not-nil i
code_out k (c ∷ cs) e i = by (code_out k cs) (eqb c k) refl e
  where
    by : (has_code k cs ≡ false → Memᴰ k cs → ⊥) → (t : Bool) → eqb c k ≡ t → t || has_code k cs ≡ false → ⊥
    by rest true p q = never true refl q
    by rest false p q = ⊎_elim (λ s. eqb-false c k p (sym s)) (rest q) (Memᴰ.cases_cons i)

out-code : (k : ℕ) (cs : List ℕ) → (Memᴰ k cs → ⊥) → has_code k cs ≡ false
unfolding has_code
out-code k [] f = refl
out-code k (c ∷ cs) f = rw (ne_eqb c k (λ e. f (Memᴰ.head (sym e)))) (out-code k cs (λ i. f (Memᴰ.tail i)))

module _ (r : List ℕ) where
  key-is : KeyRecord r → is_key r ≡ true
  unfolding is_key is_key_name
  key-is k =
      let n = counted (key_narrow r) (key_name r) in
      let whole : is_whole (length (key_name r)) (key_narrow r) ≡ true
      = rw (part_length r 76 (u16_at r 72) k.room) (of-even (u16_at r 72) (key_narrow r) k.even) in
      and_both (le-leb 76 (length r) (omega (arith, k.room)))
      (and_both ((signed-exactly r 110 107).1 k.nk)
      (and_both (le-leb (76 + u16_at r 72) (length r) k.room)
      (and_both whole
      (and_both (le-leb 1 (characters_in (length (key_name r)) (key_narrow r)) (omega (arith, k.some)))
      (and_both (le-leb (characters_in (length (key_name r)) (key_narrow r)) 255 (omega (arith, k.few)))
      (ap not (out-code backslash (codes (key_narrow r) (key_name r)) k.no-backslash)))))))

  pub key-exactly : (is_key r ≡ true) ↔ KeyRecord r
  key-exactly = (to, key-is)
    where
      to : is_key r ≡ true → KeyRecord r
      to e =
          let k = is-key-facts r e in
          record {
            nk = signed r 110 107 k.signature;
            room = k.room;
            even = even-of (u16_at r 72) (key_narrow r) k.whole;
            some = k.some;
            few = k.few;
            no-backslash = code_out backslash (codes (key_narrow r) (key_name r)) k.no-backslash;
          }
