-- One page call for each set bit, in any order, and one closing call give the finished file.
use Prim.Native.Nat.{ℕ, zero, suc, ◌+◌, ◌-◌, ◌*◌, ◌/◌, ◌%◌, ◌≤◌, ◌<◌}
use native.Mathlib.Decide.{ℕ_discrete, dec_lt}
use native.Mathlib.Nat.{not-suc-le-zero, le_of_suc-le-suc}
use native.Mathlib.Omega.{arith}
use mathlib.Core.Path.{◌≡◌, refl, sym, ap, subst, ◌∙◌}
use mathlib.Core.Logic.{◌⊎◌, inl, inr}
use mathlib.Core.Bool.{Bool, true, false, cond, false≢true}
use mathlib.Core.List.Memᴰ
use mathlib.Core.List.{List, [], ◌∷◌, Memᴰ}
use lib.Dec.{ltb}
use lib.ListN.{length, take, drop, get_or, get_or-append}
use lib.Seq.{get_or-take, get_or-drop, ext_get_or}
use borrow.Author.Tests.{lt-ltb, le-ltb}
use Rattle.sectors.specs.Sector.{stored, page}
use Rattle.sectors.proofs.Stored.{stored-length, stored-drop}
use Rattle.sectors.proofs.Pages.{page-byte}
use Rattle.logs.specs.Logs.{page_count, is_logged, logged, closing_of}
use Rattle.logs.proofs.Laws.{version-logged, closing-length}
use Rattle.recovery.specs.declared.Started.TheVariants.{Pages}
use Rattle.recovery.specs.Calls.{start_answer, page_hive, close_hive}
use Rattle.recovery.specs.Finished.{finished_byte, listed, finished, after_pages, Covers, AllIn, Repaired}
use Rattle.recovery.proofs.Within.{Version, Within, within-self, said, good, page-done, within-page, page-is, page-stays, all-close, close-stores}
use Rattle.std.specs.Prelude.{Ok}

pub length-listed : (f : ℕ → ℕ) (n : ℕ) → length (listed f n) ≡ n
unfolding listed
length-listed f zero = refl
length-listed f (suc n) = ap suc (length-listed (λ (i : ℕ). f (suc i)) n)

pub get_d-listed : (f : ℕ → ℕ) (n i : ℕ) → i < n → get_or (listed f n) i 0 ≡ f i
unfolding listed
get_d-listed f zero i g = absurd (not-suc-le-zero g)
get_d-listed f (suc n) zero g = refl
get_d-listed f (suc n) (suc i) g = get_d-listed (λ (j : ℕ). f (suc j)) n i (le_of_suc-le-suc g)

-- a byte past what two files share
same-past : (a b : List ℕ) (k i : ℕ) → k ≤ i → drop k a ≡ drop k b → get_or a i 0 ≡ get_or b i 0
same-past a b k i g e =
    let m : k + (i - k) ≡ i = omega arith in
    sym (get_or-drop k a (i - k) 0 ∙ ap (λ (j : ℕ). get_or a j 0) m) ∙ ap (λ (x : List ℕ). get_or x (i - k) 0) e
    ∙ get_or-drop k b (i - k) 0 ∙ ap (λ (j : ℕ). get_or b j 0) m

same-before : (a b : List ℕ) (k i : ℕ) → i < k → take k a ≡ take k b → get_or a i 0 ≡ get_or b i 0
same-before a b k i g e = sym (get_or-take k a i 0 g) ∙ ap (λ (x : List ℕ). get_or x i 0) e ∙ get_or-take k b i 0 g

module _ (h l : List ℕ) (n : ℕ) (ok : start_answer h l ≡ Ok (Pages n)) where
  abbrev pub lid : List ℕ
  lid = closing_of l

  pub lid-length : length lid ≡ 512
  lid-length = closing-length l (good h l n ok).log

  -- ---- a file with every logged page in, once the closing sector is stored

  module _ (d : List ℕ) (w : Within h l d) (i : AllIn d l) where
    long : 512 ≤ length d
    long = omega (arith, (said h l n ok).long, w.long)

    -- a byte of the bins data
    bins-byte : (k : ℕ) → 4096 ≤ k → (m : Bool) → is_logged l ((k - 4096) / 512) ≡ m
        → get_or d k 0 ≡ cond m (get_or (logged l ((k - 4096) / 512)) ((k - 4096) % 512) 0) (get_or h k 0)
    bins-byte k g true e = sym (page-byte d k g) ∙ ap (λ (x : List ℕ). get_or x ((k - 4096) % 512) 0) (i ((k - 4096) / 512) e)
    bins-byte k g false e = go (dec_lt ((k - 4096) / 512) (page_count l))
      where
        old : Version h l ((k - 4096) / 512) (page d ((k - 4096) / 512)) → page d ((k - 4096) / 512) ≡ page h ((k - 4096) / 512)
        old (inl v) = v
        old (inr v) = absurd (false≢true (sym e ∙ version-logged l ((k - 4096) / 512) _ v))

        go : Dec ((k - 4096) / 512 < page_count l) → get_or d k 0 ≡ get_or h k 0
        go (yes b) = sym (page-byte d k g) ∙ ap (λ (x : List ℕ). get_or x ((k - 4096) % 512) 0) (old (w.pages ((k - 4096) / 512) b)) ∙ page-byte h k g
        go (no b) = same-past d h (4096 + 512 * page_count l) k (omega arith) w.back

    hive-byte : (k : ℕ) → 512 ≤ k → get_or d k 0 ≡ finished_byte h l k
    hive-byte k g = go (dec_lt k 4096)
      where
        first : ltb k 512 ≡ false
        first = le-ltb k 512 g

        rest : ℕ
        rest = cond (is_logged l ((k - 4096) / 512)) (get_or (logged l ((k - 4096) / 512)) ((k - 4096) % 512) 0) (get_or h k 0)

        go : Dec (k < 4096) → get_or d k 0 ≡ finished_byte h l k
        go (yes b) =
            same-before d h 4096 k b w.front
            ∙ sym (λ t. cond (first t) (get_or lid k 0) (cond (lt-ltb k 4096 b t) (get_or h k 0) rest))
        go (no b) =
            bins-byte k (omega arith) (is_logged l ((k - 4096) / 512)) refl
            ∙ sym (λ t. cond (first t) (get_or lid k 0) (cond (le-ltb k 4096 (omega arith) t) (get_or h k 0) rest))

    closed-byte : (k : ℕ) → get_or (stored d 0 lid) k 0 ≡ finished_byte h l k
    closed-byte k = go (dec_lt k 512)
      where
        rest : ℕ
        rest = cond (ltb k 4096) (get_or h k 0) (cond (is_logged l ((k - 4096) / 512)) (get_or (logged l ((k - 4096) / 512)) ((k - 4096) % 512) 0) (get_or h k 0))

        go : Dec (k < 512) → get_or (stored d 0 lid) k 0 ≡ finished_byte h l k
        go (yes b) =
            get_or-append lid (drop 512 d) 0 k (omega (arith, lid-length)) ∙ sym (ap (λ (x : Bool). cond x (get_or lid k 0) rest) (lt-ltb k 512 b))
        go (no b) =
            same-past (stored d 0 lid) d 512 k (omega arith) (stored-drop d 0 lid lid-length long 512 (omega arith)) ∙ hive-byte k (omega arith)

    pub finished-is : stored d 0 lid ≡ finished h l
    unfolding finished
    finished-is =
        let m : length (stored d 0 lid) ≡ length h = stored-length d 0 lid lid-length long ∙ w.long in
        ext_get_or 0 (stored d 0 lid) (listed (finished_byte h l) (length h)) (m ∙ sym (length-listed (finished_byte h l) (length h)))
        (λ k g. closed-byte k ∙ sym (get_d-listed (finished_byte h l) (length h) k (omega (arith, m))))

    pub close-finishes : close_hive d l ≡ finished h l
    close-finishes = close-stores h l n ok d w i ∙ finished-is

  -- ---- page calls

  pub pages-within : (ps d : List ℕ) → Within h l d → Within h l (after_pages d l ps)
  unfolding after_pages
  pages-within [] d w = w
  pages-within (p ∷ ps) d w = pages-within ps (page_hive d l p) (within-page h l n ok d w p)

  -- a page that is in stays in
  pages-keep : (ps d : List ℕ) → Within h l d → (p : ℕ) → is_logged l p ≡ true → page d p ≡ logged l p → page (after_pages d l ps) p ≡ logged l p
  unfolding after_pages
  pages-keep [] d w p m e = e
  pages-keep (q ∷ ps) d w p m e = pages-keep ps (page_hive d l q) (within-page h l n ok d w q) p m (go (ℕ_discrete p q))
    where
      go : Dec (p ≡ q) → page (page_hive d l q) p ≡ logged l p
      go (yes s) = subst (λ (x : ℕ). page (page_hive d l x) p ≡ logged l p) s (page-is h l n ok d w p m)
      go (no s) = page-stays h l n ok d w q p s ∙ e

  pages-in : (ps d : List ℕ) → Within h l d → (p : ℕ) → is_logged l p ≡ true → Memᴰ p ps → page (after_pages d l ps) p ≡ logged l p
  unfolding after_pages
  pages-in [] d w p m k = absurd (Memᴰ.not-nil k)
  pages-in (q ∷ ps) d w p m k = go (pages-in ps (page_hive d l q) (within-page h l n ok d w q) p m) (Memᴰ.cases_cons k)
    where
      go : (Memᴰ p ps → page (after_pages (page_hive d l q) l ps) p ≡ logged l p) → (p ≡ q) ⊎ Memᴰ p ps
          → page (after_pages (page_hive d l q) l ps) p ≡ logged l p
      go rest (inl s) =
          pages-keep ps (page_hive d l q) (within-page h l n ok d w q) p m
          (subst (λ (x : ℕ). page (page_hive d l x) p ≡ logged l p) s (page-is h l n ok d w p m))
      go rest (inr k) = rest k

  -- page calls that cover the log, on any file that a repair can reach
  pub covered : (ps d : List ℕ) → Within h l d → Covers l ps → AllIn (after_pages d l ps) l
  covered ps d w c p m = pages-in ps d w p m (c p m)

  -- Theorem 2.
  pub repaired : (ps : List ℕ) → Covers l ps → Repaired h l ps
  repaired ps c =
      let w = pages-within ps h (within-self h l) in
      let i = covered ps h (within-self h l) c in
      record {
        page-done = λ qs p m. page-done h l n ok (after_pages h l qs) (pages-within qs h (within-self h l)) p m;
        close-done = all-close h l n ok (after_pages h l ps) w i;
        file = close-finishes (after_pages h l ps) w i;
      }
