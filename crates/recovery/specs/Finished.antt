-- The finished file, byte by byte, and the repairs that lead to it.
use Rattle.std.specs.Prelude.{ℕ, zero, suc, ◌-◌, ◌/◌, ◌%◌, ◌≡◌, true, cond, ltb, length, get_or, Err, None, Ok, Option, Result, Some}
use mathlib.Core.List.{List, [], ◌∷◌, Memᴰ}
use Rattle.sectors.specs.Sector.{page}
use Rattle.logs.specs.Logs.{is_logged, logged, closing_of}
use Rattle.recovery.specs.declared.Stepped.TheVariants.{Done}
use Rattle.recovery.specs.Calls.{page_answer, page_hive, close_answer, close_hive, next_answer}
use Rattle.fields.specs.declared.Refusal.{Refusal}
use Rattle.recovery.specs.declared.LoggedPage.{LoggedPage}

-- byte i of the finished file: of the closing sector in the first 512, of a logged page in its place, and elsewhere as it was
abbrev pub finished_byte : List ℕ → List ℕ → ℕ → ℕ
finished_byte h l i =
    cond (ltb i 512) (get_or (closing_of l) i 0)
    (cond (ltb i 4096) (get_or h i 0)
    (cond (is_logged l ((i - 4096) / 512)) (get_or (logged l ((i - 4096) / 512)) ((i - 4096) % 512) 0) (get_or h i 0)))

-- the bytes f 0 to f (n - 1)
unfoldable pub listed : (ℕ → ℕ) → ℕ → List ℕ
listed f zero = []
listed f (suc n) = f 0 ∷ listed (λ (i : ℕ). f (suc i)) n

unfoldable pub finished : List ℕ → List ℕ → List ℕ
finished h l = listed (finished_byte h l) (length h)

-- the hive after a page call for each page of a list, in its order
unfoldable pub after_pages : List ℕ → List ℕ → List ℕ → List ℕ
after_pages h l [] = h
after_pages h l (p ∷ ps) = after_pages (page_hive h l p) l ps

-- "One page call for each set bit": each logged page is named at least once
abbrev pub Covers : List ℕ → List ℕ → Type 0
Covers l ps = (p : ℕ) → is_logged l p ≡ true → Memᴰ p ps

-- the pages that a host is given that asks for the next page from a number on, then from one past the page it was given, at most k times
abbrev pub given : Result (Option LoggedPage) Refusal → (ℕ → List ℕ) → List ℕ
given (Ok (Some x)) more = x.page ∷ more (suc x.page)
given (Ok None) more = []
given (Err r) more = []

unfoldable pub asked : ℕ → List ℕ → ℕ → List ℕ
asked zero l from = []
asked (suc k) l from = given (next_answer l from) (asked k l)

-- each logged page is in
abbrev pub AllIn : List ℕ → List ℕ → Type 0
AllIn h l = (p : ℕ) → is_logged l p ≡ true → page h p ≡ logged l p

-- "One page call for each set bit and one closing call finish the repair": those page calls are done, whatever came before; so is the closing call,
-- and it leaves the finished file
pub record Repaired (h l ps : List ℕ) : Type 0 where
  pub page-done : (qs : List ℕ) (p : ℕ) → is_logged l p ≡ true → page_answer (after_pages h l qs) l p ≡ Ok Done
  pub close-done : close_answer (after_pages h l ps) l ≡ Ok Done
  pub file : close_hive (after_pages h l ps) l ≡ finished h l
