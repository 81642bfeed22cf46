-- What holds of a log whatever its format: all that the crates above use of it. Each law goes by the format: b says whether it is a new one.
use Prim.Native.Nat.{ℕ, ◌+◌, ◌/◌, ◌≤◌, ◌<◌}
use native.Mathlib.Omega.{arith}
use mathlib.Core.Path.{◌≡◌, refl, sym, ap, subst, ◌∙◌}
use mathlib.Core.Logic.{◌⊎◌, ◌↔◌}
use mathlib.Core.Bool.{Bool, true, false, cond}
use mathlib.Core.List.Memᴰ
use mathlib.Core.List.{List, [], ◌∷◌, ◌++◌, Memᴰ}
use lib.ListN.{length}
use Rattle.fields.proofs.Every.{Every}
use Rattle.base.specs.Block.{sector, clean}
use Rattle.base.proofs.Laws.{Sized}
use Rattle.bitmap.specs.Bits.{is_marked}
use Rattle.bitmap.proofs.Laws as bits
use Rattle.sectors.specs.Sector.{sector_at, page, Bytes}
use Rattle.sectors.proofs.Logged.{below_in, in-below}
use Rattle.log_versions.specs.Versions as versions
use Rattle.new_log.specs.Layout as new-layout
use Rattle.new_log.specs.Tests as new-tests
use Rattle.new_log.proofs.Accepts as new-accepts
use Rattle.new_log.proofs.Closing as new-closing
use Rattle.new_log.proofs.Facts as new-facts
use Rattle.new_log.proofs.Half as new-half
use Rattle.new_log.proofs.Next as new-next
use Rattle.new_log.proofs.Refusals as new-refusals
use Rattle.old_log.specs.Layout as layout
use Rattle.old_log.specs.Tests as tests
use Rattle.old_log.proofs.Accepts as accepts
use Rattle.old_log.proofs.Closing as closing
use Rattle.old_log.proofs.Facts as facts
use Rattle.old_log.proofs.Half.{half-agrees}
use Rattle.old_log.proofs.Refusals as refusals
use Rattle.old_log.proofs.Versions as old-versions
use Rattle.logs.specs.Logs.{is_new, head_fault, log_fault, log_bins, page_count, is_logged, next_logged, versions_of, logged_place, logged, marks_of, applies, all_in, closing_of}
use Rattle.logs.specs.Accepted.{GoodAs, Good, AppliedAs, Applied}
use Rattle.logs.specs.Refused.{OfHeadAs, OfHead, OfLogAs, OfLog}
use Rattle.fields.specs.Faults.{Verdict}
use Rattle.std.specs.Prelude.{None, Ok, Option, Some}

module _ (l : List ℕ) where
  -- ---- each question, by the format

  abbrev head : Bool → Verdict
  head b = cond b (new-tests.log_fault l) (tests.head_fault l)

  abbrev fault : Bool → Verdict
  fault b = cond b (new-tests.log_fault l) (tests.log_fault l)

  abbrev bins : Bool → ℕ
  bins b = cond b (new-layout.log_bins l) (layout.log_bins l)

  abbrev is : Bool → ℕ → Bool
  is b = cond b (versions.is_logged l) (layout.is_logged l)

  abbrev next : Bool → ℕ → Option ℕ
  next b from = cond b (new-layout.next_logged l from) (layout.next_logged l from)

  abbrev each : Bool → ℕ → List (List ℕ)
  each b p = cond b (versions.versions_of l p) (layout.versions_of l p)

  abbrev place : Bool → ℕ → ℕ
  place b p = cond b (versions.logged_place l p) (layout.logged_place l p)

  abbrev last : Bool → ℕ → List ℕ
  last b = cond b (versions.logged l) (layout.logged l)

  abbrev marks : Bool → List ℕ
  marks b = cond b (new-layout.marks_of l) (layout.bitmap l)

  abbrev closes : Bool → List ℕ
  closes b = cond b (new-tests.closing_of l) (tests.closing_of l)

  -- ---- its own tests

  pub head_of : log_fault l ≡ Ok tt → head_fault l ≡ Ok tt
  unfolding log_fault head_fault
  head_of = go (is_new l)
    where
      go : (b : Bool) → fault b ≡ Ok tt → head b ≡ Ok tt
      go true e = e
      go false e = facts.head_of l e

  pub good-exactly : (log_fault l ≡ Ok tt) ↔ Good l
  unfolding log_fault
  good-exactly = go (is_new l)
    where
      go : (b : Bool) → (fault b ≡ Ok tt) ↔ GoodAs b l
      go true = new-accepts.good-exactly l
      go false = accepts.good-exactly l

  pub head-refuses : Every (OfHead l) (head_fault l)
  unfolding head_fault
  head-refuses = go (is_new l)
    where
      go : (b : Bool) → Every (OfHeadAs b l) (head b)
      go true = new-refusals.log-refuses l
      go false = refusals.head-refuses l

  pub log-refuses : Every (OfLog l) (log_fault l)
  unfolding log_fault
  log-refuses = go (is_new l)
    where
      go : (b : Bool) → Every (OfLogAs b l) (fault b)
      go true = new-refusals.log-refuses l
      go false = refusals.log-refuses l

  -- ---- its pages

  -- it has a first sector
  pub log-long : log_fault l ≡ Ok tt → 512 ≤ length l
  unfolding log_fault
  log-long = go (is_new l)
    where
      go : (b : Bool) → fault b ≡ Ok tt → 512 ≤ length l
      go true e = new-facts.log-long l e
      go false e = (facts.head-facts l (facts.head_of l e)).long

  -- the bins size is one that a base block may have
  pub bins-sized : head_fault l ≡ Ok tt → Sized (log_bins l)
  unfolding head_fault log_bins
  bins-sized = go (is_new l)
    where
      go : (b : Bool) → head b ≡ Ok tt → Sized (bins b)
      go true e = new-facts.bins-sized l e
      go false e = (facts.head-facts l e).size

  pub marked-below : head_fault l ≡ Ok tt → (p : ℕ) → is_logged l p ≡ true → p < page_count l
  unfolding head_fault log_bins is_logged
  marked-below = go (is_new l)
    where
      go : (b : Bool) → head b ≡ Ok tt → (p : ℕ) → is b p ≡ true → p < bins b / 512
      go true e p m = new-facts.logged-below l p m
      go false e p m = facts.marked-below l e p m

  pub logged-below : log_fault l ≡ Ok tt → (p : ℕ) → is_logged l p ≡ true → p < page_count l
  logged-below e p m = marked-below (head_of e) p m

  -- page p is the least logged one at or after a number
  pub record Least (from p : ℕ) : Type 0 where
    pub marked : is_logged l p ≡ true
    pub after : from ≤ p
    pub least : (q : ℕ) → from ≤ q → q < p → is_logged l q ≡ false

  pub next-least : (from p : ℕ) → next_logged l from ≡ Some p → Least from p
  unfolding next_logged is_logged
  next-least from p e = let b = go (is_new l) e in record { marked = b.marked; after = b.after; least = b.least }
    where
      go : (b : Bool) → next b from ≡ Some p → bits.Least (is b) from p
      go true e = new-next.next-least l from p e
      go false e = bits.next-least (layout.bitmap l) from p e

  -- and where there is none, no page from there on is logged
  pub next-none : (from : ℕ) → next_logged l from ≡ None → (q : ℕ) → from ≤ q → is_logged l q ≡ false
  unfolding next_logged is_logged
  next-none from = go (is_new l)
    where
      go : (b : Bool) → next b from ≡ None → (q : ℕ) → from ≤ q → is b q ≡ false
      go true e q g = new-next.next-none l from e q g
      go false e q g = bits.next-none (layout.bitmap l) from e q g

  -- ---- their versions

  -- only a logged page has a version
  pub version-logged : (p : ℕ) (x : List ℕ) → Memᴰ x (versions_of l p) → is_logged l p ≡ true
  unfolding versions_of is_logged
  version-logged p x = go (is_new l)
    where
      go : (b : Bool) → Memᴰ x (each b p) → is b p ≡ true
      go true i = new-facts.version-logged l p x i
      go false i = (old-versions.version-is l p x i).0

  pub version-length : log_fault l ≡ Ok tt → (p : ℕ) (x : List ℕ) → Memᴰ x (versions_of l p) → length x ≡ 512
  unfolding log_fault versions_of
  version-length = go (is_new l)
    where
      go : (b : Bool) → fault b ≡ Ok tt → (p : ℕ) (x : List ℕ) → Memᴰ x (each b p) → length x ≡ 512
      go true e p x i = new-facts.version-length l p x i
      go false e p x i = let v = old-versions.version-is l p x i in ap length v.1 ∙ facts.logged-length l e p v.0

  -- what is put in is the last of them
  pub logged-last : (p : ℕ) → is_logged l p ≡ true → (xs : List (List ℕ)) × (versions_of l p ≡ xs ++ (logged l p ∷ []))
  unfolding is_logged versions_of logged
  logged-last p = go (is_new l)
    where
      go : (b : Bool) → is b p ≡ true → (xs : List (List ℕ)) × (each b p ≡ xs ++ (last b p ∷ []))
      go true m = new-facts.logged-last l p m
      go false m = old-versions.logged-last l p m

  pub logged-version : (p : ℕ) → is_logged l p ≡ true → Memᴰ (logged l p) (versions_of l p)
  logged-version p m = let v = logged-last p m in subst (Memᴰ (logged l p)) (sym v.1) (Memᴰ.append_right v.0 (Memᴰ.head refl))

  pub logged-length : log_fault l ≡ Ok tt → (p : ℕ) → is_logged l p ≡ true → length (logged l p) ≡ 512
  logged-length e p m = version-length e p (logged l p) (logged-version p m)

  -- where it lies
  pub logged-is : (p : ℕ) → logged l p ≡ sector_at l (logged_place l p)
  unfolding logged logged_place versions.logged layout.logged
  logged-is p = go (is_new l)
    where
      go : (b : Bool) → last b p ≡ sector_at l (place b p)
      go true = refl
      go false = refl

  pub logged-fits : log_fault l ≡ Ok tt → (p : ℕ) → is_logged l p ≡ true → logged_place l p + 512 ≤ length l
  unfolding log_fault is_logged logged_place
  logged-fits = go (is_new l)
    where
      go : (b : Bool) → fault b ≡ Ok tt → (p : ℕ) → is b p ≡ true → place b p + 512 ≤ length l
      go true e p m = new-facts.logged-fits l p m
      go false e p m = facts.logged-fits l e p m

  -- the bitmap of its pages
  pub marks-length : log_fault l ≡ Ok tt → length (marks_of l) ≡ page_count l / 8
  unfolding log_fault log_bins marks_of
  marks-length = go (is_new l)
    where
      go : (b : Bool) → fault b ≡ Ok tt → length (marks b) ≡ bins b / 512 / 8
      go true e = new-next.marks-length l
      go false e = let h = facts.head_of l e in omega (arith, facts.map-length l h, (facts.head-facts l h).size.pages)

  pub marks-logged : log_fault l ≡ Ok tt → (p : ℕ) → is_marked (marks_of l) p ≡ is_logged l p
  unfolding log_fault is_logged marks_of
  marks-logged = go (is_new l)
    where
      go : (b : Bool) → fault b ≡ Ok tt → (p : ℕ) → is_marked (marks b) p ≡ is b p
      go true e p = new-next.marks-logged l e p
      go false e p = refl

  -- ---- the closing sector

  pub closing-length : log_fault l ≡ Ok tt → length (closing_of l) ≡ 512
  unfolding log_fault closing_of
  closing-length = go (is_new l)
    where
      go : (b : Bool) → fault b ≡ Ok tt → length (closes b) ≡ 512
      go true e = new-closing.closing-length l e
      go false e = closing.closing-length l e

  pub closing-clean : log_fault l ≡ Ok tt → Bytes l → clean (closing_of l) ≡ true
  unfolding log_fault closing_of
  closing-clean = go (is_new l)
    where
      go : (b : Bool) → fault b ≡ Ok tt → Bytes l → clean (closes b) ≡ true
      go true e k = new-closing.closing-clean l e k
      go false e k = closing.closing-clean l e k

-- the name by which an attribute in the code cites it
pub ruleset log_long = (log-long)

-- ---- what it says of a hive

module _ (h l : List ℕ) where
  abbrev of : Bool → List ℕ → Bool
  of b d = cond b (new-tests.applies d l) (tests.stamps_agree d l)

  pub applies-exactly : (applies h l ≡ true) ↔ Applied h l
  unfolding applies
  applies-exactly = go (is_new l)
    where
      go : (b : Bool) → (of b h ≡ true) ↔ AppliedAs b h l
      go true = new-accepts.stamped-exactly h l
      go false = accepts.stamped-exactly h l

  -- "else half a repair would bar the other half": the log is still one of a file that has the hive's base block, and whose page 0 is the hive's or any version of it
  pub half-applies : (d : List ℕ) → sector d ≡ sector h → (page d 0 ≡ page h 0) ⊎ Memᴰ (page d 0) (versions_of l 0) → applies h l ≡ true → applies d l ≡ true
  unfolding versions_of applies
  half-applies d base = go (is_new l)
    where
      go : (b : Bool) → (page d 0 ≡ page h 0) ⊎ Memᴰ (page d 0) (each l b 0) → of b h ≡ true → of b d ≡ true
      go true first e = new-half.half-applies h l d base first e
      go false first e = half-agrees h l d base first e

  -- the pages are in, exactly when the test says so
  pub all_in_lem : log_fault l ≡ Ok tt → all_in h l ≡ true → (p : ℕ) → is_logged l p ≡ true → page h p ≡ logged l p
  all_in_lem e a p m = below_in (is_logged l) (logged l) h (page_count l) a p (logged-below l e p m) m

  pub in_all : ((p : ℕ) → is_logged l p ≡ true → page h p ≡ logged l p) → all_in h l ≡ true
  in_all f = in-below (is_logged l) (logged l) h (page_count l) f
