-- What a caller knows in each arm of a frame that was read.
use mathlib.Core.Path.{◌≡◌, sym, subst}
use mathlib.Core.Bool.{true}
use mathlib.Core.List.{List}
use Prim.Native.Nat.{ℕ}
use Rattle.forest.specs.Faults.{Shape as Said, unlaid, opens, holds, closes, is_laid}
use Rattle.build_frames.specs.declared.Opening.{Opening}
use Rattle.build_frames.specs.declared.Held.{Held}
use Rattle.build_frames.specs.declared.Shape.{Shape}
use Rattle.build_frames.specs.declared.Shape.TheVariants.{Unlaid, Opens, Holds, Closes}
use Rattle.build_frames.specs.Terms.{name_in, item_in, shape_in, NameLies, HeldLies, Lies, ReadAs}

module _ {s : List ℕ} {f : Said} {r : Shape} (x : ReadAs s f r) where
  said : {q : Shape} → r ≡ q → f ≡ shape_in s q
  said e = sym (subst (λ (q : Shape). shape_in s q ≡ f) e x.is)

  lie : {q : Shape} → r ≡ q → Lies s q
  lie e = subst (λ (q : Shape). Lies s q) e x.lies

  pub said-nothing : r ≡ Unlaid → f ≡ unlaid
  said-nothing e = said e

  module _ {o : Opening} (e : r ≡ Opens o) where
    pub said-opens : f ≡ opens o.stamp (name_in s o.name)
    said-opens = said e

    pub opens-lies : NameLies s o.name
    opens-lies = lie e

    pub opens-laid : is_laid f ≡ true
    unfolding is_laid
    opens-laid = rw said-opens

  module _ {v : Held} (e : r ≡ Holds v) where
    pub said-holds : f ≡ holds (item_in s v)
    said-holds = said e

    pub holds-lies : HeldLies s v
    holds-lies = lie e

    pub holds-laid : is_laid f ≡ true
    unfolding is_laid
    holds-laid = rw said-holds

  module _ (e : r ≡ Closes) where
    pub said-closes : f ≡ closes
    said-closes = said e

    pub closes-laid : is_laid f ≡ true
    unfolding is_laid
    closes-laid = rw said-closes
