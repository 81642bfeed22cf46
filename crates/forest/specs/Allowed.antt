-- What a forest must be for a hive to be made of it, as plain facts: what is left when no cause of a refusal 30 to 38 is there.
use Rattle.std.specs.Prelude.{ℕ, suc, ◌^◌, ◌≤◌, ◌<◌, ◌≡◌, false, length}
use mathlib.Core.List.{List, [], ◌∷◌, Memᴰ}
use Rattle.names.specs.Comparison.{compare, same_name}
use Rattle.forest.specs.Forest.{Item, Forest, none, more, count_of, names_of, item_names}
use Rattle.std.specs.declared.cmp.Ordering.TheVariants.{Less}

-- every number of a list is below a bound: bytes and codes
abbrev pub AllBelow : ℕ → List ℕ → Type 0
AllBelow n xs = (x : ℕ) → Memᴰ x xs → x < n

-- each name before all later ones, by "compared by code after upper-casing", strictly
pub data Sorted : List (List ℕ) → Type 0 where
  sorted_none : Sorted []
  sorted_more : {x : List ℕ} {xs : List (List ℕ)} → ((y : List ℕ) → Memᴰ y xs → compare x y ≡ Less) → Sorted xs → Sorted (x ∷ xs)

-- "no two values of a key have the same name"
pub data Apart : List (List ℕ) → Type 0 where
  apart_none : Apart []
  apart_more : {x : List ℕ} {xs : List (List ℕ)} → ((y : List ℕ) → Memᴰ y xs → same_name x y ≡ false) → Apart xs → Apart (x ∷ xs)

-- "A name has 1 to 255 characters and no backslash"
pub record KeyName (x : List ℕ) : Type 0 where
  pub some : 1 ≤ length x
  pub few : length x ≤ 255
  pub no-backslash : Memᴰ 92 x → ⊥
  pub codes-fit : AllBelow 65536 x

-- a value's name has "at most 16,383 characters", its data "at most 1,048,576" bytes
pub record ItemAllowed (v : Item) : Type 0 where
  pub kind_fits : v.kind < 2 ^ 32
  pub name-fits : length v.name ≤ 16383
  pub codes-fit : AllBelow 65536 v.name
  pub data-fits : length v.bytes ≤ 1048576
  pub bytes_fit : AllBelow 256 v.bytes

-- of a key by itself: its stamp, its name, its values, and the names and the number of the keys below it
pub record KeyAllowed (s : ℕ) (x : List ℕ) (vs : List Item) (b : Forest) : Type 0 where
  pub stamp-fits : s < 2 ^ 64
  pub name : KeyName x
  pub each : (v : Item) → Memᴰ v vs → ItemAllowed v
  pub apart : Apart (item_names vs)
  pub sorted : Sorted (names_of b)
  pub few : count_of b ≤ 65535

-- a forest of at most so many levels
pub data Allowed : ℕ → Forest → Type 0 where
  allowed-none : {n : ℕ} → Allowed n none
  allowed-more : {n s : ℕ} {x : List ℕ} {vs : List Item} {b r : Forest} → KeyAllowed s x vs b → Allowed n b → Allowed (suc n) r
      → Allowed (suc n) (more s x vs b r)

-- "one balanced root key"; "The root is level 0; level 512 is the last"
pub record OneRoot (f : Forest) : Type 0 where
  pub single : count_of f ≡ 1
  pub allowed : Allowed 513 f
