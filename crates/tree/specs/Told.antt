-- What a refusal of the check says: "Each refusal is a number and a place, here an offset in the bins data (0 unless stated)", and the key under
-- examination. The table's rows 1 to 15, 28 and 29, each with its reason. h is the hive and d its bins data.
use Rattle.std.specs.Prelude.{◌≡◌, ℕ, suc, ◌/◌, ◌<◌, ◌≤◌, true, false, ◌⊎◌, ◌↔◌, List, ◌∷◌, length, ◌≢◌}
use mathlib.Core.List.{Memᴰ}
use Rattle.fields.specs.declared.Fault.TheVariants.{Order, Parent, Level, Namesake}
use Rattle.fields.specs.declared.Flaw.{Flaw}
use Rattle.fields.specs.declared.Offset.{Offset}
use Rattle.fields.specs.declared.Refusal.{Refusal}
use Rattle.fields.specs.Faults.{number_of, flaw, no_key}
use Rattle.base.specs.Block.{sector, bins_of, bins_data}
use Rattle.cells.specs.Rule.{Map}
use Rattle.cells.specs.Tiled.{BinsTile}
use Rattle.cells.specs.Refused.{OfSurvey}
use Rattle.names.specs.Comparison.{compare}
use Rattle.names.specs.Hashing.{hash_of}
use Rattle.names.specs.Hints.{fits_hint}
use Rattle.records.specs.declared.Child.{Child}
use Rattle.records.specs.Keys.{key_of}
use Rattle.records.specs.Lists.{children}
use Rattle.values.specs.Records.{data_in}
use Rattle.values.specs.Lists.{values_of}
use Rattle.values.specs.Refused.{a_key, a-value, Fit, Unfit, Among, Lists, Values, Data}
use Rattle.namesakes.specs.Namesakes.{Repeats}
use Rattle.security.specs.Refused.{OfSecurity}
use Rattle.tree.specs.declared.Hive.{Hive}
use Rattle.tree.specs.Tree.{name_at, levels, hive_of, keys_of}
use Rattle.tree.specs.WellFormed.{TreeStands}
use Rattle.std.specs.declared.cmp.Ordering.TheVariants.{Less}

-- the keys that the check comes to, with their levels: "The root is level 0"
pub data Reached (d : List ℕ) (root : Offset) : ℕ → Offset → Type 0 where
  the-root : Fit Map d a_key root → Reached d root 0 root
  a-child : {n : ℕ} {k : Offset} {c : Child} → Reached d root n k → Memᴰ c (children d k) → Fit Map d a_key c.at
      → Reached d root (suc n) c.at

-- c stands in a list, with b just before it
pub data Follows (b c : Child) : List Child → Type 0 where
  at_once : {cs : List Child} → Follows b c (b ∷ c ∷ cs)
  later : {e : Child} {cs : List Child} → Follows b c cs → Follows b c (e ∷ cs)

-- the key under examination, and the flaw
pub data OfTree (d : List ℕ) (hive : Hive) : Offset → Flaw → Type 0 where
  -- 11 and 12: of the root, with no key yet; of what a key lists, of its values and of their data, with that key
  of-root : {f : Flaw} → Unfit Map d a_key hive.root f → OfTree d hive no_key f
  of-lists : {n : ℕ} {k : Offset} {f : Flaw} → Reached d hive.root n k → n ≤ 512 → Among Map d (Lists Map d k) f → OfTree d hive k f
  of_values : {n : ℕ} {k : Offset} {f : Flaw} → Reached d hive.root n k → n ≤ 512 → Among Map d (Values Map d k) f → OfTree d hive k f
  of-data : {n : ℕ} {k v : Offset} {f : Flaw} → Reached d hive.root n k → n ≤ 512 → Memᴰ v (values_of d (key_of d k)) → Fit Map d a-value v
      → Among Map d (Data Map d (data_in d hive.minor v)) f → OfTree d hive k f
  -- 29: "the first value with an earlier namesake", with the key that holds the values
  of-namesake : {n : ℕ} {k v : Offset} → Reached d hive.root n k → n ≤ 512 → Repeats d (key_of d k) v → OfTree d hive k (flaw Namesake v)
  -- 13: "order of names, or `lh` hash", and the hint of an `lf`, at the key that is listed
  no-order : {n : ℕ} {k : Offset} {b c : Child} → Reached d hive.root n k → Follows b c (children d k) → Fit Map d a_key c.at
      → (compare (name_at d b.at) (name_at d c.at) ≢ Less) → OfTree d hive c.at (flaw Order c.at)
  other-hash : {n : ℕ} {k : Offset} {c : Child} → Reached d hive.root n k → Memᴰ c (children d k) → Fit Map d a_key c.at
      → c.hashed ≡ true → (c.beside ≢ hash_of (name_at d c.at)) → OfTree d hive c.at (flaw Order c.at)
  other-hint : {n : ℕ} {k : Offset} {c : Child} → Reached d hive.root n k → Memᴰ c (children d k) → Fit Map d a_key c.at
      → c.hinted ≡ true → fits_hint c.beside (name_at d c.at) ≡ false → OfTree d hive c.at (flaw Order c.at)
  -- 14: "parent, root listed, total count", at the key that is listed, and for the total at the key that lists
  other-parent : {n : ℕ} {k : Offset} {c : Child} → Reached d hive.root n k → Memᴰ c (children d k) → Fit Map d a_key c.at
      → ((key_of d c.at).parent.0 ≢ k.0) → OfTree d hive c.at (flaw Parent c.at)
  root-listed : {n : ℕ} {k : Offset} {c : Child} → Reached d hive.root n k → Memᴰ c (children d k) → Fit Map d a_key c.at
      → c.at.0 ≡ hive.root.0 → OfTree d hive c.at (flaw Parent c.at)
  other-total : {n : ℕ} {k : Offset} → Reached d hive.root n k → (length (children d k) ≢ (key_of d k).subkeys) → OfTree d hive k (flaw Parent k)
  -- 15: "level over 512", at that key
  too-deep : {n : ℕ} {k : Offset} → Reached d hive.root n k → 512 < n → OfTree d hive k (flaw Level k)

-- the whole check, for a map of so many bytes
pub data Told (h : List ℕ) (room : ℕ) : Offset → Flaw → Type 0 where
  of-survey : {f : Flaw} → OfSurvey h room f → Told h room no_key f
  of_tree : {k : Offset} {f : Flaw} → BinsTile (bins_data h) 0 → OfTree (bins_data h) (hive_of h) k f → Told h room k f
  -- 28: "given after the tree walk", so only where the tree stands
  of-security : {k : Offset} {f : Flaw} → BinsTile (bins_data h) 0 → TreeStands (bins_data h) (hive_of h) levels (hive_of h).root
      → OfSecurity (bins_data h) (hive_of h).root (keys_of h) k f → Told h room k f

-- which key a refusal of the check names, by its number
pub record Examined (h : List ℕ) (r : Refusal) : Type 0 where
  -- 1 to 10: none
  pub early : number_of r.fault ≤ 10 → r.key ≡ no_key
  -- 11 and 12: none exactly when the root itself is no key in use, else a key in use, of those that the walk reaches
  pub rootless : 11 ≤ number_of r.fault → number_of r.fault ≤ 12 → (r.key ≡ no_key) ↔ (Fit Map (bins_data h) a_key (hive_of h).root → ⊥)
  pub reached : 11 ≤ number_of r.fault → number_of r.fault ≤ 12 → Fit Map (bins_data h) a_key (hive_of h).root
      → Fit Map (bins_data h) a_key r.key × Memᴰ r.key (keys_of h)
  -- 13 to 15: the place
  pub placed : 13 ≤ number_of r.fault → number_of r.fault ≤ 15 → r.key ≡ r.place
  -- 29: "the key that holds the values", of those that the walk reaches
  pub holding : number_of r.fault ≡ 29 → Memᴰ r.key (keys_of h) × Memᴰ r.place (values_of (bins_data h) (key_of (bins_data h) r.key))
  -- 28: "met on the ring, the root"; else the place, a key whose offset is off the ring. Either is one of those that the walk reaches
  pub ringed : number_of r.fault ≡ 28 → Memᴰ r.key (keys_of h) × ((r.key ≡ (hive_of h).root) ⊎ (r.key ≡ r.place))

-- "bins size / 64 bytes"
abbrev pub map_bytes : List ℕ → ℕ
map_bytes h = bins_of (sector h) / 64
