-- The forest that a stream says: its frames are one balanced root key, each key with its values and then its subkeys. Total on any bytes; what it is for a
-- stream with a fault says nothing.
use Rattle.std.specs.Prelude.{ℕ, zero, suc, List, [], ◌∷◌, length, drop}
use Rattle.forest.specs.Forest.{Item, Forest, none, more}
use Rattle.forest.specs.Faults.{Shape, unlaid, opens, holds, closes, frame_len, shape_of}

-- what the frames say up to the closing of the key that is open, or up to the end: values, then keys side by side; and the bytes that are left behind
pub record Content : Type 0 where
  pub values : List Item
  pub keys : Forest
  pub left : List ℕ

abbrev pub content : List Item → Forest → List ℕ → Content
content vs f t = record { values = vs; keys = f; left = t }

-- a value, before the others
abbrev pub with_item : Item → Content → Content
with_item v c = content (v ∷ c.values) c.keys c.left

-- a key that holds the first, before the keys of the second
abbrev pub with_key : ℕ → List ℕ → Content → Content → Content
with_key s x c d = content [] (more s x c.values c.keys d.keys) d.left

-- a frame, the bytes behind it, and how those are read: behind a key's opening comes what it holds, and behind its closing what stands beside it
unfoldable pub read_as : Shape → (List ℕ → Content) → List ℕ → Content
read_as unlaid go t = content [] none []
read_as (opens s x) go t = with_key s x (go t) (go (go t).left)
read_as (holds v) go t = with_item v (go t)
read_as closes go t = content [] none t

-- frame by frame; each has at least 6 bytes, so as many turns as there are bytes are enough
unfoldable pub read_n : ℕ → List ℕ → Content
read_n zero r = content [] none []
read_n (suc n) r = read_as (shape_of r) (read_n n) (drop (frame_len r) r)

unfoldable pub forest_in : List ℕ → Forest
forest_in s = (read_n (length s) s).keys
