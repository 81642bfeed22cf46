-- What the code asks of its callers, and what its loop keeps. d is the bins data.
use Rattle.std.specs.Prelude.{ℕ, ◌+◌, ◌*◌, ◌≤◌, ◌≡◌, true, List}
use Rattle.names.specs.Codes.{characters_in}
use Rattle.records.specs.declared.Name.{Name}
use Rattle.records.specs.Keys.{is_whole, NameIn}
use Rattle.values.specs.declared.Value.{Value}
use Rattle.values.specs.Segments.{length_of}
use Rattle.values.specs.Terms.{Lies}

-- how many bytes a name has in UTF-16LE
abbrev pub wide_len : Name → ℕ
wide_len n = 2 * characters_in n.len n.narrow

-- a name that lies in its cell, "even bytes if UTF-16" and "at most 16,383 characters"
pub record NameStands (d : List ℕ) (n : Name) : Type 0 where
  pub inside : NameIn d n
  pub whole : is_whole n.len n.narrow ≡ true
  pub few : characters_in n.len n.narrow ≤ 16383

-- a value whose record and data were tested
pub record ValueLies (d : List ℕ) (x : Value) : Type 0 where
  pub name : NameStands d x.name
  pub data-lies : Lies d x.content
  pub small : length_of x.content ≤ 1048576

-- how long the frames are that open a key and that hold a value
abbrev pub open_len : Name → ℕ
open_len n = 14 + wide_len n

abbrev pub value_len : Value → ℕ
value_len x = 14 + wide_len x.name + length_of x.content
