-- What the code asks of its callers and its loops keep. s is the stream.
use Rattle.std.specs.Prelude.{ℕ, ◌≤◌, ◌<◌, List, length, get_or}
use Rattle.chains.specs.Chains.{Chained}
use Rattle.namesake_laws.specs.Tables.{Telling}
use Rattle.build_frames.specs.declared.Text.{Text}
use Rattle.build_frames.specs.Terms.{name_in, TextLies}
use Rattle.build_namesakes.specs.Rows.{Held, name_at}

-- the names of the values whose frames start where a table says
abbrev pub starts_called : List ℕ → List ℕ → ℕ → List ℕ
starts_called s starts i = name_at s (get_or starts i 0)

-- a name x, of the hash g, is looked for among the n values of a table
pub record Ready (s : List ℕ) (n : ℕ) (x : Text) (g : ℕ) (ks older heads starts : List ℕ) : Type 0 where
  pub held : (i : ℕ) → i < n → Held s (get_or starts i 0)
  pub room : n ≤ length starts
  pub name : TextLies s x
  pub table : Chained ks older heads n
  pub telling : Telling (starts_called s starts) n ks g (name_in s x)
