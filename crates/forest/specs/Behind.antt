-- What is open behind some values of a key, and behind some keys side by side, each with all that is in it.
use Rattle.std.specs.Prelude.{List, [], ◌∷◌}
use Rattle.forest.specs.Forest.{Item, Forest, none, more}
use Rattle.forest.specs.Faults.{Open, with_value, with_subkey}

unfoldable pub add_values : List Item → Open → Open
add_values [] k = k
add_values (v ∷ vs) k = add_values vs (with_value v.name k)

unfoldable pub add_keys : Forest → Open → Open
add_keys none k = k
add_keys (more s x vs b r) k = add_keys r (with_subkey x k)
