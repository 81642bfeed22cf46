use Rattle.stream.proofs.Laws.{named-stands}
use Rattle.stream.proofs.put_open.Goals as goal

pub put_name-requires-clause-name_stands : goal.put_name-requires-clause-name_stands
put_name-requires-clause-name_stands c = named-stands _ _ c.requires.k_value _ c.key_fields.ensures
