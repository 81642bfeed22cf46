-- "A place in the file and an offset in the bins data are two kinds of number (place = 4096 + offset) and must not be mixable."
use Rattle.std.specs.Prelude.{◌+◌, ◌-◌, cond, leb, ltb, None, Option, Some}
use Rattle.fields.specs.declared.Offset.{Offset}
use Rattle.fields.specs.declared.Place.{Place}

abbrev pub place_of : Offset → Place
place_of o = record { 0 = o.0 + 4096 }

unfoldable pub offset_of : Place → Option Offset
offset_of p =
    cond (ltb p.0 4096) None (cond (leb 4294967296 (p.0 - 4096)) None (Some (record { 0 = p.0 - 4096 })))
