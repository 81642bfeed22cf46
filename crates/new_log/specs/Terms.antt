-- What the loops over a log's versions do, one version after the other.
use Rattle.std.specs.Prelude.{ℕ, List, [], ◌∷◌}
use Rattle.sectors.specs.Sector.{sector_at, stored, page_place}
use Rattle.log_versions.specs.declared.Version.{Version}

-- h with each version of l put in, in turn
unfoldable pub put_each : List ℕ → List Version → List ℕ → List ℕ
put_each l [] h = h
put_each l (v ∷ vs) h = put_each l vs (stored h (page_place v.page) (sector_at l v.place))
