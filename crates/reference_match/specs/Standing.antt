-- The services that stand: direct ones, and those of open periods. Our own.
use Rattle.std.specs.Prelude.{◌==◌, List, ◌++◌, Bool, not, filter}
use Rattle.service_registry.specs.declared.row.ServiceRow.{ServiceRow}

-- the service of an open period is registered: where its component provides none it has no number
abbrev pub is_registered : ServiceRow → Bool
is_registered r = not (r.id == 0)

-- direct services, and those of open periods that are registered
abbrev pub standing : List ServiceRow → List ServiceRow → List ServiceRow
standing direct opened = direct ++ filter is_registered opened
