-- What stands in a list before an entry and in the one behind it, for the code that looks only at what moved. Our own.
use Rattle.std.specs.Prelude.{◌≡◌, ℕ, ◌==◌, ◌&&◌, List, [], ◌∷◌, Bool, true, false, filter, if◌then◌else◌}
use Rattle.prop_map.specs.Words.{has}
use Rattle.component_state.specs.declared.component.Component.{Component}
use Rattle.component_state.specs.declared.open_period.OpenPeriod.{OpenPeriod}
use Rattle.component_state.specs.Inside.Ready.{configurations_open}
use Rattle.service_registry.specs.declared.row.ServiceRow.{ServiceRow}
use Rattle.scr_world.specs.Worlds.{is_registered}
use Rattle.scr_world.specs.declared.world.World.{World}

-- ---- direct services

-- a service stands first in a list, with the revision that it had
abbrev pub row_stays : ServiceRow → List ServiceRow → Bool
row_stays r [] = false
row_stays r (s ∷ now) = (r.id == s.id) && (r.revision == s.revision)

-- a list without its first service, where that has this number
abbrev pub rows_behind : ℕ → List ServiceRow → List ServiceRow
rows_behind service [] = []
rows_behind service (s ∷ now) = if s.id == service then now else s ∷ now

-- the service of a row is registered
abbrev pub IsThere : World → ServiceRow → Type 0
IsThere w r = is_registered w r.id ≡ true

-- ---- open periods

-- two periods are of one component configuration and have one service, with one revision
abbrev pub is_unmoved : OpenPeriod → OpenPeriod → Bool
is_unmoved p q = (p.configuration == q.configuration) && ((p.row.id == q.row.id) && (p.row.revision == q.row.revision))

-- a period stands first in a list, with the service and the revision that it had
abbrev pub period_stays : OpenPeriod → List OpenPeriod → Bool
period_stays p [] = false
period_stays p (q ∷ now) = is_unmoved p q

-- a list without its first period, where that is of this component configuration
abbrev pub periods_behind : ℕ → List OpenPeriod → List OpenPeriod
periods_behind configuration [] = []
periods_behind configuration (q ∷ now) = if q.configuration == configuration then now else q ∷ now

-- the service of a period is registered
abbrev pub HasRowThere : World → OpenPeriod → Type 0
HasRowThere w p = is_registered w p.row.id ≡ true

-- the component configurations of the periods that don't stand in both lists, going along both
abbrev pub moved : List OpenPeriod → List OpenPeriod → List ℕ
moved [] now = configurations_open now
moved (p ∷ was) now = if period_stays p now then moved was (periods_behind p.configuration now) else p.configuration ∷ moved was (periods_behind p.configuration now)

-- the component configurations of these numbers
abbrev pub numbered_in : List ℕ → List Component → List Component
numbered_in numbers cs = filter (λ (c : Component). has numbers c.number) cs
