-- What happened to one service between two worlds, for the code of what listeners are told. OSGi Core 8, chapter 5, "Service Events".
use Rattle.std.specs.Prelude.{◌≡◌, ℕ, ◌==◌, ◌&&◌, Bool, not, List, [], ◌∷◌, Some, None, if◌then◌else◌}
use Rattle.prop_map.specs.Words.{has}
use Rattle.service_registry.specs.declared.row.ServiceRow.{ServiceRow}
use Rattle.service_registry.specs.Registries.{row_of}
use Rattle.service_listeners.specs.Listening.{Change, ListenerTable, after_changes}
use Rattle.component_state.specs.declared.component.Component.{Component}
use Rattle.component_state.specs.declared.open_period.OpenPeriod.{OpenPeriod}
use Rattle.scr_world.specs.Lists.{change_between, row_at}

-- a direct service is the one that its number finds
abbrev pub IsOwn : List ServiceRow → ServiceRow → Type 0
IsOwn rows r = row_of rows r.id ≡ Some r

-- a direct service that was there, and what it is now
abbrev pub change_from : List ServiceRow → ServiceRow → List Change
change_from now r = change_between (Some r) (row_of now r.id)

-- a direct service that is there, and wasn't where its number isn't one of these
abbrev pub change_of_new : List ℕ → ServiceRow → List Change
change_of_new before r = if has before r.id then [] else (None, Some r) ∷ []

-- a period is of a component configuration, and has a service
abbrev pub has_row : ℕ → OpenPeriod → Bool
has_row number p = (p.configuration == number) && not (p.row.id == 0)

-- the service of a component configuration, before and now
abbrev pub change_at : List OpenPeriod → List OpenPeriod → Component → List Change
change_at was now c = change_between (row_at was c.number) (row_at now c.number)

-- listeners were told of some changes, and nothing else happened to them
unfoldable pub HasTold : ListenerTable → ListenerTable → Type 0
HasTold before after = (changes : List Change) × (after ≡ after_changes changes before)
