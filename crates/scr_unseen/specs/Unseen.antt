-- Commands that no component tells apart. OSGi Compendium 8, chapter 112, "Target Services", "Satisfied"; the word is our own.
use Rattle.std.specs.Prelude.{◌≡◌, ℕ, ◌+◌, ◌&&◌, ◌||◌, List, [], Bool, false, true, not, Option, Some, None}
use Rattle.std.specs.List.{list_all, list_any}
use Rattle.std.specs.Option.{option_map_or}
use Rattle.component_dto.specs.declared.description.Reference.{Reference}
use Rattle.component_state.specs.declared.component.Component.{Component}
use Rattle.component_state.specs.Components.{needs_of}
use Rattle.journal_core.specs.declared.entry.Entry.{Entry}
use Rattle.reference_match.specs.declared.need.Need.{Need}
use Rattle.reference_match.specs.Needs.{condition_interface}
use Rattle.reference_match.specs.Targets.{meets}
use Rattle.scr_world.specs.Tables.{registry_by}
use Rattle.scr_world.specs.declared.command.Command.TheVariants.{Get, Listen, Register, SetProperties, Unget, Unlisten, Unregister}
use Rattle.scr_world.specs.declared.step.Step.{Step}
use Rattle.scr_world.specs.declared.step.Step.TheVariants.{Command as Commanded}
use Rattle.scr_world.specs.declared.world.World.{World}
use Rattle.service_registry.specs.Registries.{has_number}
use Rattle.service_registry.specs.Services.{has_interface}
use Rattle.service_registry.specs.declared.row.ServiceRow.{ServiceRow}

-- a component configuration asks for an interface of a service, by its references or by the satisfying condition
abbrev pub asks_for : Component → ServiceRow → Bool
asks_for c r =
    list_any (λ (x : Reference). has_interface x.interface_name r) c.description.references || (c.description.implicit && has_interface condition_interface r)

-- a service meets no need of these component configurations
abbrev pub meets_none : List Component → ServiceRow → Bool
meets_none cs r = list_all (λ (c : Component). list_all (λ (n : Need). not (meets n r)) (needs_of c)) cs

-- nor does the service of this number, if it is among these
abbrev pub is_unmet : List Component → ℕ → List ServiceRow → Bool
is_unmet cs service rows = list_all (λ (r : ServiceRow). not (has_number service r) || meets_none cs r) rows

-- the number of the service that a command registers, unregisters or changes
abbrev pub service_of : Step → World → Option ℕ
service_of (Commanded (Register bundle interfaces properties)) w = Some (w.registry.numbered + 1)
service_of (Commanded (Unregister bundle service)) w = Some service
service_of (Commanded (SetProperties bundle service properties)) w = Some service
service_of step w = None

-- a command leaves services and configurations as they are: a get or its return, a listener that comes or goes
abbrev pub leaves_services : Step → Bool
leaves_services (Commanded (Get bundle service)) = true
leaves_services (Commanded (Unget bundle service)) = true
leaves_services (Commanded (Listen bundle filter)) = true
leaves_services (Commanded (Unlisten listener)) = true
leaves_services step = false

-- a command leaves services as they are, or registers, unregisters or changes one that meets no need of a component configuration, before it or after
abbrev pub is_unseen : Step → World → Bool
is_unseen step w =
    leaves_services step || option_map_or (λ service. is_unmet w.components service w.registry.rows && is_unmet w.components service (registry_by step w.registry).rows) (service_of step w) false

-- nothing closes, opens or stops
abbrev pub HasNoLists : Entry Step → Type 0
HasNoLists entry = (entry.closed ≡ []) × (entry.opened ≡ []) × (entry.stopped ≡ [])
