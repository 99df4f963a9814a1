-- What readers tell. The section stands at each group of words; numbers and orders are our own.
use Rattle.std.specs.Prelude.{◌≡◌, ℕ, ◌==◌, ◌&&◌, ◌++◌, List, map, Bool, not, true, false, nat_lt, filter, flat_map, drop, Result, Ok, Err, if◌then◌else◌}
use Rattle.std.specs.Fmt.{decimal}
use Rattle.std.specs.List.{list_any}
use Rattle.bundle_life.specs.declared.bundle.BundleEvent.{BundleEvent}
use Rattle.bundle_life.specs.declared.bundle.BundleLife.{BundleLife}
use Rattle.bundle_life.specs.Lives.{state_number}
use Rattle.callback_orders.specs.Lives.{held_for}
use Rattle.component_dto.specs.declared.description.Reference.{Reference}
use Rattle.component_state.specs.declared.component.Component.{Component}
use Rattle.component_state.specs.Components.{lacks_configuration, exists, existing}
use Rattle.component_state.specs.Periods.{is_open}
use Rattle.component_state.specs.Rows.{rows_of}
use Rattle.ldap_filter.specs.Matching.{matches}
use Rattle.ldap_filter.specs.Trees.{Tree}
use Rattle.prop_map.specs.Words.{has, in_order}
use Rattle.service_registry.specs.declared.row.ServiceRow.{ServiceRow}
use Rattle.service_registry.specs.Services.{best_first, ids}
use Rattle.scr_world.specs.declared.reply.CoreFault.{CoreFault}
use Rattle.scr_world.specs.declared.reply.CoreFault.TheVariants.{NoComponent, OutOfMemory}
use Rattle.scr_world.specs.declared.instance.Instance.{Instance}
use Rattle.scr_world.specs.declared.lines.BundleLine.{BundleLine}
use Rattle.scr_world.specs.declared.lines.ComponentLine.{ComponentLine}
use Rattle.scr_world.specs.declared.lines.HeldLine.{HeldLine}
use Rattle.scr_world.specs.Instances.{is_active_instance}
use Rattle.scr_world.specs.Views.{references_in}
use Rattle.scr_world.specs.declared.world.World.{World}
use Rattle.scr_world.specs.Worlds.{satisfied_in, sorted}

-- ---- component configurations (OSGi Compendium 8, chapter 112, "ComponentConfigurationDTO")

abbrev pub has_active : List Instance → ℕ → Bool
has_active is number = list_any (λ (i : Instance). (i.origin.configuration == number) && is_active_instance i) is

-- the state of a component configuration, the first that holds: 1 where it lacks the configuration that its policy asks for, 2 where it isn't
-- satisfied, 16 where it failed, 8 where it is open with an active instance, 4
abbrev pub state_by : World → List ℕ → Component → ℕ
state_by w satisfied c = if lacks_configuration c then 1 else (if not (has satisfied c.number) then 2 else (if has w.failed c.number then 16 else (if is_open w.open_periods c.number && has_active w.instances c.number then 8 else 4)))

abbrev pub line_by : World → List ℕ → Component → ComponentLine
line_by w satisfied c = record { configuration = c.number; name = c.description.name; state = state_by w satisfied c }

-- the component configurations that haven't ceased with their states, by number
abbrev pub component_lines : World → List ComponentLine
component_lines w = let met = satisfied_in w in map (line_by w met) (existing w.components)

-- ---- bundles (OSGi Core 8, chapter 4, "Bundle State", "Bundle Events")

abbrev pub bundle_line : BundleLife → BundleLine
bundle_line b = record { bundle = b.number; state = state_number b.state; name = b.name; version = b.version }

abbrev pub bundle_lines : World → List BundleLine
bundle_lines w = map bundle_line w.bundles.rows

abbrev pub bundle_events_after : ℕ → World → List BundleEvent
bundle_events_after position w = drop position w.bundles.events

-- ---- services (OSGi Core 8, chapter 5, "Service Registry"): that of the platform isn't listed

abbrev pub listed : World → List ServiceRow
listed w = w.registry.rows ++ rows_of w.open_periods

abbrev pub service_lines : World → List ServiceRow
service_lines w = in_order (λ (a b : ServiceRow). nat_lt a.id b.id) (listed w)

-- the services that a filter matches, best first
abbrev pub found : World → Tree → List ℕ
found w tree = ids (best_first (filter (λ (r : ServiceRow). matches tree r.properties) (listed w)))

-- ---- what is held (OSGi Compendium 8, chapter 112, "Bound Services")

abbrev pub held_lines_by : World → Instance → Reference → List HeldLine
held_lines_by w i r = map (λ s. record { instance = i.number; reference = r.name; service = s }) (sorted w (held_for r.name i.callbacks))

abbrev pub held_lines_of : World → Instance → List HeldLine
held_lines_of w i = flat_map (held_lines_by w i) (references_in w i)

-- what the living instances of a component configuration hold, by instance, then by reference, best first
abbrev pub held_lines : World → ℕ → List HeldLine
held_lines w configuration = flat_map (held_lines_of w) (filter (λ (i : Instance). i.origin.configuration == configuration) w.instances)

-- a component configuration that isn't there, or has ceased, has no lines; its number is told as its name
abbrev pub TellsHeld : World → ℕ → Result (List HeldLine) CoreFault → Type 0
TellsHeld w configuration (Ok lines) = (exists w.components configuration ≡ true) × (lines ≡ held_lines w configuration)
TellsHeld w configuration (Err (NoComponent name)) = (exists w.components configuration ≡ false) × (name ≡ decimal configuration)
TellsHeld w configuration (Err OutOfMemory) = Unit {0}
TellsHeld w configuration (Err fault) = ⊥
