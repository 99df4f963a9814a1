-- The world of an empty journal, and the services, instances and satisfied component configurations of any. OSGi Core 8, chapter 5, "Service Registry"; OSGi Compendium 8,
-- chapter 112, "Satisfied".
use Rattle.std.specs.Prelude.{ℕ, ◌==◌, List, [], ◌∷◌, ◌++◌, map, Bool, Option, ℤ, pos}
use Rattle.std.specs.Option.{option_map_or}
use Rattle.std.specs.List.{list_any}
use Rattle.bundle_life.specs.Lives.{no_bundles}
use Rattle.component_state.specs.declared.origin.Origin.{Origin}
use Rattle.component_state.specs.Components.{numbers_of}
use Rattle.component_state.specs.Marks.{held_back}
use Rattle.component_state.specs.Rows.{rows_of}
use Rattle.component_state.specs.Scratch.{satisfied}
use Rattle.prop_map.specs.Words.{in_order}
use Rattle.service_listeners.specs.Listening.{no_listeners}
use Rattle.service_registry.specs.declared.row.ServiceRow.{ServiceRow}
use Rattle.service_registry.specs.Registries.{none_registered, row_of}
use Rattle.service_registry.specs.Services.{ranking, ranks_before}
use Rattle.scr_world.specs.declared.instance.Instance.{Instance}
use Rattle.scr_world.specs.declared.world.World.{World}
use Rattle.scr_world.specs.Levels.{levels_of}
use Rattle.scr_world.specs.Tables.{descriptions_of}
use Rattle.scr_world.specs.Whiteboard.{new_whiteboard, platform_rows}

-- the world of an empty journal
abbrev pub empty_world : World
empty_world = record {
  entries = 0;
  bundles = no_bundles;
  documents = [];
  registry = none_registered;
  configurations = [];
  components = [];
  components_numbered = 0;
  open_periods = [];
  failed = [];
  failures = [];
  instances = [];
  whiteboard = new_whiteboard;
  instances_numbered = 0;
  turns_begun = 0;
  generations = [];
  uses = [];
  tokens = [];
  listeners = no_listeners;
  unregistered_held = [];
}

-- ---- services

-- direct services: those without a component behind them
abbrev pub direct_services : World → List ServiceRow
direct_services w = platform_rows ++ w.registry.rows

-- all that are registered
abbrev pub registered_services : World → List ServiceRow
registered_services w = direct_services w ++ rows_of w.open_periods

abbrev pub is_registered : World → ℕ → Bool
is_registered w service = list_any (λ (r : ServiceRow). r.id == service) (registered_services w)

-- a service as it is, or as it left
abbrev pub row_known : World → ℕ → Option ServiceRow
row_known w service = row_of (registered_services w ++ w.unregistered_held) service

abbrev pub revision_of : World → ℕ → ℕ
revision_of w service = option_map_or (λ (r : ServiceRow). r.revision) (row_known w service) 0

abbrev pub ranking_of : World → ℕ → ℤ
ranking_of w service = option_map_or (λ (r : ServiceRow). ranking r.properties) (row_known w service) (pos 0)

-- services best first, by their present or last properties
abbrev pub sorted : World → List ℕ → List ℕ
sorted w services = in_order (λ a b. ranks_before (ranking_of w a) a (ranking_of w b) b) services

-- ---- instances and component configurations

abbrev pub all_instances : World → List Instance
all_instances w = w.whiteboard ∷ w.instances

abbrev pub origins_of : List Instance → List Origin
origins_of is = map (λ (i : Instance). i.origin) is

-- the satisfied component configurations, from scratch, those held back offering nothing
unfoldable pub satisfied_in : World → List ℕ
satisfied_in w =
    let ds = descriptions_of w.documents in
    numbers_of (satisfied ds (levels_of ds) (direct_services w) w.open_periods w.components (held_back w.failed w.open_periods (origins_of w.instances)))
