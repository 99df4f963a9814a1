-- The world after a step, before its pass. The section stands at each group of words.
use Rattle.std.specs.Prelude.{ℕ, ◌+◌, ◌==◌, ◌&&◌, ◌||◌, List, [], ◌∷◌, ◌++◌, map, Bool, Some, filter, length, nat_lt, slice_set, if◌then◌else◌}
use Rattle.std.specs.List.{list_any}
use Rattle.callback_orders.specs.declared.callback.Outcome.{Outcome}
use Rattle.callback_orders.specs.Grammar.{is_activate, is_create}
use Rattle.callback_orders.specs.Sequences.{is_failed}
use Rattle.component_state.specs.declared.component.Component.{Component}
use Rattle.component_state.specs.declared.open_period.OpenPeriod.{OpenPeriod}
use Rattle.component_state.specs.ComponentConfigurations.{components_after, component_configurations, new_components}
use Rattle.component_state.specs.Marks.{failed_after}
use Rattle.component_state.specs.Periods.{is_current}
use Rattle.component_state.specs.Rows.{with_present_properties}
use Rattle.component_state.specs.Components.{properties_of}
use Rattle.scr_world.specs.declared.step.Step.{Step}
use Rattle.scr_world.specs.declared.step.Step.TheVariants.{Command as Commanded, Begin, End, Drained, Got, Released}
use Rattle.scr_world.specs.declared.instance.Instance.{Instance}
use Rattle.scr_world.specs.declared.marks.Failure.{Failure}
use Rattle.scr_world.specs.Instances.{BeforeTurn, last_is, lives_on, has_turn, begun_by, with_callback_begun, becomes_active, next_generation, ended_in, drained_in, first_free_slot}
use Rattle.scr_world.specs.Tables.{bundle_rows, bundles_by, configurations_by, documents_by, registry_by, tokens_by, uses_by}
use Rattle.scr_world.specs.declared.world.World.{World}
use Rattle.scr_world.specs.Worlds.{revision_of, satisfied_in}

-- ---- component configurations: those there are to be after each command (OSGi Compendium 8, chapter 112, "Component Configurations")

-- counted are those that exist, and those that ceased of which an instance lives
abbrev pub is_counted : List Instance → Component → Bool
is_counted is c = c.exists || list_any (λ (i : Instance). i.origin.configuration == c.number) is

-- those that ceased without an instance are forgotten by the next command alone, so that the steps of turns leave the rows of component configurations
-- as they are
abbrev pub counted_components : World → List Component
counted_components w = filter (is_counted w.instances) w.components

-- those that there are to be after a step
abbrev pub component_configurations_by : Step → World → List Component
component_configurations_by step w = component_configurations (bundle_rows (bundles_by step w.bundles).rows (documents_by step (w.bundles.numbered + 1) w.documents)) (configurations_by step w.configurations)

abbrev pub components_by : Step → World → List Component
components_by (Commanded command) w = components_after w.entries w.components_numbered (component_configurations_by (Commanded command) w) (counted_components w)
components_by (Begin turn instance configuration consumer callback chosen) w = w.components
components_by (End turn outcome) w = w.components
components_by (Drained instance) w = w.components
components_by (Got bundle service) w = w.components
components_by (Released place) w = w.components

-- how many are added
abbrev pub components_added_by : Step → World → ℕ
components_added_by (Commanded command) w = length (new_components (counted_components w) (component_configurations_by (Commanded command) w))
components_added_by (Begin turn instance configuration consumer callback chosen) w = 0
components_added_by (End turn outcome) w = 0
components_added_by (Drained instance) w = 0
components_added_by (Got bundle service) w = 0
components_added_by (Released place) w = 0

-- what was open, with the properties of the component configurations after a step
abbrev pub periods_with : Step → List Component → List OpenPeriod → List OpenPeriod
periods_with (Commanded command) cs before = map (with_present_properties cs) before
periods_with (Begin turn instance configuration consumer callback chosen) cs before = before
periods_with (End turn outcome) cs before = before
periods_with (Drained instance) cs before = before
periods_with (Got bundle service) cs before = before
periods_with (Released place) cs before = before

-- ---- instances (OSGi Compendium 8, chapter 112, "Component Life Cycle")

abbrev pub before_turn : World → BeforeTurn
before_turn w = record { place = w.entries; open_periods = w.open_periods; instances = w.instances; revision = revision_of w; properties = properties_of w.components }

-- the instances after a step, those that end with it among them
abbrev pub instances_told : Step → World → List Instance
instances_told (Begin turn instance configuration consumer callback chosen) w = begun_by (before_turn w) turn instance configuration consumer callback chosen
instances_told (End turn outcome) w = map (ended_in turn outcome w.generations) w.instances
instances_told (Drained instance) w = map (drained_in instance) w.instances
instances_told (Commanded command) w = w.instances
instances_told (Got bundle service) w = w.instances
instances_told (Released place) w = w.instances

-- the living instances after a step
abbrev pub instances_by : Step → World → List Instance
instances_by (End turn outcome) w = filter lives_on (instances_told (End turn outcome) w)
instances_by (Commanded command) w = instances_told (Commanded command) w
instances_by (Begin turn instance configuration consumer callback chosen) w = instances_told (Begin turn instance configuration consumer callback chosen) w
instances_by (Drained instance) w = instances_told (Drained instance) w
instances_by (Got bundle service) w = instances_told (Got bundle service) w
instances_by (Released place) w = instances_told (Released place) w

-- the whiteboard's instance after a step
abbrev pub whiteboard_by : Step → World → Instance
whiteboard_by (Begin turn instance configuration consumer callback chosen) w = with_callback_begun (before_turn w) turn instance callback w.whiteboard
whiteboard_by (End turn outcome) w = ended_in turn outcome w.generations w.whiteboard
whiteboard_by (Commanded command) w = w.whiteboard
whiteboard_by (Drained instance) w = w.whiteboard
whiteboard_by (Got bundle service) w = w.whiteboard
whiteboard_by (Released place) w = w.whiteboard

-- the instances whose creation or activation ends by a turn, while the period is open in which they were made
abbrev pub ending_in : ℕ → World → List Instance
ending_in turn w = filter (λ (i : Instance). has_turn turn i && ((last_is is_create i.callbacks || last_is is_activate i.callbacks) && is_current w.open_periods i.origin)) w.instances

-- the component configurations whose creation or activation ends by a step without success
abbrev pub failing : Step → World → List ℕ
failing (End turn outcome) w = if is_failed (Some outcome) then map (λ (i : Instance). i.origin.configuration) (ending_in turn w) else []
failing (Commanded command) w = []
failing (Begin turn instance configuration consumer callback chosen) w = []
failing (Drained instance) w = []
failing (Got bundle service) w = []
failing (Released place) w = []

-- and what is remembered of it
abbrev pub failure_of : Outcome → Instance → Failure
failure_of outcome i = record { configuration = i.origin.configuration; service = i.service; instance = i.number; outcome = outcome }

abbrev pub failures_by : Step → World → List Failure
failures_by (End turn outcome) w = if is_failed (Some outcome) then map (failure_of outcome) (ending_in turn w) else []
failures_by (Commanded command) w = []
failures_by (Begin turn instance configuration consumer callback chosen) w = []
failures_by (Drained instance) w = []
failures_by (Got bundle service) w = []
failures_by (Released place) w = []

-- how many instances a step makes, how many turns it begins
abbrev pub makes_by : Step → ℕ
makes_by (Begin turn instance configuration consumer callback chosen) = if is_create callback then 1 else 0
makes_by (Commanded command) = 0
makes_by (End turn outcome) = 0
makes_by (Drained instance) = 0
makes_by (Got bundle service) = 0
makes_by (Released place) = 0

abbrev pub begins_by : Step → ℕ
begins_by (Begin turn instance configuration consumer callback chosen) = 1
begins_by (Commanded command) = 0
begins_by (End turn outcome) = 0
begins_by (Drained instance) = 0
begins_by (Got bundle service) = 0
begins_by (Released place) = 0

-- how often the gates of the slots were opened: a new slot has room for its count from its first Create on
abbrev pub with_room_for : ℕ → List ℕ → List ℕ
with_room_for slot generations = if nat_lt slot (length generations) then generations else generations ++ 0 ∷ []

-- the gate of an instance that becomes active is opened once more
abbrev pub reopened_for : List Instance → List ℕ → List ℕ
reopened_for [] generations = generations
reopened_for (i ∷ is) generations = slice_set generations i.slot (next_generation generations i)

abbrev pub generations_by : Step → World → List ℕ
generations_by (Begin turn instance configuration consumer callback chosen) w = if is_create callback then with_room_for (first_free_slot w.instances) w.generations else w.generations
generations_by (End turn outcome) w = reopened_for (filter (λ (i : Instance). has_turn turn i && becomes_active outcome i) w.instances) w.generations
generations_by (Commanded command) w = w.generations
generations_by (Drained instance) w = w.generations
generations_by (Got bundle service) w = w.generations
generations_by (Released place) w = w.generations

-- ---- all of it

abbrev pub failed_by : Step → World → List ℕ
failed_by step w = failed_after w.entries (satisfied_in w) (components_by step w) (failing step w) w.failed

-- the world after a step, before its pass: what is open is as it was, but for properties that changed
unfoldable pub world_after_step : Step → World → World
world_after_step step w = record w {
  bundles = bundles_by step w.bundles;
  documents = documents_by step (w.bundles.numbered + 1) w.documents;
  registry = registry_by step w.registry;
  configurations = configurations_by step w.configurations;
  components = components_by step w;
  components_numbered = w.components_numbered + components_added_by step w;
  open_periods = periods_with step (components_by step w) w.open_periods;
  failed = failed_by step w;
  failures = w.failures ++ failures_by step w;
  instances = instances_by step w;
  whiteboard = whiteboard_by step w;
  instances_numbered = w.instances_numbered + makes_by step;
  turns_begun = w.turns_begun + begins_by step;
  generations = generations_by step w;
  uses = uses_by step w.tokens w.uses;
  tokens = tokens_by step w.entries w.tokens;
}
