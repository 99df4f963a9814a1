-- What is told of a component configuration. OSGi Compendium 8, chapter 112, "ComponentConfigurationDTO", "SatisfiedReferenceDTO",
-- "UnsatisfiedReferenceDTO"; that a failure is told by its instance, and a bound service by one instance, is our own.
use Rattle.std.specs.Prelude.{ℕ, ◌==◌, ◌&&◌, ◌++◌, List, [], ◌∷◌, map, Option, Some, None, find, reverse, length, nat_le, option_map, if◌then◌else◌}
use Rattle.std.specs.Option.{option_map_or}
use Rattle.callback_orders.specs.Lives.{held_for}
use Rattle.component_dto.specs.declared.description.Reference.{Reference}
use Rattle.component_state.specs.declared.component.Component.{Component}
use Rattle.component_state.specs.Components.{existing_of}
use Rattle.component_state.specs.Periods.{is_current}
use Rattle.prop_map.specs.declared.properties.Property.{Property}
use Rattle.prop_map.specs.declared.value.Value.{Value}
use Rattle.prop_map.specs.declared.value.Value.TheVariants.{Text}
use Rattle.prop_map.specs.Maps.{get}
use Rattle.reference_match.specs.declared.need.Need.{Need}
use Rattle.reference_match.specs.Needs.{condition_name, implicit_need, need_of, target_key}
use Rattle.reference_match.specs.Targets.{targets}
use Rattle.scr_world.specs.declared.instance.Instance.{Instance}
use Rattle.scr_world.specs.declared.marks.Failure.{Failure}
use Rattle.scr_world.specs.Readers.{state_by}
use Rattle.scr_world.specs.declared.world.World.{World}
use Rattle.scr_world.specs.Worlds.{registered_services, satisfied_in, sorted}
use Rattle.scr_readers.specs.declared.view.ComponentView.{ComponentView}
use Rattle.scr_readers.specs.declared.view.ReferenceState.{ReferenceState}

-- ---- targets in effect ("Target Property")

abbrev pub text_in : Option Value → Option (List ℕ)
text_in (Some (Text t)) = Some t
text_in _ = None

-- the text of the target of a reference: none where its property isn't there, or is no text
abbrev pub target_text : List Property → List ℕ → Option (List ℕ)
target_text properties name = text_in (get properties (target_key name))

-- ---- bound services ("Bound Services")

-- the lowest living instance of the present period of a component configuration
abbrev pub present_instance : World → ℕ → Option Instance
present_instance w configuration = find (λ (i : Instance). (i.origin.configuration == configuration) && is_current w.open_periods i.origin) w.instances

-- what an instance, if there is one, holds for the reference of a name, best first
abbrev pub bound_services : World → List ℕ → Option Instance → List ℕ
bound_services w name instance = option_map_or (λ (i : Instance). sorted w (held_for name i.callbacks)) instance []

-- ---- references ("SatisfiedReferenceDTO", "UnsatisfiedReferenceDTO")

-- a reference of a name with what it needs and what is bound: it is satisfied where it has at least its minimum of targets
abbrev pub state_with : World → List Property → List ℕ → Need → List ℕ → ReferenceState
state_with w properties name need bound = let found = targets need (registered_services w) in record {
  name = name;
  target = target_text properties name;
  satisfied = nat_le need.minimum (length found);
  targets = found;
  bound = bound;
}

abbrev pub reference_state : World → Component → Option Instance → Reference → ReferenceState
reference_state w c instance r = state_with w c.properties r.name (need_of c.properties r) (bound_services w r.name instance)

-- nothing is bound for the implicit one
abbrev pub implicit_state : World → Component → ReferenceState
implicit_state w c = state_with w c.properties condition_name (implicit_need c.properties) []

-- in the order of the description, the implicit one last where it is there
abbrev pub reference_states : World → Component → List ReferenceState
reference_states w c = map (reference_state w c (present_instance w c.number)) c.description.references ++ (if c.description.implicit then implicit_state w c ∷ [] else [])

-- ---- component configurations ("ComponentConfigurationDTO")

-- the instance whose creation or activation failed last
abbrev pub failed_instance : List Failure → ℕ → Option ℕ
failed_instance failures configuration = option_map (λ (f : Failure). f.instance) (find (λ (f : Failure). f.configuration == configuration) (reverse failures))

-- it is told in the state 16, failed, alone
abbrev pub failure_in : World → ℕ → ℕ → Option ℕ
failure_in w state configuration = if state == 16 then failed_instance w.failures configuration else None

abbrev pub view_by : World → List ℕ → Component → ComponentView
view_by w satisfied c = record {
  bundle = c.bundle;
  name = c.description.name;
  properties = c.properties;
  state = state_by w satisfied c;
  failure = failure_in w (state_by w satisfied c) c.number;
  references = reference_states w c;
}

-- what is told of the component configuration of a number: nothing where there is none, or it has ceased
abbrev pub component_view : World → ℕ → Option ComponentView
component_view w number = option_map (view_by w (satisfied_in w)) (existing_of w.components number)
