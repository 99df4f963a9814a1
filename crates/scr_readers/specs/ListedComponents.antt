-- Component configurations in a listing, each with what it waits for. OSGi Compendium 8, chapter 112,
-- "ComponentConfigurationDTO", "UnsatisfiedReferenceDTO"; numbers and the order are our own.
use Rattle.std.specs.Prelude.{ℕ, List, map, filter, not}
use Rattle.component_state.specs.declared.component.Component.{Component}
use Rattle.component_state.specs.Components.{existing}
use Rattle.scr_world.specs.Readers.{state_by}
use Rattle.scr_world.specs.declared.world.World.{World}
use Rattle.scr_world.specs.Worlds.{satisfied_in}
use Rattle.scr_readers.specs.ComponentViews.{reference_states}
use Rattle.scr_readers.specs.declared.listed_component.ListedComponent.{ListedComponent}
use Rattle.scr_readers.specs.declared.view.ReferenceState.{ReferenceState}

-- the names of those of these references that have fewer targets than their minimum
abbrev pub unsatisfied_names : List ReferenceState → List (List ℕ)
unsatisfied_names rs = map (λ (r : ReferenceState). r.name) (filter (λ (r : ReferenceState). not r.satisfied) rs)

-- what keeps a component configuration from being satisfied, the implicit reference last
unfoldable pub waits : World → Component → List (List ℕ)
waits w c = unsatisfied_names (reference_states w c)

abbrev pub listed_by : World → List ℕ → Component → ListedComponent
listed_by w satisfied c = record {
  number = c.number;
  bundle = c.bundle;
  state = state_by w satisfied c;
  name = c.description.name;
  interfaces = c.description.service_interfaces;
  waits = waits w c;
}

-- the component configurations that haven't ceased, by number
abbrev pub listed_components : World → List ListedComponent
listed_components w = let met = satisfied_in w in map (listed_by w met) (existing w.components)
