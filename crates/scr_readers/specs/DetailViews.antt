-- All that is told of a component configuration. OSGi Compendium 8, chapter 112, "ComponentConfigurationDTO",
-- "ComponentDescriptionDTO", "ReferenceDTO"; that a service and a failure are told by their numbers is our own.
use Rattle.std.specs.Prelude.{ℕ, ◌==◌, ◌++◌, List, [], ◌∷◌, map, Option, Some, None, option_map, if◌then◌else◌}
use Rattle.component_dto.specs.declared.description.Reference.{Reference}
use Rattle.component_state.specs.declared.component.Component.{Component}
use Rattle.component_state.specs.declared.open_period.OpenPeriod.{OpenPeriod}
use Rattle.component_state.specs.Components.{existing_of}
use Rattle.component_state.specs.Rows.{service_in}
use Rattle.reference_match.specs.declared.need.Need.{Need}
use Rattle.reference_match.specs.Needs.{implicit_need, need_of}
use Rattle.scr_world.specs.declared.instance.Instance.{Instance}
use Rattle.scr_world.specs.Readers.{state_by}
use Rattle.scr_world.specs.declared.world.World.{World}
use Rattle.scr_world.specs.Worlds.{satisfied_in}
use Rattle.scr_readers.specs.ComponentViews.{failure_in, implicit_state, present_instance, reference_state}
use Rattle.scr_readers.specs.declared.component_details.ComponentDetails.{ComponentDetails}
use Rattle.scr_readers.specs.declared.component_details.ReferenceDetails.{ReferenceDetails}
use Rattle.scr_readers.specs.declared.view.ReferenceState.{ReferenceState}

-- the number of the service of an open component configuration: none where it isn't open, or provides none
abbrev pub service_of : List OpenPeriod → ℕ → Option ℕ
service_of open_now configuration = let service = service_in open_now configuration in if service == 0 then None else Some service

-- a reference with what is in effect for it
abbrev pub details_with : Need → ReferenceState → ReferenceDetails
details_with need state = record {
  state = state;
  interface_name = need.interface;
  cardinality = need.cardinality;
  minimum = need.minimum;
  policy = need.policy;
  policy_option = need.option;
}

abbrev pub reference_detail : World → Component → Option Instance → Reference → ReferenceDetails
reference_detail w c instance r = details_with (need_of c.properties r) (reference_state w c instance r)

abbrev pub implicit_detail : World → Component → ReferenceDetails
implicit_detail w c = details_with (implicit_need c.properties) (implicit_state w c)

-- in the order of the description, the implicit one last where it is there
abbrev pub reference_details : World → Component → List ReferenceDetails
reference_details w c = map (reference_detail w c (present_instance w c.number)) c.description.references ++ (if c.description.implicit then implicit_detail w c ∷ [] else [])

abbrev pub details_by : World → List ℕ → Component → ComponentDetails
details_by w satisfied c = record {
  bundle = c.bundle;
  description = c.description;
  factory_configuration = c.pid;
  properties = c.properties;
  state = state_by w satisfied c;
  failure = failure_in w (state_by w satisfied c) c.number;
  service = service_of w.open_periods c.number;
  references = reference_details w c;
}

-- those of the component configuration of a number: none where there is none, or it has ceased
abbrev pub component_details : World → ℕ → Option ComponentDetails
component_details w number = option_map (details_by w (satisfied_in w)) (existing_of w.components number)
