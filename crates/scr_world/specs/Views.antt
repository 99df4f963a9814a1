-- What decides the due callback of an instance. OSGi Compendium 8, chapter 112; the section stands at each group of words.
use Rattle.std.specs.Prelude.{ℕ, ◌==◌, ◌&&◌, ◌||◌, List, [], ◌∷◌, map, Bool, false, not, is_some, nat_lt, if◌then◌else◌}
use Rattle.std.specs.List.{list_any}
use Rattle.std.specs.Option.{option_map_or}
use Rattle.bundle_life.specs.declared.bundle.BundleLife.{BundleLife}
use Rattle.bundle_life.specs.Lives.{is_active as is_active_state, state_is}
use Rattle.callback_orders.specs.declared.instance_view.InstanceView.{InstanceView}
use Rattle.callback_orders.specs.declared.instance_view.Phase.{Phase}
use Rattle.callback_orders.specs.declared.instance_view.Phase.TheVariants.{Active}
use Rattle.callback_orders.specs.declared.instance_view.ReferenceView.{ReferenceView}
use Rattle.callback_orders.specs.Sequences.{is_outstanding}
use Rattle.callback_orders.specs.Lives.{phase_of, held_for}
use Rattle.component_dto.specs.declared.description.Reference.{Reference}
use Rattle.component_state.specs.declared.component.Component.{Component}
use Rattle.component_state.specs.declared.open_period.OpenPeriod.{OpenPeriod}
use Rattle.component_state.specs.Components.{component_of, consumer_for, declaring_bundle}
use Rattle.component_state.specs.Periods.{is_current}
use Rattle.component_state.specs.Reasons.{choice_at}
use Rattle.prop_map.specs.declared.properties.Property.{Property}
use Rattle.prop_map.specs.Words.{with_places}
use Rattle.reference_match.specs.Needs.{need_of}
use Rattle.reference_match.specs.Targets.{targets, desired}
use Rattle.service_registry.specs.declared.row.ServiceRow.{ServiceRow}
use Rattle.scr_world.specs.declared.instance.Instance.{Instance}
use Rattle.scr_world.specs.Instances.{is_active_instance, has_failed}
use Rattle.scr_world.specs.Lists.{holds}
use Rattle.scr_world.specs.Whiteboard.{component_in}
use Rattle.scr_world.specs.declared.world.World.{World}
use Rattle.scr_world.specs.Worlds.{all_instances, direct_services, revision_of, sorted, registered_services}
use Rattle.told_revisions.specs.Told.{revision_told}

-- ---- what is so of an instance ("Deactivation")

-- an instance is ending where its open period has ended, where it was made for a bundle that isn't active, or where its activation failed
abbrev pub is_ending : List BundleLife → List OpenPeriod → Instance → Bool
is_ending bundles open_now i = not (is_current open_now i.origin) || (not (i.consumer == 0) && not (state_is is_active_state bundles i.consumer)) || has_failed i.callbacks

abbrev pub ends : World → Instance → Bool
ends w i = is_ending w.bundles.rows w.open_periods i

-- the bundle whose component an instance is of; the whiteboard's is of bundle 0
abbrev pub bundle_of_instance : World → Instance → ℕ
bundle_of_instance w i = declaring_bundle w.components i.origin.configuration

abbrev pub references_in : World → Instance → List Reference
references_in w i = option_map_or (λ (c : Component). c.description.references) (component_in w.components i.origin.configuration) []

abbrev pub properties_in : World → Instance → List Property
properties_in w i = option_map_or (λ (c : Component). c.properties) (component_in w.components i.origin.configuration) []

-- ---- desired services ("Target Services", "Reference Policy", "Reference Policy Option", "Bound Service Replacement")

-- the services that an instance's reference can take, best first
abbrev pub targets_for : World → Instance → Reference → List ℕ
targets_for w i r = targets (need_of (properties_in w i) r) (registered_services w)

-- what an instance that isn't ending desires for the reference at an index
abbrev pub desired_services : World → Instance → ℕ → Reference → List ℕ
desired_services w i index r = desired (need_of (properties_in w i) r) (sorted w (choice_at i.origin.chosen index)) (held_for r.name i.callbacks) (targets_for w i r)

-- an ending one desires nothing
abbrev pub desired_unless_ending : Bool → World → Instance → ℕ → Reference → List ℕ
desired_unless_ending ending w i index r = if ending then [] else desired_services w i index r

-- ---- ready and held ("Binding Services", "Unbinding"; scopes: OSGi Core 8, chapter 5, "Service Scope")

-- an instance is the one that a bundle uses of a service: it was made with it, for this bundle or for all
abbrev pub serves : World → ℕ → ℕ → Instance → Bool
serves w bundle service i = (i.service == service) && option_map_or (λ c. i.consumer == consumer_for c bundle) (component_of w.components i.origin.configuration) false

-- a service is ready for a bundle where its instance is active, or where it is direct
abbrev pub is_ready : World → ℕ → ℕ → Bool
is_ready w bundle service = list_any (λ (r : ServiceRow). r.id == service) (direct_services w) || list_any (λ i. serves w bundle service i && is_active_instance i) w.instances

-- an instance is held where one holds its service, and is served by it
abbrev pub is_holder : World → Instance → Instance → Bool
is_holder w i j = holds w.components i.service j && serves w (bundle_of_instance w j) i.service i

abbrev pub has_holder : World → Instance → Bool
has_holder w i = not (i.service == 0) && list_any (is_holder w i) (all_instances w)

-- ---- changed properties ("Updated Callback", "Modification")

-- the properties of a service changed since an instance was told of it last
abbrev pub is_changed : World → Instance → List ℕ → ℕ → Bool
is_changed w i reference service = nat_lt (revision_told i.told_revisions reference service) (revision_of w service)

-- its component's properties changed since it took them
abbrev pub awaits_modified_by : Instance → Component → Bool
awaits_modified_by i c = option_map_or (λ place. nat_lt i.properties_taken_at place) c.changed false

abbrev pub awaits_modified : World → Instance → Bool
awaits_modified w i = option_map_or (awaits_modified_by i) (component_of w.components i.origin.configuration) false

-- ---- views (our own)

-- a reference of an instance
abbrev pub reference_view : Bool → World → Instance → (ℕ × Reference) → ReferenceView
reference_view ending w i r = record {
  told = is_some r.1.updated;
  desired = map (λ s. record { service = s; ready = is_ready w (bundle_of_instance w i) s }) (desired_unless_ending ending w i r.0 r.1);
  held = map (λ s. record { service = s; changed = is_changed w i r.1.name s }) (sorted w (held_for r.1.name i.callbacks));
}

-- what decides an instance's due callback, where it is in a phase, and ends or doesn't
abbrev pub view_as : Phase → Bool → World → Instance → InstanceView
view_as phase ending w i = record {
  instance = i.number;
  phase = phase;
  ending = ending;
  outstanding = is_outstanding i.callbacks;
  drained = i.drained;
  unheld = not (has_holder w i);
  stale = awaits_modified w i;
  references = map (reference_view ending w i) (with_places 0 (references_in w i));
}

abbrev pub view_of : World → Instance → InstanceView
view_of w i = view_as (phase_of i.callbacks) (ends w i) w i

-- the whiteboard's instance is always active
abbrev pub whiteboard_view : World → InstanceView
whiteboard_view w = view_as Active false w w.whiteboard

abbrev pub views_of : World → List InstanceView
views_of w = whiteboard_view w ∷ map (view_of w) w.instances
