-- The due callbacks of a world, and the turn that begins next. OSGi Compendium 8, chapter 112, "Component Life Cycle" and "References to Services"; which of several due callbacks comes first is our own.
use Rattle.std.specs.Prelude.{ℕ, ◌+◌, ◌==◌, List, [], ◌∷◌, map, Option, Some, option_map, option_and_then, find, flat_map, if◌then◌else◌}
use Rattle.std.specs.Option.{option_map_or}
use Rattle.callback_orders.specs.declared.callback.Callback.TheVariants.{Create}
use Rattle.callback_orders.specs.declared.due.DueRef.{DueRef}
use Rattle.callback_orders.specs.declared.due.DueRef.TheVariants.{Create as CreateDue, Bind, Updated, Unbind, Activate, Modified, Deactivate, Destroy}
use Rattle.callback_orders.specs.Due.{first_due}
use Rattle.callback_orders.specs.Lives.{callback_of}
use Rattle.component_dto.specs.declared.description.Reference.{Reference}
use Rattle.component_state.specs.declared.component.Component.{Component}
use Rattle.component_state.specs.declared.origin.Choice.{Choice}
use Rattle.component_state.specs.Components.{component_of}
use Rattle.prop_map.specs.declared.properties.Property.{Property}
use Rattle.prop_map.specs.Words.{with_places}
use Rattle.reference_match.specs.Needs.{need_of}
use Rattle.reference_match.specs.Targets.{targets, chosen, is_static}
use Rattle.service_registry.specs.declared.row.ServiceRow.{ServiceRow}
use Rattle.scr_world.specs.declared.step.Step.{Step}
use Rattle.scr_world.specs.declared.step.Step.TheVariants.{Begin}
use Rattle.scr_world.specs.declared.instance.Instance.{Instance}
use Rattle.scr_world.specs.Views.{references_in, views_of}
use Rattle.scr_world.specs.Wanted.{missing}
use Rattle.scr_world.specs.declared.world.World.{World}
use Rattle.scr_world.specs.Worlds.{all_instances, registered_services}

-- the first due callback
abbrev pub due_in : World → Option DueRef
due_in w = first_due (views_of w) (missing w)

-- what is chosen for the reference at an index, where it is static
abbrev pub choice_for : List ServiceRow → List Property → (ℕ × Reference) → List Choice
choice_for rows properties r = if is_static r.1.policy then record { reference = r.0; services = (let n = need_of properties r.1 in chosen n (targets n rows)) } ∷ [] else []

abbrev pub choices_of : List ServiceRow → Component → List Choice
choices_of rows c = flat_map (choice_for rows c.properties) (with_places 0 c.description.references)

abbrev pub choices : World → ℕ → List Choice
choices w configuration = option_map_or (choices_of (registered_services w)) (component_of w.components configuration) []

-- the instance whose callback is due
abbrev pub instance_in : DueRef → ℕ
instance_in (CreateDue key) = 0
instance_in (Bind i r s) = i
instance_in (Updated i r s) = i
instance_in (Unbind i r s) = i
instance_in (Activate i) = i
instance_in (Modified i) = i
instance_in (Deactivate i) = i
instance_in (Destroy i) = i

-- the names of an instance's references
abbrev pub names_of : World → Instance → List (List ℕ)
names_of w i = map (λ (r : Reference). r.name) (references_in w i)

-- the turn that tells an instance of its due callback
abbrev pub begin_for : World → DueRef → Instance → Step
begin_for w due i = Begin (w.turns_begun + 1) i.number i.origin.configuration i.consumer (callback_of (names_of w i) due) []

-- the turn of a due callback: the next one, and at a Create it makes the next instance with its choices
abbrev pub begin_of : World → DueRef → Option Step
begin_of w (CreateDue key) = Some (Begin (w.turns_begun + 1) (w.instances_numbered + 1) key.configuration key.consumer Create (choices w key.configuration))
begin_of w due = option_map (begin_for w due) (find (λ (i : Instance). i.number == instance_in due) (all_instances w))

-- the step that begins the first due callback, if one is due
abbrev pub next_begin : World → Option Step
next_begin w = option_and_then (begin_of w) (due_in w)
