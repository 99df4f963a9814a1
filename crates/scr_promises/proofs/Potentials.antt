-- How many turns may still begin in a settling, counted by what each instance, and each key that has no new instance yet, may still be told.
use Rattle.std.specs.Prelude.{ℕ, ◌+◌, ◌*◌, ◌==◌, ◌&&◌, ◌||◌, List, [], ◌∷◌, map, Bool, true, false, not, filter, find, nat_lt, take, if◌then◌else◌}
use Rattle.std.specs.List.{list_any}
use Rattle.std.specs.Option.{option_map_or}
use Rattle.bundle_life.specs.declared.bundle.BundleLife.{BundleLife}
use Rattle.bundle_life.specs.Lives.{is_active as is_active_state}
use Rattle.callback_orders.specs.Grammar.{is_activate, is_deactivate, is_destroy}
use Rattle.callback_orders.specs.Lives.{held_for}
use Rattle.component_dto.specs.TextLists.{has_text}
use Rattle.component_dto.specs.declared.description.Reference.{Reference}
use Rattle.component_state.specs.declared.component.Component.{Component}
use Rattle.component_state.specs.Components.{existing, has_singleton_scope, provides_no_service}
use Rattle.component_state.specs.Periods.{is_open}
use Rattle.component_state.specs.Reasons.{choice_at}
use Rattle.component_state.specs.Rows.{service_in}
use Rattle.level_order.specs.Levels.{provides}
use Rattle.prop_map.specs.Words.{has, one_if, with_places}
use Rattle.prop_map.specs.declared.reference_words.Policy.{Policy}
use Rattle.prop_map.specs.declared.reference_words.Policy.TheVariants.{Static, Dynamic}
use Rattle.prop_map.specs.declared.reference_words.PolicyOption.{PolicyOption}
use Rattle.prop_map.specs.declared.reference_words.PolicyOption.TheVariants.{Reluctant, Greedy}
use Rattle.reference_match.specs.Targets.{is_multiple}
use Rattle.scr_promises.proofs.CallbackSteps.{firm}
use Rattle.scr_promises.proofs.CallbackKinds.{was_told}
use Rattle.scr_promises.proofs.Sums.{total}
use Rattle.scr_world.specs.Bounds.{providers_of}
use Rattle.scr_world.specs.Views.{awaits_modified, ends, is_changed, references_in, targets_for}
use Rattle.scr_world.specs.Worlds.{all_instances, direct_services}
use Rattle.scr_world.specs.declared.instance.Instance.{Instance}
use Rattle.scr_world.specs.declared.world.World.{World}
use Rattle.service_registry.specs.declared.row.ServiceRow.{ServiceRow}

-- ---- one service for one reference of an instance

-- the services that a reference may still bind: its choice where it is static, all targets where it is multiple, the best one where it is greedy, and where it is
-- reluctant all targets as long as it holds none
abbrev pub may_bind : Policy → PolicyOption → Bool → List ℕ → List ℕ → List ℕ → List ℕ
may_bind Static option multiple choice held targets = choice
may_bind Dynamic option true choice held targets = targets
may_bind Dynamic Greedy false choice held targets = take 1 targets
may_bind Dynamic Reluctant false choice held targets = if list_any (has held) targets then [] else targets

abbrev pub bindable : World → Instance → ℕ × Reference → List ℕ
bindable w i r = may_bind r.1.policy r.1.policy_option (is_multiple r.1.cardinality) (choice_at i.origin.chosen r.0) (firm r.1.name i.callbacks) (targets_for w i r.1)

-- held: an Unbind, and an Updated where its properties changed; else a Bind and an Unbind where it may still be bound
abbrev pub pair_value : Bool → Bool → Bool → ℕ
pair_value held changed free = if held then 1 + one_if changed else (if free then 2 else 0)

abbrev pub pair_left : Bool → World → Instance → ℕ × Reference → ℕ → ℕ
pair_left ending w i r s = pair_value (has (firm r.1.name i.callbacks) s) (is_changed w i r.1.name s) (not ending && has (bindable w i r) s)

-- of a component configuration that isn't open yet its service may still come
abbrev pub component_left : Bool → World → Instance → ℕ × Reference → Component → ℕ
component_left ending w i r c = if is_open w.open_periods c.number then pair_left ending w i r (service_in w.open_periods c.number) else 2

-- ---- one instance

-- the direct services, and the component configurations, with an interface
abbrev pub direct_with : World → List ℕ → List ServiceRow
direct_with start interface = filter (λ (r : ServiceRow). has_text r.interfaces interface) (direct_services start)

abbrev pub components_with : World → List ℕ → List Component
components_with start interface = filter (λ (c : Component). provides c.description interface) (existing start.components)

-- what an instance of this number held when the settling began
abbrev pub held_at : World → ℕ → List ℕ → List ℕ
held_at start number name = option_map_or (λ (i : Instance). held_for name i.callbacks) (find (λ (i : Instance). i.number == number) (all_instances start)) []

abbrev pub reference_left : World → Bool → World → Instance → ℕ × Reference → ℕ
reference_left start ending w i r =
    total (λ (q : ServiceRow). pair_left ending w i r q.id) (direct_with start r.1.interface_name)
    + (total (component_left ending w i r) (components_with start r.1.interface_name) + total (pair_left ending w i r) (held_at start i.number r.1.name))

-- Activate, Deactivate and Destroy come once, Modified where properties changed
abbrev pub life_left : World → Instance → ℕ
life_left w i =
    one_if (not (was_told is_activate i.callbacks)) + (one_if (not (was_told is_deactivate i.callbacks)) + (one_if (not (was_told is_destroy i.callbacks)) + one_if (awaits_modified w i)))

abbrev pub instance_left : World → Bool → World → Instance → ℕ
instance_left start ending w i = life_left w i + total (reference_left start ending w i) (with_places 0 (references_in w i))

-- ---- one key

-- for whom a component configuration can have instances
abbrev pub consumers_for : World → Component → List ℕ
consumers_for start c = if has_singleton_scope c.description.scope || provides_no_service c then 0 ∷ [] else 0 ∷ map (λ (b : BundleLife). b.number) (filter (λ (b : BundleLife). is_active_state b.state) start.bundles.rows)

-- an instance of the key was made in the settling
abbrev pub is_new_of : World → Component → ℕ → Instance → Bool
is_new_of start c consumer i = nat_lt start.instances_numbered i.number && ((i.origin.configuration == c.number) && (i.consumer == consumer))

abbrev pub has_new : World → World → Component → ℕ → Bool
has_new start w c consumer = list_any (is_new_of start c consumer) w.instances

-- Create, and all that a new instance may be told
abbrev pub key_full : World → Component → ℕ
key_full start c = 5 + total (λ (r : Reference). 2 * providers_of start r.interface_name) c.description.references

abbrev pub key_left : World → World → Component → ℕ → ℕ
key_left start w c consumer = if has_new start w c consumer then 0 else key_full start c

abbrev pub keys_left : World → World → ℕ
keys_left start w = total (λ (c : Component). total (key_left start w c) (consumers_for start c)) (existing start.components)

-- ---- all of it

abbrev pub turns_left : World → World → ℕ
turns_left start w = instance_left start false w w.whiteboard + (total (λ (i : Instance). instance_left start (ends w i) w i) w.instances + keys_left start w)
