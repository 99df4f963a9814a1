-- How many turns a settling needs at most. Our own.
use Rattle.std.specs.Prelude.{ℕ, ◌+◌, ◌*◌, ◌&&◌, ◌||◌, List, [], ◌∷◌, ◌++◌, map, Bool, not, filter, length, sum, if◌then◌else◌}
use Rattle.std.specs.List.{list_any}
use Rattle.std.specs.Option.{option_map_or}
use Rattle.bundle_life.specs.declared.bundle.BundleLife.{BundleLife}
use Rattle.bundle_life.specs.Lives.{is_active as is_active_state}
use Rattle.callback_orders.specs.Lives.{held_for}
use Rattle.component_dto.specs.TextLists.{has_text}
use Rattle.component_dto.specs.declared.description.Description.{Description}
use Rattle.component_dto.specs.declared.description.Reference.{Reference}
use Rattle.component_state.specs.declared.component.Component.{Component}
use Rattle.component_state.specs.Components.{has_singleton_scope, provides_no_service, existing}
use Rattle.level_order.specs.Levels.{provides}
use Rattle.reference_match.specs.Needs.{condition_interface}
use Rattle.reference_match.specs.Targets.{is_greedy, is_static}
use Rattle.service_registry.specs.declared.row.ServiceRow.{ServiceRow}
use Rattle.scr_world.specs.declared.instance.Instance.{Instance}
use Rattle.scr_world.specs.Tables.{descriptions_of}
use Rattle.scr_world.specs.Views.{references_in}
use Rattle.scr_world.specs.Whiteboard.{component_in}
use Rattle.scr_world.specs.declared.world.World.{World}
use Rattle.scr_world.specs.Worlds.{all_instances, direct_services}

-- the interfaces that a component's references ask for, that of the implicit one too
abbrev pub interfaces_asked : Description → List (List ℕ)
interfaces_asked d = map (λ (r : Reference). r.interface_name) d.references ++ (if d.implicit then condition_interface ∷ [] else [])

-- how many instances a component configuration can have at a time: one, or one for bundle 0 and each active bundle
abbrev pub keys_at_most : World → Component → ℕ
keys_at_most w c = if has_singleton_scope c.description.scope || provides_no_service c then 1 else 1 + length (filter (λ (b : BundleLife). is_active_state b.state) w.bundles.rows)

-- the direct services, and the component configurations, that have an interface
abbrev pub providers_of : World → List ℕ → ℕ
providers_of w interface =
    length (filter (λ (r : ServiceRow). has_text r.interfaces interface) (direct_services w)) + length (filter (λ (c : Component). provides c.description interface) (existing w.components))

abbrev pub pairs_of : World → Description → ℕ
pairs_of w d = sum (map (providers_of w) (interfaces_asked d))

-- living instances
abbrev pub lives_counted : World → ℕ
lives_counted w = length (all_instances w)

-- keys that component configurations can have
abbrev pub keys_counted : World → ℕ
keys_counted w = sum (map (keys_at_most w) (existing w.components))

-- triples of a living instance or such a key, one of its references, and a service or component configuration with its interface
abbrev pub triples_counted : World → ℕ
triples_counted w =
    sum (map (λ (i : Instance). option_map_or (λ (c : Component). pairs_of w c.description) (component_in w.components i.origin.configuration) 0) (all_instances w))
    + sum (map (λ (c : Component). keys_at_most w c * pairs_of w c.description) (existing w.components))

-- services that are held
abbrev pub held_counted : World → ℕ
held_counted w = sum (map (λ (i : Instance). sum (map (λ (r : Reference). length (held_for r.name i.callbacks)) (references_in w i))) (all_instances w))

abbrev pub settle_bound : World → ℕ
settle_bound w = 6 * (lives_counted w + keys_counted w + triples_counted w + held_counted w)

-- a static greedy reference asks for what a component provides
abbrev pub has_static_greedy_on_component : List Description → Description → Bool
has_static_greedy_on_component ds d = list_any (λ (r : Reference). is_static r.policy && (is_greedy r.policy_option && list_any (λ (e : Description). provides e r.interface_name) ds)) d.references

-- none does: then nothing closes while the platform settles
abbrev pub is_calm : World → Bool
is_calm w = let ds = descriptions_of w.documents in not (list_any (has_static_greedy_on_component ds) ds)
