-- Wanted keys: the instances that are to be there. OSGi Compendium 8, chapter 112, "Immediate Component", "Delayed Component"; scopes: OSGi Core 8, chapter 5, "Service Scope". Keys are our own.
use Rattle.std.specs.Prelude.{ℕ, ◌==◌, ◌&&◌, ◌||◌, List, [], ◌∷◌, map, Bool, not, filter, find, flat_map, if◌then◌else◌}
use Rattle.std.specs.Option.{option_map_or}
use Rattle.std.specs.List.{list_any}
use Rattle.bundle_life.specs.declared.bundle.BundleLife.{BundleLife}
use Rattle.callback_orders.specs.declared.instance_view.InstanceView.{InstanceView}
use Rattle.callback_orders.specs.declared.instance_view.Key.{Key}
use Rattle.callback_orders.specs.declared.instance_view.ReferenceView.{ReferenceView}
use Rattle.callback_orders.specs.References.{is_desired}
use Rattle.component_state.specs.declared.component.Component.{Component}
use Rattle.component_state.specs.declared.open_period.OpenPeriod.{OpenPeriod}
use Rattle.component_state.specs.Components.{consumer_for, has_singleton_scope, provides_no_service}
use Rattle.use_counts.specs.declared.uses.UseRow.{UseRow}
use Rattle.scr_world.specs.declared.instance.Instance.{Instance}
use Rattle.scr_world.specs.Views.{bundle_of_instance, view_of, whiteboard_view}
use Rattle.scr_world.specs.declared.world.World.{World}

-- an instance desires a service
abbrev pub desires : ℕ → InstanceView → Bool
desires service v = list_any (λ (r : ReferenceView). is_desired r service) v.references

-- a component configuration without interfaces, or that says so, has its instance as soon as it is open
abbrev pub is_immediate : Component → Bool
is_immediate c = c.description.immediate || provides_no_service c

-- the views of all instances, each with the bundle that it is of
abbrev pub ConsumerView : Type 0
ConsumerView = ℕ × InstanceView

abbrev pub consumer_views : World → List ConsumerView
consumer_views w = (0, whiteboard_view w) ∷ map (λ i. (bundle_of_instance w i, view_of w i)) w.instances

-- an instance desires the service of a period for a consumer, or a bundle has got it
abbrev pub is_desired_by : Component → ℕ → ℕ → ConsumerView → Bool
is_desired_by c service consumer s = (consumer_for c s.0 == consumer) && desires service s.1

abbrev pub is_got_by : Component → ℕ → ℕ → UseRow → Bool
is_got_by c service consumer u = (u.service == service) && (consumer_for c u.bundle == consumer)

abbrev pub is_used : World → List ConsumerView → Component → ℕ → ℕ → Bool
is_used w views c service consumer = not (service == 0) && (list_any (is_desired_by c service consumer) views || list_any (is_got_by c service consumer) w.uses)

-- an open component configuration's instance is wanted for a consumer: always that for all where it is immediate, else as long as its service is used
abbrev pub is_wanted : World → List ConsumerView → Component → OpenPeriod → ℕ → Bool
is_wanted w views c p consumer = (is_immediate c && (consumer == 0)) || is_used w views c p.row.id consumer

-- for whom there can be instances: for all, or for bundle 0 and each other bundle
abbrev pub consumers_of : World → Component → List ℕ
consumers_of w c = if has_singleton_scope c.description.scope then 0 ∷ [] else 0 ∷ map (λ (b : BundleLife). b.number) w.bundles.rows

abbrev pub keys_of : World → List ConsumerView → Component → OpenPeriod → List Key
keys_of w views c p = map (λ consumer. record { configuration = c.number; consumer = consumer }) (filter (is_wanted w views c p) (consumers_of w c))

abbrev pub keys_for : World → List ConsumerView → Component → List Key
keys_for w views c = option_map_or (keys_of w views c) (find (λ (p : OpenPeriod). p.configuration == c.number) w.open_periods) []

-- the wanted keys, by configuration, then by consumer
abbrev pub wanted : World → List Key
wanted w = let views = consumer_views w in flat_map (keys_for w views) w.components

-- a living instance is of this key
abbrev pub has_instance : List Instance → Key → Bool
has_instance is key = list_any (λ (i : Instance). (i.origin.configuration == key.configuration) && (i.consumer == key.consumer)) is

-- those without an instance
abbrev pub missing : World → List Key
missing w = filter (λ key. not (has_instance w.instances key)) (wanted w)
