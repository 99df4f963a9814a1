-- Wanted keys, where it is given which services instances desire: as the definitions of wanted keys say it.
use Rattle.std.specs.Prelude.{ℕ, ◌==◌, ◌&&◌, ◌||◌, List, [], map, Bool, not, filter, find, flat_map}
use Rattle.std.specs.Option.{option_map_or}
use Rattle.std.specs.List.{list_any}
use Rattle.callback_orders.specs.declared.instance_view.Key.{Key}
use Rattle.component_state.specs.declared.component.Component.{Component}
use Rattle.component_state.specs.declared.open_period.OpenPeriod.{OpenPeriod}
use Rattle.scr_world.specs.Wanted.{consumers_of, has_instance, is_got_by, is_immediate}
use Rattle.scr_world.specs.declared.world.World.{World}

-- whether an instance desires the service of a component configuration for a consumer
abbrev pub Desired : Type 0
Desired = Component → ℕ → ℕ → Bool

abbrev pub is_used_where : World → Desired → Component → ℕ → ℕ → Bool
is_used_where w desired c service consumer = not (service == 0) && (desired c service consumer || list_any (is_got_by c service consumer) w.uses)

abbrev pub is_wanted_where : World → Desired → Component → OpenPeriod → ℕ → Bool
is_wanted_where w desired c p consumer = (is_immediate c && (consumer == 0)) || is_used_where w desired c p.row.id consumer

abbrev pub key_for : Component → ℕ → Key
key_for c consumer = record { configuration = c.number; consumer = consumer }

-- the wanted keys for these consumers
abbrev pub keys_where : World → Desired → Component → OpenPeriod → List ℕ → List Key
keys_where w desired c p consumers = map (key_for c) (filter (is_wanted_where w desired c p) consumers)

abbrev pub keys_of_where : World → Desired → Component → OpenPeriod → List Key
keys_of_where w desired c p = keys_where w desired c p (consumers_of w c)

abbrev pub keys_for_where : World → Desired → Component → List Key
keys_for_where w desired c = option_map_or (keys_of_where w desired c) (find (λ (p : OpenPeriod). p.configuration == c.number) w.open_periods) []

-- without those that have an instance
abbrev pub is_missing : World → Key → Bool
is_missing w key = not (has_instance w.instances key)

abbrev pub missing_for_where : World → Desired → Component → List Key
missing_for_where w desired c = filter (is_missing w) (keys_for_where w desired c)

unfoldable pub missing_where : World → Desired → List Key
missing_where w desired = filter (is_missing w) (flat_map (keys_for_where w desired) w.components)
