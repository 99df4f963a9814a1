-- The ends of creations and activations, and what is so of instances in a world. OSGi Compendium 8, chapter 112, "Activation", "Deactivation".
use Rattle.std.specs.Prelude.{ℕ, ◌+◌, ◌^◌, ◌<◌, ◌&&◌, ◌||◌, List, map, filter, slice_index, Bool, not}
use Rattle.prop_map.specs.Words.{has}
use Rattle.callback_orders.specs.declared.callback.Outcome.{Outcome}
use Rattle.callback_orders.specs.Grammar.{is_activate, is_create}
use Rattle.component_state.specs.declared.open_period.OpenPeriod.{OpenPeriod}
use Rattle.component_state.specs.Periods.{is_current}
use Rattle.scr_world.specs.declared.instance.Instance.{Instance}
use Rattle.scr_world.specs.declared.world.World.{World}
use Rattle.scr_world.specs.Consequences.{is_draining}
use Rattle.scr_world.specs.Instances.{becomes_active, has_turn, last_is}

-- a turn ends the creation or activation of an instance, and the period is open in which it was made
abbrev pub ends_making : List OpenPeriod → ℕ → Instance → Bool
ends_making open_now turn i = has_turn turn i && ((last_is is_create i.callbacks || last_is is_activate i.callbacks) && is_current open_now i.origin)

-- the instances whose gates are to be drained, by their numbers
unfoldable pub draining_in : World → List ℕ
draining_in w = map (λ (i : Instance). i.number) (filter (is_draining w) w.instances)

-- an instance begins to be drained, where the instances of these numbers were to be drained before
abbrev pub begins_draining_from : List ℕ → World → Instance → Bool
begins_draining_from draining now i = is_draining now i && not (has draining i.number)

-- the end of a turn makes an instance active
abbrev pub opens_gate : ℕ → Outcome → Instance → Bool
opens_gate turn outcome i = has_turn turn i && becomes_active outcome i

-- each gate has a number of 64 bits left for the next time that it opens
abbrev pub HaveNextGenerations : List ℕ → Type 0
HaveNextGenerations generations = (slot : ℕ) → slice_index generations slot + 1 < 2 ^ 64
