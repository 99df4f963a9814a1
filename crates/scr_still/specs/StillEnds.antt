-- Ends of turns without consequences, and what they leave. OSGi Compendium 8, chapter 112, "Activation", "Deactivation", "Unbinding"; turns and gates are our own.
use Rattle.std.specs.Prelude.{◌≡◌, ℕ, ◌+◌, ◌-◌, ◌≤◌, ◌==◌, ◌&&◌, ◌||◌, ◌++◌, ◌∷◌, [], List, Bool, true, false, not, Option, Some, None, filter, find, map, option_and_then, if◌then◌else◌}
use Rattle.std.specs.List.{list_all, list_any}
use Rattle.bundle_life.specs.declared.bundle.BundleLife.{BundleLife}
use Rattle.bundle_life.specs.Lives.{is_stopping}
use Rattle.callback_orders.specs.declared.callback.Callback.{Callback}
use Rattle.callback_orders.specs.declared.callback.Callback.TheVariants.{Unbind}
use Rattle.callback_orders.specs.declared.callback.Outcome.{Outcome}
use Rattle.callback_orders.specs.Grammar.{is_activate, is_create, is_destroy}
use Rattle.callback_orders.specs.Sequences.{is_failed}
use Rattle.component_state.specs.Periods.{is_current}
use Rattle.journal_core.specs.declared.entry.GateKey.{GateKey}
use Rattle.journal_core.specs.Rooms.{JournalRows}
use Rattle.prop_map.specs.Words.{has}
use Rattle.scr_consequences.specs.Ends.{opens_gate}
use Rattle.scr_laws.specs.Reserving.{activates_by}
use Rattle.scr_laws.specs.Stills.{bare}
use Rattle.scr_still.specs.declared.leavings.Leaving.{Leaving}
use Rattle.scr_world.specs.Consequences.{keeps_bundle}
use Rattle.scr_world.specs.Instances.{has_turn, last_callback, last_is, next_generation}
use Rattle.scr_world.specs.Lists.{is_service_held}
use Rattle.scr_world.specs.Views.{ends}
use Rattle.scr_world.specs.Worlds.{all_instances, satisfied_in}
use Rattle.scr_world.specs.declared.instance.Instance.{Instance}
use Rattle.scr_world.specs.declared.step.Step.{Step}
use Rattle.scr_world.specs.declared.step.Step.TheVariants.{End}
use Rattle.scr_world.specs.declared.world.World.{World}
use Rattle.service_registry.specs.declared.row.ServiceRow.{ServiceRow}

-- ---- which ends have no consequences

-- a turn ends the life of its instance: by a Destroy, or by a Create without success
abbrev pub ends_life : Outcome → Instance → Bool
ends_life outcome i = last_is is_destroy i.callbacks || (last_is is_create i.callbacks && is_failed (Some outcome))

-- it ends a creation or an activation without success, while the period is open in which the instance was made
abbrev pub fails_open : Outcome → World → Instance → Bool
fails_open outcome w i = is_failed (Some outcome) && ((last_is is_create i.callbacks || last_is is_activate i.callbacks) && is_current w.open_periods i.origin)

-- an instance that this turn doesn't tell keeps a bundle from having stopped
abbrev pub is_kept_beside : World → ℕ → ℕ → Bool
is_kept_beside w turn bundle = list_any (λ (j : Instance). not (has_turn turn j) && keeps_bundle w.components bundle j) w.instances

-- a stopping bundle waits for an instance that this turn tells, and for no other
abbrev pub waits_for : World → ℕ → Instance → BundleLife → Bool
waits_for w turn i b = is_stopping b.state && (keeps_bundle w.components b.number i && not (is_kept_beside w turn b.number))

-- the end of an instance's turn has no consequences, where these component configurations are satisfied: it is no failure in an open period, and where it
-- ends a life, the component configuration isn't satisfied, and no bundle waits for that instance alone
abbrev pub ends_still : ℕ → Outcome → World → List ℕ → Instance → Bool
ends_still turn outcome w satisfied i =
    not (fails_open outcome w i) && (not (ends_life outcome i) || (not (has satisfied i.origin.configuration) && not (list_any (waits_for w turn i) w.bundles.rows)))

abbrev pub are_still : ℕ → Outcome → World → List ℕ → Bool
are_still turn outcome w satisfied = list_all (λ (i : Instance). not (has_turn turn i) || ends_still turn outcome w satisfied i) w.instances

-- the end of a turn has no consequences
abbrev pub is_still_end : ℕ → Outcome → World → Bool
is_still_end turn outcome w = are_still turn outcome w (satisfied_in w)

-- ---- what such an end leaves

-- the gate of an instance whose Activate is done
abbrev pub key_opened : List ℕ → Instance → GateKey
key_opened generations i = record { slot = i.slot; generation = next_generation generations i }

-- an instance becomes active by such an end, and is ending
abbrev pub is_shut_by : ℕ → Outcome → World → Instance → Bool
is_shut_by turn outcome w i = opens_gate turn outcome i && ends w i

-- the gates that are shut with it
abbrev pub shut_by_end : ℕ → Outcome → World → List GateKey
shut_by_end turn outcome w = map (key_opened w.generations) (filter (is_shut_by turn outcome w) w.instances)

-- the service that a callback unbinds
abbrev pub service_unbound : Callback → Option ℕ
service_unbound (Unbind reference service) = Some service
service_unbound _ = None

-- the service that a turn unbinds
abbrev pub unbound_by : ℕ → World → Option ℕ
unbound_by turn w = option_and_then (λ (i : Instance). option_and_then service_unbound (last_callback i.callbacks)) (find (has_turn turn) (all_instances w))

-- an end gives the room of a drain back: that of an Activate without success
abbrev pub gives_drain_back : ℕ → Outcome → World → Bool
gives_drain_back turn outcome w = is_failed (Some outcome) && list_any (activates_by turn) (all_instances w)

-- services without one
abbrev pub without : Option ℕ → List ServiceRow → List ServiceRow
without None rows = rows
without (Some service) rows = filter (λ (r : ServiceRow). not (r.id == service)) rows

-- the services that left and are still held behind the end of a turn that unbinds one, or none
abbrev pub held_still : World → Option ℕ → List ServiceRow
held_still m None = m.unregistered_held
held_still m (Some service) = if is_service_held m service then m.unregistered_held else without (Some service) m.unregistered_held

-- what is told of such an end before it stands in the world
pub record IsLeaving (turn : ℕ) (outcome : Outcome) (w : World) (l : Leaving) : Type 0 where
  pub entries : l.entries ≡ w.entries + 1
  pub shut : l.shut ≡ shut_by_end turn outcome w
  pub unbound : l.unbound ≡ unbound_by turn w
  pub drain : l.drain ≡ gives_drain_back turn outcome w

-- the world that it leaves, once it stands there
abbrev pub left_world : Leaving → Option ℕ → World → World
left_world l lost m = record m { entries = l.entries; unregistered_held = without lost m.unregistered_held }

-- what one service is that isn't held any more, if any
abbrev pub IsLost : World → Option ℕ → Option ℕ → Type 0
IsLost m unbound lost = without lost m.unregistered_held ≡ held_still m unbound

-- how much room such an end gives back
abbrev pub room_given : Bool → ℕ
room_given drain = if drain then 2 else 1

-- a journal with the bare entry of an end, and what is reserved after it
abbrev pub with_end : ℕ → Outcome → Bool → JournalRows Step → JournalRows Step
with_end turn outcome drain j = record j { entries = j.entries ++ bare (End turn outcome) ∷ []; reserved = j.reserved - room_given drain }

-- so much is reserved
abbrev pub HasItsRoom : Bool → JournalRows Step → Type 0
HasItsRoom drain j = room_given drain ≤ j.reserved
