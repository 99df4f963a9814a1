-- The world after an entry: what its lists make of the world after its step. The section stands at each group of words.
use Rattle.std.specs.Prelude.{ℕ, ◌+◌, ◌==◌, ◌&&◌, List, [], ◌∷◌, ◌++◌, Bool, true, not, Option, Some, None, filter, find, flat_map, count_by, if◌then◌else◌}
use Rattle.std.specs.List.{list_any}
use Rattle.std.specs.Option.{option_map_or}
use Rattle.bundle_life.specs.Lives.{is_active, stop_completed, state_is}
use Rattle.callback_orders.specs.Lives.{held_for}
use Rattle.component_dto.specs.declared.description.Reference.{Reference}
use Rattle.component_state.specs.declared.component.Component.{Component}
use Rattle.component_state.specs.declared.open_period.OpenPeriod.{OpenPeriod}
use Rattle.component_state.specs.Components.{pass_order}
use Rattle.component_state.specs.Periods.{open_after}
use Rattle.component_state.specs.Rows.{rows_of}
use Rattle.journal_core.specs.declared.entry.Entry.{Entry}
use Rattle.journal_core.specs.declared.entry.Opened.{Opened}
use Rattle.prop_map.specs.Words.{has}
use Rattle.service_listeners.specs.Listening.{Change, after_changes}
use Rattle.service_registry.specs.declared.row.ServiceRow.{ServiceRow}
use Rattle.service_registry.specs.Registries.{row_of, with_numbers_given}
use Rattle.service_registry.specs.Services.{ids}
use Rattle.use_counts.specs.declared.uses.UseRow.{UseRow}
use Rattle.scr_world.specs.declared.step.Step.{Step}
use Rattle.scr_world.specs.declared.instance.Instance.{Instance}
use Rattle.scr_world.specs.declared.marks.Token.{Token}
use Rattle.scr_world.specs.Levels.{levels_of}
use Rattle.scr_world.specs.Steps.{History}
use Rattle.scr_world.specs.Tables.{descriptions_of, listeners_by}
use Rattle.scr_world.specs.Whiteboard.{component_in}
use Rattle.scr_world.specs.declared.world.World.{World}
use Rattle.scr_world.specs.Worlds.{all_instances, empty_world, registered_services, is_registered}
use Rattle.scr_world.specs.Stepping.{world_after_step}

-- ---- services that were unregistered while an instance holds them (OSGi Compendium 8, chapter 112, "Unbinding")

-- an instance holds a service
abbrev pub holds : List Component → ℕ → Instance → Bool
holds cs service i = list_any (λ (r : Reference). has (held_for r.name i.callbacks) service) (option_map_or (λ (c : Component). c.description.references) (component_in cs i.origin.configuration) [])

abbrev pub is_service_held : World → ℕ → Bool
is_service_held w service = list_any (holds w.components service) (all_instances w)

-- those that aren't registered any more and that an instance holds, as they were
abbrev pub unregistered_held_between : World → World → List ServiceRow
unregistered_held_between was now = filter (λ (r : ServiceRow). not (is_registered now r.id) && is_service_held now r.id) (was.unregistered_held ++ registered_services was)

-- ---- gets: those of registered services for active bundles (OSGi Core 8, chapter 5, "Unregistering Services"; chapter 4, "Stopping Bundles")

abbrev pub is_active_bundle : World → ℕ → Bool
is_active_bundle w bundle = state_is is_active w.bundles.rows bundle

abbrev pub uses_in : World → List UseRow
uses_in w = filter (λ (u : UseRow). is_registered w u.service && is_active_bundle w u.bundle) w.uses

abbrev pub tokens_in : World → List Token
tokens_in w = filter (λ (t : Token). is_registered w t.service && is_active_bundle w t.bundle) w.tokens

-- ---- what happened to services in an entry (OSGi Core 8, chapter 5, "Service Events"; the order is our own)

-- a service before and after it: its properties were set where its revision rose. Two services at one component configuration don't come up, as no
-- entry closes and opens one: the last branch is there so that each pair has an answer
abbrev pub change_of_one : ServiceRow → ServiceRow → List Change
change_of_one old new =
    if old.id == new.id then (if old.revision == new.revision then [] else (Some old, Some new) ∷ []) else (Some old, None) ∷ (None, Some new) ∷ []

abbrev pub change_between : Option ServiceRow → Option ServiceRow → List Change
change_between None None = []
change_between None (Some new) = (None, Some new) ∷ []
change_between (Some old) None = (Some old, None) ∷ []
change_between (Some old) (Some new) = change_of_one old new

-- the direct services of either, by number
abbrev pub direct_between : World → World → List ℕ
direct_between was now = ids was.registry.rows ++ filter (λ s. not (has (ids was.registry.rows) s)) (ids now.registry.rows)

-- the service of an open component configuration, if it has one
abbrev pub row_at : List OpenPeriod → ℕ → Option ServiceRow
row_at open_ones configuration = find (λ (r : ServiceRow). true) (rows_of (filter (λ (p : OpenPeriod). p.configuration == configuration) open_ones))

-- direct services first, by number, then those of component configurations in the order of the pass
abbrev pub changes_between : World → World → List Change
changes_between was now =
    let ds = descriptions_of now.documents in
    flat_map (λ s. change_between (row_of was.registry.rows s) (row_of now.registry.rows s)) (direct_between was now)
    ++ flat_map (λ (c : Component). change_between (row_at was.open_periods c.number) (row_at now.open_periods c.number)) (pass_order ds (levels_of ds) now.components)

-- ---- all of it

-- with the lists of an entry: what is open after it, the bundles whose stop is complete, and how many services were numbered
abbrev pub with_lists_of : Entry Step → World → World
with_lists_of entry m = record m {
  entries = m.entries + 1;
  bundles = stop_completed entry.stopped m.bundles;
  open_periods = open_after m.entries m.components entry.closed entry.opened m.open_periods;
  registry = with_numbers_given (count_by (λ (o : Opened). not (o.service == 0)) entry.opened) m.registry;
}

-- with the gets that stand, what listeners were told, and the services that were unregistered while they are held
abbrev pub with_gets_and_events : Step → World → World → World
with_gets_and_events step was now = record now {
  uses = uses_in now;
  tokens = tokens_in now;
  listeners = listeners_by step (after_changes (changes_between was now) was.listeners);
  unregistered_held = unregistered_held_between was now;
}

-- the world after an entry
unfoldable pub world_after_entry : Entry Step → World → World
world_after_entry entry w = with_gets_and_events entry.step w (with_lists_of entry (world_after_step entry.step w))

-- the world of a journal
unfoldable pub world_of : History → World
world_of [] = empty_world
world_of (entry ∷ past) = world_after_entry entry (world_of past)
