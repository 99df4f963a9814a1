-- What follows from an entry's step: what its pass stands on, the bundles that have stopped, and the gates that are shut and reopened.
use Rattle.std.specs.Prelude.{ℕ, ◌+◌, ◌==◌, ◌&&◌, ◌||◌, List, map, Bool, not, filter, find, Option, option_map}
use Rattle.std.specs.List.{list_any}
use Rattle.bundle_life.specs.declared.bundle.BundleLife.{BundleLife}
use Rattle.bundle_life.specs.Lives.{is_stopping}
use Rattle.callback_orders.specs.declared.callback.Outcome.{Outcome}
use Rattle.component_state.specs.declared.component.Component.{Component}
use Rattle.component_state.specs.Components.{declaring_bundle}
use Rattle.component_state.specs.Passes.{Stage}
use Rattle.journal_core.specs.declared.entry.GateKey.{GateKey}
use Rattle.scr_world.specs.declared.step.Step.{Step}
use Rattle.scr_world.specs.declared.instance.Instance.{Instance}
use Rattle.scr_world.specs.Instances.{is_active_instance, has_turn, becomes_active, next_generation}
use Rattle.scr_world.specs.Levels.{levels_of}
use Rattle.scr_world.specs.Tables.{descriptions_of}
use Rattle.scr_world.specs.Views.{ends}
use Rattle.scr_world.specs.declared.world.World.{World}
use Rattle.scr_world.specs.Worlds.{direct_services, origins_of}
use Rattle.scr_world.specs.Stepping.{failing, world_after_step}

-- ---- the pass (our own)

-- what a pass stands on in the world after a step
unfoldable pub stage_in : World → List ℕ → Stage
stage_in m failing_ones = let ds = descriptions_of m.documents in record {
  place = m.entries;
  next = m.registry.numbered + 1;
  descriptions = ds;
  levels = levels_of ds;
  direct = direct_services m;
  components = m.components;
  open_before = m.open_periods;
  origins = origins_of m.instances;
  failed = m.failed;
  failing = failing_ones;
}

unfoldable pub stage_of : Step → World → Stage
stage_of step w = stage_in (world_after_step step w) (failing step w)

-- ---- bundles that have stopped (Core 8, chapter 4, "Stopping Bundles")

-- an instance keeps a bundle from having stopped: it is of one of its components, or was made for it
abbrev pub keeps_bundle : List Component → ℕ → Instance → Bool
keeps_bundle cs bundle i = (declaring_bundle cs i.origin.configuration == bundle) || (i.consumer == bundle)

-- the bundles that have stopped: stopping ones for which no instance is left
abbrev pub has_stopped : List Component → List Instance → BundleLife → Bool
has_stopped cs is b = is_stopping b.state && not (list_any (keeps_bundle cs b.number) is)

unfoldable pub stopped_in : World → List ℕ
stopped_in m = map (λ (b : BundleLife). b.number) (filter (has_stopped m.components m.instances) m.bundles.rows)

unfoldable pub stopped_by : Step → World → List ℕ
stopped_by step w = stopped_in (world_after_step step w)

-- ---- gates (our own)

-- an instance whose gate is to be drained: active, and ending
abbrev pub is_draining : World → Instance → Bool
is_draining w i = is_active_instance i && ends w i

abbrev pub gate_of : Instance → GateKey
gate_of i = record { slot = i.slot; generation = i.generation }

-- an instance begins to be drained between two worlds
abbrev pub begins_draining : World → World → Instance → Bool
begins_draining before now i = is_draining now i && not (list_any (λ (j : Instance). (j.number == i.number) && is_draining before j) before.instances)

-- the gates that are shut between two worlds, by instance
unfoldable pub shut_between : World → World → List GateKey
shut_between before now = map gate_of (filter (begins_draining before now) now.instances)

-- the gate that the end of a turn reopens: that of the instance whose Activate is done
abbrev pub reopened_by : ℕ → Outcome → World → Option GateKey
reopened_by turn outcome w = option_map (λ (i : Instance). record { slot = i.slot; generation = next_generation w.generations i }) (find (λ (i : Instance). has_turn turn i && becomes_active outcome i) w.instances)
