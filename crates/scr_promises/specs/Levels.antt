-- How far the gate of each slot is, and what an entry changes of it. Our own.
use Rattle.std.specs.Prelude.{◌≡◌, ℕ, ◌+◌, ◌*◌, ◌==◌, ◌&&◌, List, Bool, false, Option, Some, None, find, slice_index, if◌then◌else◌}
use Rattle.std.specs.List.{Contains, list_any}
use Rattle.std.specs.Option.{option_map_or}
use Rattle.journal_core.specs.declared.entry.GateKey.{GateKey}
use Rattle.scr_world.specs.Consequences.{reopened_by, shut_between}
use Rattle.scr_world.specs.Instances.{is_active_instance}
use Rattle.scr_world.specs.Views.{ends}
use Rattle.scr_world.specs.declared.instance.Instance.{Instance}
use Rattle.scr_world.specs.declared.step.Step.{Step}
use Rattle.scr_world.specs.declared.step.Step.TheVariants.{Command as Commanded, Begin, End, Drained, Got, Released}
use Rattle.scr_world.specs.declared.world.World.{World}

-- the stage of an instance's gate: 0 open, 1 shut, 3 closed. It is open while the instance is active and not ending, and closed once its drain is posted
abbrev pub gate_stage : World → Instance → ℕ
gate_stage w i = if is_active_instance i then (if ends w i then (if i.drained then 3 else 1) else 0) else 3

-- that of a slot: a free one is closed
abbrev pub slot_stage : World → ℕ → ℕ
slot_stage w slot = option_map_or (gate_stage w) (find (λ (i : Instance). i.slot == slot) w.instances) 3

-- the level of a slot: four times how often its gate was opened, and its stage
abbrev pub slot_level : World → ℕ → ℕ
slot_level w slot = 4 * slice_index w.generations slot + slot_stage w slot

-- the gate that a step reopens
abbrev pub reopened_in : Step → World → Option GateKey
reopened_in (End turn outcome) w = reopened_by turn outcome w
reopened_in (Commanded command) w = None
reopened_in (Begin turn instance configuration consumer callback chosen) w = None
reopened_in (Drained instance) w = None
reopened_in (Got bundle service) w = None
reopened_in (Released place) w = None

-- the drain of the gate of a slot is posted by a step
abbrev pub is_drained_in : Step → World → ℕ → Bool
is_drained_in (Drained instance) w slot = list_any (λ (i : Instance). (i.number == instance) && (i.slot == slot)) w.instances
is_drained_in (Commanded command) w slot = false
is_drained_in (Begin turn instance configuration consumer callback chosen) w slot = false
is_drained_in (End turn outcome) w slot = false
is_drained_in (Got bundle service) w slot = false
is_drained_in (Released place) w slot = false

-- a reopened gate is open under its generation
abbrev pub level_reopened : Option GateKey → ℕ → ℕ → ℕ
level_reopened None slot level = level
level_reopened (Some key) slot level = if key.slot == slot then 4 * key.generation else level

-- one whose drain is posted goes from shut to closed
abbrev pub level_drained : Bool → ℕ → ℕ
level_drained drained level = if drained then level + 2 else level

-- one that is shut goes from open to shut
abbrev pub level_shut : List GateKey → ℕ → ℕ → ℕ
level_shut keys slot level = if list_any (λ (key : GateKey). key.slot == slot) keys then level + 1 else level

-- between the worlds before and after an entry: the level of each slot is as before but for the gate that is reopened, the one whose drain is posted, and
-- those that are shut then. A reopened gate was closed, and has the next generation; a drained one was shut, and each that is shut was open, or reopened
pub record MovesLevels (step : Step) (before now : World) : Type 0 where
  pub levels : (slot : ℕ) → slot_level now slot ≡ level_shut (shut_between before now) slot (level_drained (is_drained_in step before slot) (level_reopened (reopened_in step before) slot (slot_level before slot)))
  pub reopened : (key : GateKey) → reopened_in step before ≡ Some key → (slot_stage before key.slot ≡ 3) × (key.generation ≡ slice_index before.generations key.slot + 1)
  pub drained : (i : Instance) → Contains before.instances i → step ≡ Drained i.number → slot_level before i.slot ≡ 4 * i.generation + 1
  pub shut : (key : GateKey) → Contains (shut_between before now) key → level_reopened (reopened_in step before) key.slot (slot_level before key.slot) ≡ 4 * key.generation
