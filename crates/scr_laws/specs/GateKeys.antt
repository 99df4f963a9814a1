-- The keys of the gates that a journal opens. Our own.
use Rattle.std.specs.Prelude.{ℕ, ◌==◌, ◌&&◌, List, [], ◌∷◌, ◌++◌, map, filter, Bool, true, not}
use Rattle.std.specs.List.{list_any}
use Rattle.std.specs.Option.{option_map_or}
use Rattle.journal_core.specs.declared.entry.GateKey.{GateKey}
use Rattle.scr_world.specs.Consequences.{reopened_by}
use Rattle.scr_world.specs.Lists.{world_of}
use Rattle.scr_world.specs.Steps.{History}
use Rattle.scr_world.specs.declared.step.Step.{Step}
use Rattle.scr_world.specs.declared.step.Step.TheVariants.{End}
use Rattle.scr_world.specs.declared.world.World.{World}

-- the key that a step opens: that of the instance that becomes active by the end of its Activate
abbrev pub keys_by : Step → World → List GateKey
keys_by (End turn outcome) w = option_map_or (λ (key : GateKey). key ∷ []) (reopened_by turn outcome w) []
keys_by _ w = []

-- the keys that the entries of a journal open, the oldest first
abbrev pub keys_of : History → List GateKey
keys_of [] = []
keys_of (entry ∷ past) = keys_of past ++ keys_by entry.step (world_of past)

-- the generations with which a slot was opened, the oldest first
abbrev pub generations_of : ℕ → List GateKey → List ℕ
generations_of slot keys = map (λ (k : GateKey). k.generation) (filter (λ (k : GateKey). k.slot == slot) keys)

abbrev pub is_key : GateKey → GateKey → Bool
is_key k l = (l.slot == k.slot) && (l.generation == k.generation)

-- no two are the same
abbrev pub keys_differ : List GateKey → Bool
keys_differ [] = true
keys_differ (k ∷ ks) = not (list_any (is_key k) ks) && keys_differ ks
