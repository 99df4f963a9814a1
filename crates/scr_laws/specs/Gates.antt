-- What entries do to gates. Our own.
use Rattle.std.specs.Prelude.{◌≡◌, length, Bool, true, false}
use Rattle.std.specs.List.{Contains}
use Rattle.scr_laws.specs.GateKeys.{generations_of, keys_of}
use Rattle.scr_world.specs.Instances.{is_active_instance}
use Rattle.scr_world.specs.Lists.{world_of}
use Rattle.scr_world.specs.Steps.{History}
use Rattle.scr_world.specs.declared.instance.Instance.{Instance}
use Rattle.scr_world.specs.declared.step.Step.{Step}
use Rattle.scr_world.specs.declared.step.Step.TheVariants.{Command as Commanded, Begin, End, Drained, Got, Released}

-- a beginning, a drain, and a get by token with its release
abbrev pub shuts_nothing : Step → Bool
shuts_nothing (Commanded command) = false
shuts_nothing (Begin turn instance configuration consumer callback chosen) = true
shuts_nothing (End turn outcome) = false
shuts_nothing (Drained instance) = true
shuts_nothing (Got bundle service) = true
shuts_nothing (Released place) = true

-- an active instance has the last generation of its slot: that says how often the slot was opened so far
abbrev pub HaveLastGenerations : History → Type 0
HaveLastGenerations journal = (i : Instance) → Contains (world_of journal).instances i → is_active_instance i ≡ true → i.generation ≡ length (generations_of i.slot (keys_of journal))
