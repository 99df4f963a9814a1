-- Entries without consequences, as code adds them. Our own.
use Rattle.std.specs.Prelude.{◌≡◌, ◌<◌, ◌+◌, ◌-◌, ◌++◌, ◌∷◌, [], List, Bool, true, false}
use Rattle.journal_core.specs.Rooms.{HasRoom, JournalRows}
use Rattle.scr_laws.specs.Reserving.{given_back_by, reserved_with}
use Rattle.scr_laws.specs.Stills.{bare}
use Rattle.scr_world.specs.declared.step.Step.{Step}
use Rattle.scr_world.specs.declared.step.Step.TheVariants.{Command as Commanded, Begin, End, Drained, Got, Released}
use Rattle.scr_world.specs.declared.world.World.{World}

-- the entry of a step was reserved before
abbrev pub is_release : Step → Bool
is_release (Commanded command) = false
is_release (Begin turn instance configuration consumer callback chosen) = false
is_release (End turn outcome) = false
is_release (Drained instance) = true
is_release (Got bundle service) = false
is_release (Released place) = true

-- where it was, something is reserved; where it wasn't, there is room for it and for what is reserved with it
pub record HasRoomLeft (j : JournalRows Step) (step : Step) : Type 0 where
  pub reserved : is_release step ≡ true → 0 < j.reserved
  pub beside : is_release step ≡ false → HasRoom j (reserved_with step + 1)

-- a journal with the bare entry of a step, and what is reserved after it
abbrev pub with_bare : Step → World → JournalRows Step → JournalRows Step
with_bare step w j = record j { entries = j.entries ++ bare step ∷ []; reserved = (j.reserved + reserved_with step) - given_back_by step w }
