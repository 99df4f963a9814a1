-- Steps that begin a turn. Our own.
use Rattle.std.specs.Prelude.{ℕ, Bool, true, false}
use Rattle.scr_world.specs.declared.step.Step.{Step}
use Rattle.scr_world.specs.declared.step.Step.TheVariants.{Command as Commanded, Begin, End, Drained, Got, Released}

abbrev pub is_beginning : Step → Bool
is_beginning (Commanded command) = false
is_beginning (Begin turn instance configuration consumer callback chosen) = true
is_beginning (End turn outcome) = false
is_beginning (Drained instance) = false
is_beginning (Got bundle service) = false
is_beginning (Released place) = false

-- the number of the turn that a step begins or ends, 0 for any other step
abbrev pub turn_of : Step → ℕ
turn_of (Commanded command) = 0
turn_of (Begin turn instance configuration consumer callback chosen) = turn
turn_of (End turn outcome) = turn
turn_of (Drained instance) = 0
turn_of (Got bundle service) = 0
turn_of (Released place) = 0
