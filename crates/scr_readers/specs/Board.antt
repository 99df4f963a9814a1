-- When what the whiteboard's instance holds may change. Our own.
use Rattle.std.specs.Prelude.{ℕ, ◌+◌, ◌==◌, [], ◌∷◌, Bool, true, false, if◌then◌else◌}
use Rattle.scr_world.specs.declared.step.Step.{Step}
use Rattle.scr_world.specs.declared.step.Step.TheVariants.{Command as Commanded, Begin, End, Drained, Got, Released}
use Rattle.scr_world.specs.declared.world.World.{World}
use Rattle.scr_world.specs.Instances.{has_turn}
use Rattle.scr_world.specs.Lists.{world_of}
use Rattle.scr_world.specs.Steps.{History}

-- a command may change the services that it holds, and its own turns what it holds; no other step does
abbrev pub changes_board : Step → World → Bool
changes_board (Commanded command) w = true
changes_board (Begin turn instance configuration consumer callback chosen) w = w.whiteboard.number == instance
changes_board (End turn outcome) w = has_turn turn w.whiteboard
changes_board (Drained instance) w = false
changes_board (Got bundle service) w = false
changes_board (Released place) w = false

-- how many entries of a journal may have changed it
abbrev pub board_changes : History → ℕ
board_changes [] = 0
board_changes (entry ∷ past) = if changes_board entry.step (world_of past) then board_changes past + 1 else board_changes past
