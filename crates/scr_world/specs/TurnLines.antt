-- The turns of a journal. Our own.
use Rattle.std.specs.Prelude.{ℕ, ◌==◌, List, [], ◌∷◌, ◌++◌, map, filter, nat_lt, Some, None, if◌then◌else◌}
use Rattle.callback_orders.specs.declared.callback.Outcome.{Outcome}
use Rattle.scr_world.specs.declared.step.Step.{Step}
use Rattle.scr_world.specs.declared.step.Step.TheVariants.{Command as Commanded, Begin, End, Drained, Got, Released}
use Rattle.scr_world.specs.declared.lines.TurnLine.{TurnLine}
use Rattle.scr_world.specs.Lists.{world_of}
use Rattle.scr_world.specs.Steps.{History}
use Rattle.scr_world.specs.TurnSteps.{name_in}
use Rattle.scr_world.specs.declared.world.World.{World}

-- the turn of this number has ended so
abbrev pub ended_line : ℕ → Outcome → TurnLine → TurnLine
ended_line turn outcome line = if line.turn == turn then record line { outcome = Some outcome } else line

-- the turns after a step: one more at a beginning, the outcome of one at an end
abbrev pub lines_by : Step → World → List TurnLine → List TurnLine
lines_by (Begin turn instance configuration consumer callback chosen) w lines =
    lines ++ record { turn = turn; callback = callback; instance = instance; name = name_in w configuration; outcome = None } ∷ []
lines_by (End turn outcome) w lines = map (ended_line turn outcome) lines
lines_by (Commanded command) w lines = lines
lines_by (Drained instance) w lines = lines
lines_by (Got bundle service) w lines = lines
lines_by (Released place) w lines = lines

-- the turns that have begun in a journal, in order
abbrev pub turn_lines : History → List TurnLine
turn_lines [] = []
turn_lines (entry ∷ past) = lines_by entry.step (world_of past) (turn_lines past)

-- those with a number above this one
abbrev pub turns_above : ℕ → History → List TurnLine
turns_above number history = filter (λ (line : TurnLine). nat_lt number line.turn) (turn_lines history)
