-- Words of the core's own code: the beginning of a turn. Our own.
use Rattle.std.specs.Prelude.{◌≡◌, ◌+◌, List, [], ◌∷◌, ◌++◌, Some}
use Rattle.scr_core.specs.declared.turns.Prepared.{Prepared}
use Rattle.scr_state.specs.Keeps.{IsDraft}
use Rattle.scr_state.specs.declared.state.State.{State}
use Rattle.scr_world.specs.Stepping.{world_after_step}
use Rattle.scr_world.specs.TurnLines.{lines_by}
use Rattle.scr_world.specs.TurnSteps.{work_under_way}
use Rattle.scr_world.specs.declared.lines.TurnLine.{TurnLine}
use Rattle.scr_world.specs.declared.step.Step.{Step}
use Rattle.scr_world.specs.declared.world.World.{World}

-- with the beginning of a turn one more line is there
abbrev pub IsLineOf : Step → World → TurnLine → Type 0
IsLineOf step w line = (lines : List TurnLine) → lines_by step w lines ≡ lines ++ line ∷ []

-- what is ready before a turn begins: its draft, its work as it is told then, and its line
pub record IsPrepared (s : State) (step : Step) (p : Prepared) : Type 0 where
  pub draft : IsDraft s step p.draft
  pub work : work_under_way (world_after_step step s.world) p.work.number ≡ Some p.work
  pub next : p.work.number ≡ s.world.turns_begun + 1
  pub line : IsLineOf step s.world p.line
