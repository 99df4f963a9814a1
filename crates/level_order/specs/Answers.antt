-- What the question for levels answers.
use Rattle.std.specs.Prelude.{ℕ, List, Result, Ok, Err}
use Rattle.component_dto.specs.declared.description.Description.{Description}
use Rattle.level_order.specs.declared.fault.LevelFault.{LevelFault}
use Rattle.level_order.specs.declared.fault.LevelFault.TheVariants.{Cycle, OutOfMemory}
use Rattle.level_order.specs.Levels.{AreLevels, IsAcyclic}
use Rattle.level_order.specs.Cycles.{TellsCycle}

-- the answer is the levels, or exactly where there are none the told cycle; want of memory is free
abbrev pub HasLevels : List Description → Result (List ℕ) LevelFault → Type 0
HasLevels ds (Ok levels) = AreLevels ds levels
HasLevels ds (Err (Cycle path)) = ¬ IsAcyclic ds × TellsCycle ds path
HasLevels ds (Err OutOfMemory) = Unit {0}
