-- Descriptions with their levels, or the cycle that is told where some have none. Our own.
use Rattle.std.specs.Prelude.{◌≡◌, ⊤, List, true, false, Result, Ok, Err}
use Rattle.component_dto.specs.declared.description.Description.{Description}
use Rattle.level_order.specs.Cycles.{TellsCycle}
use Rattle.scr_installing.specs.declared.described.Described.{Described}
use Rattle.scr_world.specs.Levels.{has_levels, levels_of}
use Rattle.scr_world.specs.declared.reply.CoreFault.{CoreFault}
use Rattle.scr_world.specs.declared.reply.CoreFault.TheVariants.{Cycle, OutOfMemory}

-- these are the descriptions, and each has its level
pub record AreDescribed (ds : List Description) (d : Described) : Type 0 where
  pub descriptions : d.descriptions ≡ ds
  pub levels : d.levels ≡ levels_of ds
  pub has_levels : has_levels ds ≡ true

-- the answer to descriptions, where want of memory is free
abbrev pub IsDescribed : List Description → Result Described CoreFault → Type 0
IsDescribed ds (Ok d) = AreDescribed ds d
IsDescribed ds (Err (Cycle path)) = (has_levels ds ≡ false) × TellsCycle ds path
IsDescribed ds (Err OutOfMemory) = ⊤
IsDescribed ds (Err fault) = ⊥
