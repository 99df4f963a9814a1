use Rattle.std.proofs.Common.{subst, List, refl}
use Rattle.component_dto.specs.declared.description.Description.{Description}
use Rattle.level_order.specs.Cycles.{TellsCycle}
use Rattle.level_order.specs.Levels.{AreLevels, IsAcyclic}
use Rattle.scr_installing.proofs.LevelsAre.{has_none, has_these, levels_are}
use Rattle.scr_installing.proofs.described.with_levels.Goals as goal

pub returns-in-Ok : goal.returns-in-Ok
returns-in-Ok c =
    let ds = c.args.descriptions in
    let are = subst (λ (these : List Description). AreLevels these c.in-Ok.levels) c.as_slice.ensures c.in-Ok.ensures in
    record { descriptions = refl; levels = levels_are ds c.in-Ok.levels are; has_levels = has_these ds c.in-Ok.levels are }

pub returns-in-Err-Cycle : goal.returns-in-Err-Cycle
returns-in-Err-Cycle c =
    let none = rw c.in-Err-Cycle.field-0-is at c.in-Err-Cycle.ensures in
    (has_none c.args.descriptions (subst (λ (ds : List Description). ¬ IsAcyclic ds) c.as_slice.ensures none.0), subst (λ (ds : List Description). TellsCycle ds c.in-Err-Cycle.path) c.as_slice.ensures none.1)
