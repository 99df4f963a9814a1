use Rattle.std.proofs.Common.{◌-◌}
use Rattle.platform_hall.specs.Platforms.{Posts, world}
use Rattle.platform_hall.proofs.drains.post_drains.Given as goal

-- drains were posted so far
abbrev pub invariant-loop-key : goal.invariant-loop-key
invariant-loop-key l = Posts l.fn.core l.core

-- the room that is left
abbrev pub decreases-loop-key : goal.decreases-loop-key
decreases-loop-key l = l.core.limits.journal - (world l.core).entries
