use Rattle.std.proofs.Common.{◌≡◌, take}
use Rattle.scr_world.specs.Tables.{defaults}
use Rattle.scr_starting.proofs.enabled_flags.defaults.Given as goal

abbrev pub invariant-loop-description : goal.invariant-loop-description
invariant-loop-description l = l.flags.items ≡ defaults (take l.description-index l.descriptions)
