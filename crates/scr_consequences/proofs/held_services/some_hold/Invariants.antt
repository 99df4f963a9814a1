use Rattle.std.proofs.Common.{◌≡◌, take, false}
use Rattle.std.specs.List.{list_any}
use Rattle.scr_world.specs.Lists.{holds}
use Rattle.scr_consequences.proofs.held_services.some_hold.Given as goal

abbrev pub invariant-loop-instance : goal.invariant-loop-instance
invariant-loop-instance l = list_any (holds l.components l.service) (take l.instance-index l.instances) ≡ false
