use Rattle.std.proofs.Common.{◌≡◌, ◌++◌, map, take}
use Rattle.scr_dues.specs.Desires.{desiring_of}
use Rattle.scr_dues.proofs.desiring.add_desiring.Given as goal

abbrev pub invariant-loop-instance : goal.invariant-loop-instance
invariant-loop-instance l = l.found.items ≡ l.initial.found.items ++ map (desiring_of l.world) (take l.instance-index l.instances)
