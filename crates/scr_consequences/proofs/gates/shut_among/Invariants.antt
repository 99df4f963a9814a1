use Rattle.std.proofs.Common.{◌≡◌, take}
use Rattle.std.specs.Prelude.{filter, map}
use Rattle.scr_world.specs.Consequences.{gate_of}
use Rattle.scr_consequences.specs.Ends.{begins_draining_from}
use Rattle.scr_consequences.proofs.gates.shut_among.Given as goal

abbrev pub invariant-loop-instance : goal.invariant-loop-instance
invariant-loop-instance l = l.keys.items ≡ map gate_of (filter (begins_draining_from l.draining l.now) (take l.instance-index l.instances))
