use Rattle.std.proofs.Common.{◌≡◌, take}
use Rattle.std.specs.Prelude.{filter, map}
use Rattle.scr_world.specs.Stepping.{failure_of}
use Rattle.scr_consequences.specs.Ends.{ends_making}
use Rattle.scr_consequences.proofs.failures.failures_ending.Given as goal

abbrev pub invariant-loop-instance : goal.invariant-loop-instance
invariant-loop-instance l = l.found.items ≡ map (failure_of l.outcome) (filter (ends_making l.open_now l.turn) (take l.instance-index l.instances))
