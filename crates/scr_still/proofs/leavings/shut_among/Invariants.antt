use Rattle.std.proofs.Common.{◌≡◌, take}
use Rattle.std.specs.Prelude.{filter, map}
use Rattle.scr_still.specs.StillEnds.{is_shut_by, key_opened}
use Rattle.scr_still.proofs.leavings.shut_among.Given as goal

abbrev pub invariant-loop-instance : goal.invariant-loop-instance
invariant-loop-instance l = l.keys.items ≡ map (key_opened l.generations) (filter (is_shut_by l.turn l.outcome l.world) (take l.instance-index l.instances))
