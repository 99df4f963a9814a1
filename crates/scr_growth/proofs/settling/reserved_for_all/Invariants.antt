use Rattle.std.proofs.Common.{◌≡◌, ◌*◌, ◌≤◌, take}
use Rattle.std.specs.Prelude.{map, sum}
use Rattle.scr_world.specs.Room.{reserved_for}
use Rattle.scr_growth.proofs.settling.reserved_for_all.Given as goal

abbrev pub invariant-loop-instance : goal.invariant-loop-instance
invariant-loop-instance l = (l.all ≡ sum (map reserved_for (take l.instance-index l.instances))) × (l.all ≤ 2 * l.instance-index)
