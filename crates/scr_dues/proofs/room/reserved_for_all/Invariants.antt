use Rattle.std.proofs.Common.{◌≡◌, ◌≤◌, ◌*◌, map, sum, take}
use Rattle.scr_world.specs.Room.{reserved_for}
use Rattle.scr_dues.proofs.room.reserved_for_all.Given as goal

abbrev pub invariant-loop-instance : goal.invariant-loop-instance
invariant-loop-instance l = record { sum : l.sum ≡ sum (map reserved_for (take l.instance-index l.instances)); small : l.sum ≤ 2 * l.instance-index }
