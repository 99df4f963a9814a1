use Rattle.std.proofs.Common.{◌≡◌, take}
use Rattle.std.specs.Prelude.{map}
use Rattle.scr_world.specs.Tables.{flagged}
use Rattle.scr_starting.proofs.contents_after.flagged.Given as goal

abbrev pub invariant-loop-contents : goal.invariant-loop-contents
invariant-loop-contents l = l.after.items ≡ map (flagged l.bundle l.name l.flag) (take l.contents-index l.documents)
