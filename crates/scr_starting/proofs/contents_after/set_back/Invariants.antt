use Rattle.std.proofs.Common.{◌≡◌, take}
use Rattle.std.specs.Prelude.{map}
use Rattle.scr_world.specs.Tables.{set_back}
use Rattle.scr_starting.proofs.contents_after.set_back.Given as goal

abbrev pub invariant-loop-contents : goal.invariant-loop-contents
invariant-loop-contents l = l.after.items ≡ map (set_back l.bundle) (take l.contents-index l.documents)
