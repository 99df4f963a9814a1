use Rattle.std.proofs.Common.{◌≡◌, take}
use Rattle.std.specs.Prelude.{map}
use Rattle.scr_world.specs.Worlds.{origins_of}
use Rattle.scr_consequences.proofs.passes.origins_of.Given as goal

abbrev pub invariant-loop-instance : goal.invariant-loop-instance
invariant-loop-instance l = map (λ o. o.now) l.found.items ≡ origins_of (take l.instance-index l.instances)
