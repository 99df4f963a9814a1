use Rattle.std.proofs.Common.{◌≡◌, take}
use Rattle.std.specs.Prelude.{filter, map}
use Rattle.scr_world.specs.declared.instance.Instance.{Instance}
use Rattle.scr_world.specs.Consequences.{is_draining}
use Rattle.scr_consequences.proofs.gates.draining_among.Given as goal

abbrev pub invariant-loop-instance : goal.invariant-loop-instance
invariant-loop-instance l = l.found.items ≡ map (λ (i : Instance). i.number) (filter (is_draining l.world) (take l.instance-index l.instances))
