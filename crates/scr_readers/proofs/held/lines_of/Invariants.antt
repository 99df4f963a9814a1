use Rattle.std.proofs.Common.{◌≡◌, take}
use Rattle.std.specs.Prelude.{◌==◌, filter, flat_map}
use Rattle.scr_world.specs.Readers.{held_lines_of}
use Rattle.scr_world.specs.declared.instance.Instance.{Instance}
use Rattle.scr_readers.proofs.held.lines_of.Given as goal

abbrev pub invariant-loop-instance : goal.invariant-loop-instance
invariant-loop-instance l = l.lines.items ≡ flat_map (held_lines_of l.world) (filter (λ (i : Instance). i.origin.configuration == l.configuration) (take l.instance-index l.world.instances))
