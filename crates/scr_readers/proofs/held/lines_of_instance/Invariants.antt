use Rattle.std.proofs.Common.{◌≡◌, take}
use Rattle.std.specs.Prelude.{flat_map}
use Rattle.scr_world.specs.Readers.{held_lines_by}
use Rattle.scr_readers.proofs.held.lines_of_instance.Given as goal

abbrev pub invariant-loop-reference : goal.invariant-loop-reference
invariant-loop-reference l = l.lines.items ≡ flat_map (held_lines_by l.world l.instance) (take l.reference-index l.reference-items)
