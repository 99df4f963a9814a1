use Rattle.std.proofs.Common.{◌≡◌, map, take}
use Rattle.scr_world.specs.Readers.{bundle_line}
use Rattle.scr_readers.proofs.bundles.lines_of.Given as goal

abbrev pub invariant-loop-row : goal.invariant-loop-row
invariant-loop-row l = l.lines.items ≡ map bundle_line (take l.row-index l.rows)
