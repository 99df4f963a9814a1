use Rattle.std.proofs.Common.{◌≡◌, map, take}
use Rattle.platform_hall.specs.Platforms.{world}
use Rattle.script_shell.specs.Listings.{configuration_line}
use Rattle.script_shell.proofs.listings.configuration_lines.Given as goal

abbrev pub invariant-loop-row : goal.invariant-loop-row
invariant-loop-row l = l.lines.items ≡ map (configuration_line (world l.core)) (take l.row-index l.rows)
