use Rattle.std.proofs.Common.{◌≡◌, map, take}
use Rattle.script_shell.specs.Listings.{listener_line}
use Rattle.script_shell.proofs.listings.listener_lines.Given as goal

abbrev pub invariant-loop-row : goal.invariant-loop-row
invariant-loop-row l = l.lines.items ≡ map listener_line (take l.row-index l.rows)
