use Rattle.std.proofs.Common.{◌≡◌}
use Rattle.std.specs.Prelude.{map}
use Rattle.script_shell.specs.ComponentListings.{listed_line}
use Rattle.script_shell.proofs.component_listings.listed_lines.Given as goal

abbrev pub invariant-loop-component : goal.invariant-loop-component
invariant-loop-component l = l.lines.items ≡ map listed_line l.yielded
