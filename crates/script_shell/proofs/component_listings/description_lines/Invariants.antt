use Rattle.std.proofs.Common.{◌≡◌, ◌++◌, drop}
use Rattle.std.specs.Prelude.{map}
use Rattle.platform_hall.specs.Platforms.{world}
use Rattle.script_shell.specs.ComponentListings.{description_line}
use Rattle.prop_map.specs.Words.{with_places}
use Rattle.script_shell.proofs.component_listings.description_lines.Given as goal

abbrev pub invariant-loop-at : goal.invariant-loop-at
invariant-loop-at l = l.lines.items ++ map (description_line (world l.core) l.contents) (with_places l.at (drop l.at l.descriptions)) ≡ map (description_line (world l.core) l.contents) (with_places 0 l.descriptions)
