-- What the line `routes` asks: the patterns that are in effect, and then what isn't and why. Our own form.
use Rattle.std.specs.Prelude.{List, ◌++◌, map}
use Rattle.shell_lang.specs.declared.route_line.RouteLine.{RouteLine}
use Rattle.shell_lang.specs.declared.route_line.RouteLine.TheVariants.{Route, Failed}
use Rattle.wb_routes.specs.Listing.{Routing, all_rows}
use Rattle.wb_routes.specs.declared.route_failure.RouteFailure.{RouteFailure}
use Rattle.wb_routes.specs.declared.route_row.RouteRow.{RouteRow}

-- the line of a pattern in effect
abbrev pub effect_line : RouteRow → RouteLine
effect_line row = Route row.path row.pattern row.service

-- the line of what isn't
abbrev pub failure_line : RouteFailure → RouteLine
failure_line failure = Failed failure.service failure.cause

-- the patterns of each context, the contexts in the order in which a path is looked up in them; then what isn't in effect
abbrev pub route_lines : Routing → List RouteLine
route_lines routing = map effect_line (all_rows routing.tables) ++ map failure_line routing.failures
