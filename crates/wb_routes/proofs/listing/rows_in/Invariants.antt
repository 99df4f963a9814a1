use Rattle.std.proofs.Common.{◌≡◌, ◌++◌, drop, flat_map}
use Rattle.wb_routes.specs.Listing.{rows_of}
use Rattle.wb_routes.proofs.listing.rows_in.Given as goal

abbrev pub invariant-loop-servlet : goal.invariant-loop-servlet
invariant-loop-servlet l = l.rows.items ++ flat_map (rows_of l.context) (drop l.servlet-index l.servlets) ≡ flat_map (rows_of l.context) l.servlets
