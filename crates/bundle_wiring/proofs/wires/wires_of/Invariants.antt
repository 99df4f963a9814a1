use Rattle.std.proofs.Common.{◌≡◌, ◌++◌, drop, flat_map}
use Rattle.std.specs.Prelude.{map}
use Rattle.bundle_wiring.specs.Standings.{standing_of, wire_at}
use Rattle.bundle_wiring.proofs.wires.wires_of.Given as goal

abbrev pub invariant-loop-stand : goal.invariant-loop-stand
invariant-loop-stand l =
    l.wires.items ++ flat_map (wire_at l.left l.table) (map standing_of (drop l.stand-index l.stands)) ≡ flat_map (wire_at l.left l.table) (map standing_of l.stands)
