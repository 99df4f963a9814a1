use Rattle.std.proofs.Common.{◌≡◌, drop}
use Rattle.std.specs.List.{list_any}
use Rattle.prop_map.specs.Words.{with_places}
use Rattle.scr_causes.specs.WantedHere.{desires_for}
use Rattle.scr_causes.proofs.wanted.desires_for_some.Given as goal

-- the rest decides
abbrev pub invariant-loop-at : goal.invariant-loop-at
invariant-loop-at l = list_any (desires_for l.ending l.world l.instance l.service) (with_places 0 l.references) ≡ list_any (desires_for l.ending l.world l.instance l.service) (with_places l.at (drop l.at l.references))
