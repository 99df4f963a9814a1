use Rattle.std.proofs.Common.{◌≡◌, take}
use Rattle.std.specs.Prelude.{map}
use Rattle.level_order.specs.Links.{gives_of}
use Rattle.level_order.proofs.links.all_gives.Given as goal

abbrev pub invariant-loop-description : goal.invariant-loop-description
invariant-loop-description l = l.gives.items ≡ map (gives_of (map (λ t. t.now) l.names) l.first) (take l.description-index l.descriptions)
