use Rattle.std.proofs.Common.{◌≡◌, ◌+◌, ℕ, List, take}
use Rattle.std.specs.Prelude.{map}
use Rattle.level_order.specs.InterfaceNames.{number_of}
use Rattle.level_order.proofs.links.gives_of.Given as goal

abbrev pub invariant-loop-interface : goal.invariant-loop-interface
invariant-loop-interface l = l.numbers.items ≡ map (λ (i : List ℕ). l.first + number_of (map (λ t. t.now) l.names) i) (take l.interface-index l.description.service_interfaces)
