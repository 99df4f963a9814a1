use Rattle.std.proofs.Common.{◌≡◌, ◌+◌, take}
use Rattle.std.specs.Prelude.{map}
use Rattle.component_dto.specs.declared.description.Reference.{Reference}
use Rattle.level_order.specs.InterfaceNames.{number_of}
use Rattle.level_order.proofs.links.needs_of.Given as goal

abbrev pub invariant-loop-reference : goal.invariant-loop-reference
invariant-loop-reference l = l.numbers.items ≡ map (λ (r : Reference). l.first + number_of (map (λ t. t.now) l.names) r.interface_name) (take l.reference-index l.description.references)
