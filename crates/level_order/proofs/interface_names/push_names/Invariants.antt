use Rattle.std.proofs.Common.{◌≡◌, ◌++◌, take}
use Rattle.std.specs.Prelude.{map}
use Rattle.component_dto.specs.declared.description.Reference.{Reference}
use Rattle.level_order.proofs.interface_names.push_names.Given as goal

abbrev pub invariant-loop-interface : goal.invariant-loop-interface
invariant-loop-interface l = map (λ t. t.now) l.names.items ≡ map (λ t. t.now) l.fn.names.items ++ take l.interface-index l.description.service_interfaces

abbrev pub invariant-loop-reference : goal.invariant-loop-reference
invariant-loop-reference l = map (λ t. t.now) l.names.items ≡ (map (λ t. t.now) l.fn.names.items ++ l.description.service_interfaces) ++ map (λ (r : Reference). r.interface_name) (take l.reference-index l.description.references)
