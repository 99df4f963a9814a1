use Rattle.std.proofs.Common.{◌≡◌, take}
use Rattle.std.specs.Prelude.{map}
use Rattle.std.specs.List.{flat_map}
use Rattle.level_order.specs.InterfaceNames.{named_by}
use Rattle.level_order.proofs.interface_names.names_in.Given as goal

abbrev pub invariant-loop-description : goal.invariant-loop-description
invariant-loop-description l = map (λ t. t.now) l.names.items ≡ flat_map named_by (take l.description-index l.descriptions)
