use Rattle.std.proofs.Common.{◌≡◌, drop}
use Rattle.std.specs.Prelude.{map}
use Rattle.std.specs.List.{enumerate_from}
use Rattle.callback_orders.specs.Due.{unbind_at}
use Rattle.prop_map.specs.Words.{first_some, with_places}
use Rattle.callback_orders.proofs.due.first_unbind.Given as goal

abbrev pub invariant-loop-reference : goal.invariant-loop-reference
invariant-loop-reference l = first_some (map (unbind_at l.instance) (with_places 0 l.references)) ≡ first_some (map (unbind_at l.instance) (enumerate_from l.reference (drop l.reference l.references)))
