use Rattle.std.proofs.Common.{◌≡◌, drop}
use Rattle.std.specs.Prelude.{Some, filter_map}
use Rattle.std.specs.List.{enumerate_from, last_or}
use Rattle.callback_orders.specs.declared.due.DueRef.TheVariants.{Destroy}
use Rattle.callback_orders.specs.Due.{let_go_at}
use Rattle.prop_map.specs.Words.{with_places}
use Rattle.callback_orders.proofs.due.last_unbind_or_destroy.Given as goal

abbrev pub invariant-loop-reference : goal.invariant-loop-reference
invariant-loop-reference l = last_or (Some (Destroy l.instance)) (filter_map (let_go_at l.instance) (with_places 0 l.references)) ≡ last_or l.due (filter_map (let_go_at l.instance) (enumerate_from l.reference (drop l.reference l.references)))
