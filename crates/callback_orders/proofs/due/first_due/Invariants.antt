use Rattle.std.proofs.Common.{◌≡◌, ◌++◌, drop}
use Rattle.std.specs.Prelude.{Some, map}
use Rattle.callback_orders.specs.declared.due.DueRef.TheVariants.{Create}
use Rattle.callback_orders.specs.Due.{due_of, first_due}
use Rattle.prop_map.specs.Words.{first_some}
use Rattle.callback_orders.proofs.due.first_due.Given as goal

abbrev pub invariant-loop-view : goal.invariant-loop-view
invariant-loop-view l = first_due l.views l.wanted ≡ first_some (map due_of (drop l.view-index l.views) ++ map (λ key. Some (Create key)) l.wanted)
