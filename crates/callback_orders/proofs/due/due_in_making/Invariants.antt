use Rattle.std.proofs.Common.{◌≡◌, ℕ, drop}
use Rattle.std.specs.Prelude.{Some, find}
use Rattle.std.specs.List.{enumerate_from}
use Rattle.std.specs.Option.{option_map_or}
use Rattle.callback_orders.specs.declared.due.DueRef.TheVariants.{Activate}
use Rattle.callback_orders.specs.declared.instance_view.ReferenceView.{ReferenceView}
use Rattle.callback_orders.specs.References.{differs}
use Rattle.callback_orders.specs.Due.{bind_or_unbind, due_in_making}
use Rattle.callback_orders.proofs.due.due_in_making.Given as goal

abbrev pub invariant-loop-reference : goal.invariant-loop-reference
invariant-loop-reference l = due_in_making l.instance l.references ≡ option_map_or (bind_or_unbind l.instance) (find (λ (r : ℕ × ReferenceView). differs r.1) (enumerate_from l.reference (drop l.reference l.references))) (Some (Activate l.instance))
