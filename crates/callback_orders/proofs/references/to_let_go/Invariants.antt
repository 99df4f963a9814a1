use Rattle.std.proofs.Common.{◌≡◌, drop}
use Rattle.std.specs.Prelude.{map}
use Rattle.std.specs.List.{last_or}
use Rattle.callback_orders.specs.declared.instance_view.HeldService.{HeldService}
use Rattle.callback_orders.specs.References.{to_let_go}
use Rattle.callback_orders.proofs.references.to_let_go.Given as goal

abbrev pub invariant-loop-held : goal.invariant-loop-held
invariant-loop-held l = to_let_go l.reference ≡ last_or l.worst (map (λ (h : HeldService). h.service) (drop l.held-index l.held-items))
