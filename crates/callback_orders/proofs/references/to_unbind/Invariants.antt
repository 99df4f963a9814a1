use Rattle.std.proofs.Common.{◌≡◌, drop}
use Rattle.std.specs.Prelude.{not, filter, map}
use Rattle.std.specs.List.{last_or}
use Rattle.callback_orders.specs.declared.instance_view.HeldService.{HeldService}
use Rattle.callback_orders.specs.References.{is_desired, to_unbind}
use Rattle.callback_orders.proofs.references.to_unbind.Given as goal

abbrev pub invariant-loop-held : goal.invariant-loop-held
invariant-loop-held l = to_unbind l.reference ≡ last_or l.worst (map (λ (h : HeldService). h.service) (filter (λ (h : HeldService). not (is_desired l.reference h.service)) (drop l.held-index l.held-items)))
