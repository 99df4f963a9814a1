use Rattle.std.proofs.Common.{◌≡◌, drop}
use Rattle.std.specs.Prelude.{find, option_map}
use Rattle.callback_orders.specs.declared.instance_view.HeldService.{HeldService}
use Rattle.callback_orders.specs.References.{to_tell}
use Rattle.callback_orders.proofs.references.to_tell.Given as goal

abbrev pub invariant-loop-held : goal.invariant-loop-held
invariant-loop-held l = to_tell l.reference ≡ option_map (λ (h : HeldService). h.service) (find (λ (h : HeldService). h.changed) (drop l.held-index l.held-items))
