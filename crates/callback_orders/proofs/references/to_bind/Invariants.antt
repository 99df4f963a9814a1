use Rattle.std.proofs.Common.{◌≡◌, drop}
use Rattle.std.specs.Prelude.{◌&&◌, not, find, option_map}
use Rattle.callback_orders.specs.declared.instance_view.Wish.{Wish}
use Rattle.callback_orders.specs.References.{is_held, to_bind}
use Rattle.callback_orders.proofs.references.to_bind.Given as goal

abbrev pub invariant-loop-wish : goal.invariant-loop-wish
invariant-loop-wish l = to_bind l.reference ≡ option_map (λ (w : Wish). w.service) (find (λ (w : Wish). w.ready && not (is_held l.reference w.service)) (drop l.wish-index l.wish-items))
