use Rattle.std.proofs.Common.{◌≡◌, subst, List}
use Rattle.std.specs.Result.{IfOk}
use Rattle.callback_orders.specs.declared.instance_view.Key.{Key}
use Rattle.scr_dues.proofs.Desired.{missing_is}
use Rattle.scr_dues.proofs.wanted.missing.Goals as goal

pub returns : goal.returns
returns c = subst (λ (l : List Key). IfOk c.missing_keys.result (λ v. v.items ≡ l)) (missing_is c.args.world.now) c.missing_keys.ensures
