use Rattle.std.proofs.Common.{◌∙◌, ap, List}
use Rattle.std.specs.Prelude.{option_map}
use Rattle.std.specs.List.{slice_get}
use Rattle.callback_orders.specs.declared.due.DueRef.TheVariants.{Create}
use Rattle.callback_orders.specs.declared.instance_view.Key.{Key}
use Rattle.scr_dues.proofs.dues.first_create.Goals as goal

pub returns : goal.returns
returns c = c.create_of.ensures ∙ ap (λ (keys : List Key). option_map Create (slice_get keys 0)) (c.deref.ensures.value ∙ c.in_ok-keys.ensures)
