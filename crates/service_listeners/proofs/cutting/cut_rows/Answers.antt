-- The first listeners are cut in place.
use Rattle.std.proofs.Common.{◌≡◌, ◌∙◌, List, ap, arith, length}
use Rattle.std.proofs.lemmas.List.{with_items_is}
use Rattle.std.specs.Vec.{vec_len}
use Rattle.service_listeners.specs.declared.listener.Listener.{Listener}
use Rattle.service_listeners.specs.Saves.{cut_to}
use Rattle.service_listeners.proofs.CutRows.{cut_first}
use Rattle.service_listeners.proofs.cutting.cut_rows.Goals as goal

pub returns : goal.returns
returns c =
    let whole : length c.cut_from.new.rows ≡ vec_len c.truncate.new.self = omega (arith, c.cut_from.auto.rows, c.as_mut_slice.ensures.len) in
    with_items_is c.truncate.new.self c.cut_from.new.rows whole ∙ c.cut_from.ensures
    ∙ ap (λ (rows : List Listener). cut_to rows c.args.counts.now) (c.as_mut_slice.ensures.value ∙ c.truncate.ensures.items) ∙ cut_first c.args.rows.now.items c.args.counts.now
