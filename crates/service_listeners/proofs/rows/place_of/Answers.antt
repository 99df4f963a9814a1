-- In rising rows the search finds the one listener of a number.
use Rattle.std.proofs.Common.{rules}
use Rattle.std.proofs.lemmas.Fn.{always_returns_same}
use Rattle.std.specs.Ordering.{nat_cmp}
use Rattle.row_places.proofs.RowPlaceLaws.{searched_number}
use Rattle.service_listeners.specs.declared.listener.Listener.{Listener}
use Rattle.service_listeners.proofs.rows.place_of.Goals as goal

pub returns : goal.returns
returns c = rw c.ok.ensures.value (searched_number (λ (l : Listener). l.number) c.args.number c.args.rows.now c.binary_search_by.result c.requires
    (c.binary_search_by.ensures.position (λ (l : Listener). nat_cmp l.number c.args.number) (always_returns_same _ _ _ (λ a r q k. search rules))) c.binary_search_by.ensures.bound)
