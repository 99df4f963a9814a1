-- In rising rows the search finds the one listener of a number, or the gap where it would stand.
use Rattle.std.proofs.Common.{rules}
use Rattle.std.proofs.lemmas.Fn.{always_returns_same}
use Rattle.std.specs.Ordering.{nat_cmp}
use Rattle.service_listeners.specs.declared.listener.Listener.{Listener}
use Rattle.row_places.proofs.NumberLaws.{placed_by}
use Rattle.service_listeners.proofs.rows.place_or_gap.Goals as goal

pub returns-clause-place : goal.returns-clause-place
returns-clause-place c = placed_by (λ (l : Listener). l.number) c.args.number c.args.rows.now c.binary_search_by.result c.requires
    (c.binary_search_by.ensures.position (λ (l : Listener). nat_cmp l.number c.args.number) (always_returns_same _ _ _ (λ a r q k. search rules))) c.binary_search_by.ensures.bound
