use Rattle.std.proofs.Common.{◌≡◌, ◌∙◌, ap, map, List, filter}
use Rattle.prop_map.specs.Words.{in_order}
use Rattle.service_registry.specs.declared.best_first.Ranked.{Ranked}
use Rattle.service_registry.specs.Services.{has_interface, ranked_before}
use Rattle.service_registry.proofs.RankOrder.{numbers_ranked}
use Rattle.service_registry.proofs.search.numbers_with.Goals as goal

pub returns : goal.returns
returns c = c.in_ok-numbers.ensures ∙ ap (λ (l : List Ranked). map (λ (r : Ranked). r.id) (in_order ranked_before l)) c.in_ok-found.ensures ∙ numbers_ranked (filter (has_interface c.args.interface.now) c.args.rows.now)
