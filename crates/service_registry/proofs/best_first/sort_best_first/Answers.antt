use Rattle.std.proofs.Common.{◌≡◌, rules}
use Rattle.std.specs.Ordering.{is_lt}
use Rattle.std.proofs.lemmas.List.Sorted.{answers_always}
use Rattle.service_registry.specs.Services.{ranked_before}
use Rattle.service_registry.proofs.RankOrder.{ranks_apart}
use Rattle.service_registry.proofs.Sorting.{sorted_is_in_order}
use Rattle.service_registry.proofs.best_first.sort_best_first.Goals as goal

pub returns : goal.returns
returns c = sorted_is_in_order ranked_before ranks_apart c.args.services.now.items c.sort_unstable_by.new.self.items c.sort_unstable_by.ensures.permutation (c.sort_unstable_by.ensures.sorted ranked_before ranks_apart.order (answers_always _ (λ a r. is_lt r ≡ ranked_before a.0.now a.1.0.now) _ (λ f a r f' k. search rules)))
