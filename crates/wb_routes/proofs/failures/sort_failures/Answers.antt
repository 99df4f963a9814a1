use Rattle.std.proofs.Common.{◌≡◌, rules}
use Rattle.std.specs.Ordering.{is_lt}
use Rattle.std.proofs.lemmas.List.Sorted.{answers_always}
use Rattle.wb_routes.specs.Listing.{fails_before}
use Rattle.wb_routes.proofs.OrderLaws.{failures_rank}
use Rattle.wb_context.proofs.StableOrder.{on_ok, sorted_stably}
use Rattle.wb_routes.proofs.failures.sort_failures.Goals as goal

pub returns : goal.returns
returns c =
    on_ok c.sort_by.result (λ sorted. sorted_stably fails_before failures_rank c.args.failures.now.items c.sort_by.new.self.items (sorted fails_before failures_rank (answers_always _ (λ a r. is_lt r ≡ fails_before a.0.now a.1.0.now) _ (λ f a r f' k. search rules))) (c.sort_by.ensures.stable fails_before failures_rank (answers_always _ (λ a r. is_lt r ≡ fails_before a.0.now a.1.0.now) _ (λ f a r f' k. search rules)))) c.sort_by.ensures.sorted
