use Rattle.std.proofs.Common.{◌≡◌, rules}
use Rattle.std.specs.Ordering.{is_lt}
use Rattle.std.proofs.lemmas.List.Sorted.{answers_always}
use Rattle.wb_context.proofs.StableOrder.{on_ok, sorted_stably}
use Rattle.wb_filters.proofs.OrderLaws.{better_ranks}
use Rattle.wb_filters.specs.BoardServices.{is_better}
use Rattle.wb_filters.proofs.board_service.sort_best_first.Goals as goal

pub returns : goal.returns
returns c =
    on_ok c.sort_by.result (λ sorted. sorted_stably is_better better_ranks c.args.services.now.items c.sort_by.new.self.items (sorted is_better better_ranks (answers_always _ (λ a r. is_lt r ≡ is_better a.0.now a.1.0.now) _ (λ f a r f' k. search rules))) (c.sort_by.ensures.stable is_better better_ranks (answers_always _ (λ a r. is_lt r ≡ is_better a.0.now a.1.0.now) _ (λ f a r f' k. search rules)))) c.sort_by.ensures.sorted
