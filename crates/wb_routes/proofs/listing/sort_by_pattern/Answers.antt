use Rattle.std.proofs.Common.{◌≡◌, rules}
use Rattle.std.specs.Ordering.{is_lt}
use Rattle.std.proofs.lemmas.List.Sorted.{answers_always}
use Rattle.wb_routes.specs.Tables.{has_less_pattern}
use Rattle.wb_routes.proofs.TableLemmas.{patterns_rank}
use Rattle.wb_context.proofs.StableOrder.{on_ok, sorted_stably}
use Rattle.wb_routes.proofs.listing.sort_by_pattern.Goals as goal

pub returns : goal.returns
returns c =
    on_ok c.sort_by.result (λ sorted. sorted_stably has_less_pattern patterns_rank c.args.rows.now.items c.sort_by.new.self.items (sorted has_less_pattern patterns_rank (answers_always _ (λ a r. is_lt r ≡ has_less_pattern a.0.now a.1.0.now) _ (λ f a r f' k. search rules))) (c.sort_by.ensures.stable has_less_pattern patterns_rank (answers_always _ (λ a r. is_lt r ≡ has_less_pattern a.0.now a.1.0.now) _ (λ f a r f' k. search rules)))) c.sort_by.ensures.sorted
