use Rattle.std.proofs.Common.{◌≡◌, rules}
use Rattle.std.specs.Ordering.{is_lt}
use Rattle.std.proofs.lemmas.List.Sorted.{answers_always}
use Rattle.scr_causes.proofs.EntryLemmas.{earlier_ranks, stands_earlier}
use Rattle.scr_causes.proofs.service_table.sort.Goals as goal

pub returns-clause-order : goal.returns-clause-order
returns-clause-order c = c.sort_unstable_by.ensures.sorted stands_earlier earlier_ranks (answers_always _ (λ a r. is_lt r ≡ stands_earlier a.0.now a.1.0.now) _ (λ f a r f' k. search rules))
