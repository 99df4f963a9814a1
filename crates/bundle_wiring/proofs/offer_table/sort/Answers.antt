use Rattle.std.proofs.Common.{◌≡◌, rules}
use Rattle.std.specs.Ordering.{is_lt}
use Rattle.std.proofs.lemmas.List.Sorted.{answers_always}
use Rattle.std.proofs.lemmas.Result.{on_ok_weaker}
use Rattle.bundle_wiring.proofs.OfferTables.{sort_same, stands_earlier, table_ranks}
use Rattle.bundle_wiring.proofs.offer_table.sort.Goals as goal

pub returns-clause-sorted : goal.returns-clause-sorted
returns-clause-sorted c =
    on_ok_weaker c.sort_by.result (λ sorted. sorted stands_earlier table_ranks (answers_always _ (λ a r. is_lt r ≡ stands_earlier a.0.now a.1.0.now) _ (λ f a r f' k. search rules))) c.sort_by.ensures.sorted

pub returns-clause-same : goal.returns-clause-same
returns-clause-same c = sort_same c.args.offers.now.items c.sort_by.new.self.items c.sort_by.ensures.permutation
