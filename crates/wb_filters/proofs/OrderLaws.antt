-- The order of services is one.
use Rattle.std.specs.Cmp.{IsStrictWeakOrder}
use Rattle.service_registry.specs.declared.best_first.Ranked.{Ranked}
use Rattle.service_registry.proofs.RankOrder.{ranks_apart}
use Rattle.wb_filters.specs.BoardServices.{is_better}
use Rattle.wb_filters.specs.declared.board_service.BoardService.{BoardService}

abbrev pub rank_of : BoardService → Ranked
rank_of s = record { ranking = s.ranking; id = s.service }

pub better_ranks : IsStrictWeakOrder is_better
better_ranks = record {
  one_way = λ x y e. ranks_apart.order.one_way (rank_of x) (rank_of y) e;
  chain = λ x y z e f. ranks_apart.order.chain (rank_of x) (rank_of y) (rank_of z) e f;
}
