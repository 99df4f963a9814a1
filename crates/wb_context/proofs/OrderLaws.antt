-- The orders of contexts are orders.
use Rattle.std.proofs.Common.{◌≡◌, ℕ, ap, ◌∙◌, arith, Bool, true, false, length}
use Rattle.std.specs.Prelude.{nat_lt}
use Rattle.std.specs.Cmp.{IsStrictWeakOrder}
use Rattle.std.proofs.lemmas.Bool.Decides.{nat_tests}
use Rattle.service_registry.specs.declared.best_first.Ranked.{Ranked}
use Rattle.service_registry.proofs.RankOrder.{ranks_apart}
use Rattle.wb_context.specs.declared.context.Context.{Context}
use Rattle.wb_context.specs.ContextOrder.{has_longer_path, is_better}

abbrev pub rank_of : Context → Ranked
rank_of c = record { ranking = c.ranking; id = c.service }

pub better_ranks : IsStrictWeakOrder is_better
better_ranks = record {
  one_way = λ x y e. ranks_apart.order.one_way (rank_of x) (rank_of y) e;
  chain = λ x y z e f. ranks_apart.order.chain (rank_of x) (rank_of y) (rank_of z) e f;
}

not_both : (a b : ℕ) → nat_lt a b ≡ true → nat_lt b a ≡ false
not_both a b e = grind (arith, nat_tests)

chained : (a b c : ℕ) → nat_lt b a ≡ false → nat_lt c b ≡ false → nat_lt c a ≡ false
chained a b c e f = grind (arith, nat_tests)

pub length_ranks : IsStrictWeakOrder has_longer_path
length_ranks = record {
  one_way = λ x y e. not_both (length y.path) (length x.path) e;
  chain = λ x y z e f. chained (length x.path) (length y.path) (length z.path) e f;
}
