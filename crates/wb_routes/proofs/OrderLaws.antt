-- The orders of servlets and of failures are orders.
use Rattle.std.proofs.Common.{◌≡◌, sym, ◌∙◌, refl, cond, Bool, true, false}
use Rattle.std.specs.Prelude.{◌==◌, ◌&&◌, ◌||◌, nat_lt}
use Rattle.std.specs.Cmp.{IsStrictWeakOrder, nat_cmp_total, on_total, then_total}
use Rattle.std.specs.Cmp.Lexicographic.{slice_cmp}
use Rattle.std.specs.Ordering.{is_lt, nat_cmp, ordering_then}
use Rattle.std.specs.declared.cmp.Ordering.{Ordering}
use Rattle.std.specs.declared.cmp.Ordering.TheVariants.{Less, Equal, Greater}
use Rattle.std.proofs.lemmas.Cmp.{nat_list_cmp_total}
use Rattle.std.proofs.lemmas.List.Sorted.{ranks_by}
use Rattle.service_registry.specs.declared.best_first.Ranked.{Ranked}
use Rattle.service_registry.proofs.RankOrder.{ranks_apart}
use Rattle.wb_routes.specs.declared.route_failure.RouteFailure.{RouteFailure}
use Rattle.wb_routes.specs.declared.servlet.Servlet.{Servlet}
use Rattle.wb_routes.specs.Listing.{fails_before}
use Rattle.wb_routes.specs.Servlets.{is_better}

abbrev pub rank_of : Servlet → Ranked
rank_of s = record { ranking = s.ranking; id = s.service }

pub better_ranks : IsStrictWeakOrder is_better
better_ranks = record {
  one_way = λ x y e. ranks_apart.order.one_way (rank_of x) (rank_of y) e;
  chain = λ x y z e f. ranks_apart.order.chain (rank_of x) (rank_of y) (rank_of z) e f;
}

abbrev failure_cmp : RouteFailure → RouteFailure → Ordering
failure_cmp a b = ordering_then (nat_cmp a.service b.service) (slice_cmp nat_cmp a.pattern b.pattern)

first_by : (p q : Bool) (o : Ordering) → is_lt (ordering_then (cond p Less (cond q Equal Greater)) o) ≡ (p || (q && is_lt o))
first_by true q o = refl
first_by false true o = refl
first_by false false o = refl

pub fails_first : (a b : RouteFailure) → is_lt (failure_cmp a b) ≡ fails_before a b
fails_first a b = first_by (nat_lt a.service b.service) (a.service == b.service) (slice_cmp nat_cmp a.pattern b.pattern)

weak : IsStrictWeakOrder (λ (x y : RouteFailure). is_lt (failure_cmp x y))
weak = ranks_by (then_total (on_total (λ (f : RouteFailure). f.service) nat_cmp_total) (on_total (λ (f : RouteFailure). f.pattern) nat_list_cmp_total)) (λ (f : RouteFailure). f)

pub failures_rank : IsStrictWeakOrder fails_before
failures_rank = record {
  one_way = λ x y e. sym (fails_first y x) ∙ weak.one_way x y (fails_first x y ∙ e);
  chain = λ x y z e f. sym (fails_first x z) ∙ weak.chain x y z (fails_first x y ∙ e) (fails_first y z ∙ f);
}
