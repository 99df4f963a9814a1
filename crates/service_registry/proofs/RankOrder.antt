-- The order of services tells any two of different numbers apart.
use Rattle.std.proofs.Common.{◌≡◌, ◌<◌, ◌≤◌, ◌∷◌, [], List, map, ℕ, ap, sym, ◌∙◌, refl, cond, arith, Bool, true, false, subst, Ordering}
use Rattle.std.specs.Prelude.{◌&&◌, ◌||◌, ◌==◌, ◌<ℤ◌, ℤ, int_lt, nat_lt}
use Rattle.std.specs.Ordering.{MatchOrdering, flip_args, int_cmp, int_eq, is_eq, is_lt, nat_cmp, on, ordering_then, then_cmp}
use Rattle.std.specs.declared.cmp.Ordering.TheVariants.{Less, Equal, Greater}
use Rattle.std.specs.Cmp.{IsTotalOrder, IsStrictWeakOrder, back_total, int_cmp_total, int_ranks, nat_cmp_total, on_total, then_total}
use Rattle.std.proofs.lemmas.Bool.{false≢true}
use Rattle.std.proofs.lemmas.List.Sorted.{ranks_by}
use borrow.Author.Tests.{ltb-false}
use Rattle.service_registry.specs.declared.best_first.Ranked.{Ranked}
use Rattle.prop_map.specs.Words.{in_order}
use Rattle.service_registry.specs.declared.row.ServiceRow.{ServiceRow}
use Rattle.service_registry.specs.Services.{best_first, ids, ranked, ranked_before, ranks_before}
use Rattle.service_registry.proofs.Sorting.{TellsApart, in_order_made}

abbrev pub rank_order : Ranked → Ranked → Ordering
rank_order x y = ordering_then (int_cmp y.ranking x.ranking) (nat_cmp x.id y.id)

rank_order_total : IsTotalOrder rank_order
rank_order_total = then_total (back_total (on_total (λ (r : Ranked). r.ranking) int_cmp_total)) (on_total (λ (r : Ranked). r.id) nat_cmp_total)

is_before_by : (a b : ℕ) (p q r s : Bool) → is_lt (ordering_then (cond p Less (cond q Greater Equal)) (cond r Less (cond s Equal Greater))) ≡ (p || (is_eq (cond q Less (cond p Greater Equal)) && r))
is_before_by a b true q r s = refl
is_before_by a b false true r s = refl
is_before_by a b false false true s = refl
is_before_by a b false false false true = refl
is_before_by a b false false false false = refl

-- one goes before the other by its ranking, then by its number
pub is_before : (x y : Ranked) → is_lt (rank_order x y) ≡ ranked_before x y
is_before x y = is_before_by x.id y.id (int_lt y.ranking x.ranking) (int_lt x.ranking y.ranking) (nat_lt x.id y.id) (x.id == y.id)

equal_rankings : (x y : ℤ) → int_lt y x ≡ false → int_lt x y ≡ false → x ≡ y
equal_rankings x y p q =
    let is : int_cmp x y ≡ Equal = ap (λ b. cond b Less (cond (int_lt y x) Greater Equal)) q ∙ ap (λ b. cond b Greater Equal) p in
    subst (λ r. MatchOrdering r (x <ℤ y) (x ≡ y) (y <ℤ x)) is (int_ranks x y)

numbers_by : (x y : ℤ) (a b : ℕ) (p q r s : Bool) → int_lt y x ≡ p → int_lt x y ≡ q → nat_lt a b ≡ r → nat_lt b a ≡ s
    → (p || (is_eq (cond q Less (cond p Greater Equal)) && r)) ≡ false → (q || (is_eq (cond p Less (cond q Greater Equal)) && s)) ≡ false → (x ≡ y) × (a ≡ b)
numbers_by x y a b true q r s ep eq er es f g = absurd (false≢true (sym f))
numbers_by x y a b false true r s ep eq er es f g = absurd (false≢true (sym g))
numbers_by x y a b false false true s ep eq er es f g = absurd (false≢true (sym f))
numbers_by x y a b false false false true ep eq er es f g = absurd (false≢true (sym g))
numbers_by x y a b false false false false ep eq er es f g = let l : b ≤ a = ltb-false a b er in let m : a ≤ b = ltb-false b a es in (equal_rankings x y ep eq, omega (arith, l, m))

same_numbers : (x y : ℤ) (a b : ℕ) → ranks_before x a y b ≡ false → ranks_before y b x a ≡ false → (x ≡ y) × (a ≡ b)
same_numbers x y a b f g = numbers_by x y a b (int_lt y x) (int_lt x y) (nat_lt a b) (nat_lt b a) refl refl refl refl f g

same_ranked : (x y : Ranked) → (x.ranking ≡ y.ranking) × (x.id ≡ y.id) → x ≡ y
same_ranked x y h = ap (λ r. let made : Ranked = record { ranking = r; id = x.id } in made) h.0 ∙ ap (λ n. let made : Ranked = record { ranking = y.ranking; id = n } in made) h.1

-- a strict order that leaves no two different ones apart
weak : IsStrictWeakOrder (λ (x y : Ranked). is_lt (rank_order x y))
weak = ranks_by rank_order_total (λ (r : Ranked). r)

pub ranks_apart : TellsApart ranked_before
ranks_apart = record {
  order = record {
    one_way = λ x y e. sym (is_before y x) ∙ weak.one_way x y (is_before x y ∙ e);
    chain = λ x y z e f. sym (is_before x z) ∙ weak.chain x y z (is_before x y ∙ e) (is_before y z ∙ f);
  };
  apart = λ x y e f. same_ranked x y (same_numbers x.ranking y.ranking x.id y.id e f);
}

ids_of_ranked : (rows : List ServiceRow) → map (λ (r : Ranked). r.id) (map ranked rows) ≡ ids rows
ids_of_ranked [] = refl
ids_of_ranked (r ∷ rows) = ap (λ l. r.id ∷ l) (ids_of_ranked rows)

-- the numbers of services in the order of their ranks are those of the services, the best first
pub numbers_ranked : (rows : List ServiceRow) → map (λ (r : Ranked). r.id) (in_order ranked_before (map ranked rows)) ≡ ids (best_first rows)
numbers_ranked rows = ap (map (λ (r : Ranked). r.id)) (sym (in_order_made ranked ranked_before rows)) ∙ ids_of_ranked (best_first rows)
