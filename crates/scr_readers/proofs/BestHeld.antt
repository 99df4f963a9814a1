-- The best of what is held, found by one service after the other.
use Rattle.std.proofs.Common.{◌≡◌, ◌<◌, ◌+◌, ℕ, List, [], ◌∷◌, ◌++◌, ap, ◌∙◌, refl, Bool, true, false, Option, length, take, get_or}
use Rattle.std.proofs.lemmas.List.{take_more}
use Rattle.std.specs.Prelude.{◌||◌, ◌==◌}
use Rattle.prop_map.specs.Words.{has, in_order}
use Rattle.service_registry.proofs.RankOrder.{ranks_apart}
use Rattle.service_registry.proofs.Sorting.{TellsApart}
use Rattle.service_registry.specs.declared.best_first.Ranked.{Ranked}
use Rattle.scr_world.specs.declared.world.World.{World}
use Rattle.scr_world.specs.Worlds.{ranking_of}
use Rattle.scr_readers.specs.Inside.{IsBestBy, better_by, first_one}
use Rattle.scr_readers.proofs.BestOne.{first_is_best, one_best}

-- the best of those that are held is the first of them in order
pub best_is_first : (before : ℕ → ℕ → Bool) → TellsApart before → (held : List ℕ) (b : Option ℕ) → IsBestBy before (has held) b → b ≡ first_one (in_order before held)
best_is_first before o held b h = one_best before o (has held) b (first_one (in_order before held)) h (first_is_best before o held)

-- one service more
one_behind : (y s : ℕ) (xs : List ℕ) → has (xs ++ s ∷ []) y ≡ ((s == y) || has xs y)
one_behind y s [] = refl
one_behind y s (x ∷ xs) = ap (λ b. (x == y) || b) (one_behind y s xs) ∙ other_first (x == y) (s == y) (has xs y)
  where
    other_first : (a b c : Bool) → (a || (b || c)) ≡ (b || (a || c))
    other_first true true c = refl
    other_first true false c = refl
    other_first false b c = refl

pub one_further : (held : List ℕ) (i d y : ℕ) → i < length held → has (take (i + 1) held) y ≡ ((get_or held i d == y) || has (take i held) y)
one_further held i d y within = ap (λ (l : List ℕ). has l y) (take_more held i d within) ∙ one_behind y (get_or held i d) (take i held)

-- services of different numbers are told apart by their rankings and numbers
module _ (w : World) where
  ranked_in : ℕ → Ranked
  ranked_in n = record { ranking = ranking_of w n; id = n }

  pub better_apart : TellsApart (better_by w)
  unfolding ranked_in
  better_apart = record {
    order = record {
      one_way = λ x y. ranks_apart.order.one_way (ranked_in x) (ranked_in y);
      chain = λ x y z. ranks_apart.order.chain (ranked_in x) (ranked_in y) (ranked_in z);
    };
    apart = λ x y e f. ap (λ (r : Ranked). r.id) (ranks_apart.apart (ranked_in x) (ranked_in y) e f);
  }
