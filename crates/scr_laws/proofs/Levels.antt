-- The computed levels are right where nothing consumes itself, also of descriptions that stay when others go.
use Rattle.std.proofs.Common.{◌≡◌, ◌≤◌, ℕ, zero, suc, ◌+◌, List, [], ◌∷◌, ap, sym, ◌∙◌, refl, subst, cond, arith, Bool, true, false, ◌||◌, inl, inr, ◌⊎◌, length}
use Rattle.std.specs.Prelude.{map, max, ◌==◌, not}
use Rattle.std.specs.List.{Contains}
use Rattle.std.proofs.lemmas.Bool.{and_parts, and_from, eqb-true, cases_Bool, cases_lt}
use Rattle.component_dto.specs.declared.description.Description.{Description}
use Rattle.level_order.specs.Levels.{AreLevels, consumes, level_from}
use Rattle.prop_map.specs.Words.{has}
use Rattle.scr_world.specs.Levels.{has_levels, levels_of, levels_within, same_numbers}
use Rattle.component_state.specs.Inside.Ready.{are_apart}
use Rattle.component_state.proofs.Apart.{in_cases, in_first, in_none, in_rest, key_in, mapped_long, no_longer}
use Rattle.component_state.proofs.Ranks.{above, provider_lower}

-- ---- the test for levels

same_are : (xs ys : List ℕ) → same_numbers xs ys ≡ true → xs ≡ ys
same_are [] [] is = refl
same_are [] (y ∷ ys) is = cc
same_are (x ∷ xs) [] is = cc
same_are (x ∷ xs) (y ∷ ys) is = let parts = and_parts (x == y) (same_numbers xs ys) is in ap (λ n. n ∷ xs) (eqb-true x y parts.0) ∙ ap (λ ns. y ∷ ns) (same_are xs ys parts.1)

pub tested_right : (ds : List Description) → has_levels ds ≡ true → AreLevels ds (levels_of ds)
tested_right ds is = sym (same_are (levels_within (suc (length ds)) ds) (levels_of ds) is)

-- ---- one look down

same_from : (f g : Description → ℕ) (d : Description) (es : List Description) → ((e : Description) → Contains es e → consumes d e ≡ true → f e ≡ g e) → level_from d es (map f es) ≡ level_from d es (map g es)
same_from f g d [] each = refl
same_from f g d (e ∷ es) each = go (consumes d e) refl (same_from f g d es (λ x h. each x (in_rest e es x h)))
  where
    go : (b : Bool) → consumes d e ≡ b → level_from d es (map f es) ≡ level_from d es (map g es) → cond b (max (f e + 1) (level_from d es (map f es))) (level_from d es (map f es)) ≡ cond b (max (g e + 1) (level_from d es (map g es))) (level_from d es (map g es))
    go false off rest = rest
    go true on rest = ap (λ n. max (n + 1) (level_from d es (map f es))) (each e (in_first e es) on) ∙ ap (max (g e + 1)) rest

from_some : (f : Description → ℕ) (d : Description) (es : List Description) (k : ℕ) → level_from d es (map f es) ≡ k + 1 → (e : Description) × Contains es e × (consumes d e ≡ true) × (f e ≡ k)
from_some f d [] k is = absurd (omega (arith, is))
from_some f d (e ∷ es) k is = go (consumes d e) refl (from_some f d es k) is
  where
    go : (b : Bool) → consumes d e ≡ b → (level_from d es (map f es) ≡ k + 1 → (x : Description) × Contains es x × (consumes d x ≡ true) × (f x ≡ k)) → cond b (max (f e + 1) (level_from d es (map f es))) (level_from d es (map f es)) ≡ k + 1
        → (x : Description) × Contains (e ∷ es) x × (consumes d x ≡ true) × (f x ≡ k)
    go false off rest h = let found = rest h in (found.0, in_rest e es found.0 found.1, found.2, found.3)
    go true on rest h = elim (cases_lt (level_from d es (map f es)) (f e + 1)) [
      | inl less ↦ (e, in_first e es, on, omega (arith, less, h))
      | inr more ↦ (let found = rest (omega (arith, more, h)) in (found.0, in_rest e es found.0 found.1, found.2, found.3))
    ]

mapped_same : (f g : Description → ℕ) (ds : List Description) → ((d : Description) → Contains ds d → f d ≡ g d) → map f ds ≡ map g ds
mapped_same f g [] each = refl
mapped_same f g (d ∷ ds) each = ap (λ n. n ∷ map f ds) (each d (in_first d ds)) ∙ ap (λ ns. g d ∷ ns) (mapped_same f g ds (λ e h. each e (in_rest d ds e h)))

-- ---- the numbers from one down

down : ℕ → List ℕ
down zero = 0 ∷ []
down (suc n) = suc n ∷ down n

down_low : (n j : ℕ) → has (down n) j ≡ true → j ≤ n
unfolding down
down_low zero j is = go (0 == j) refl is
  where
    go : (b : Bool) → (0 == j) ≡ b → (b || false) ≡ true → j ≤ 0
    go true same h = let e = eqb-true 0 j same in omega (arith, e)
    go false off h = cc
down_low (suc n) j is = go (suc n == j) refl is (down_low n j)
  where
    go : (b : Bool) → (suc n == j) ≡ b → (b || has (down n) j) ≡ true → (has (down n) j ≡ true → j ≤ n) → j ≤ suc n
    go true same h rest = let e = eqb-true (suc n) j same in omega (arith, e)
    go false off h rest = let low = rest h in omega (arith, low)

down_apart : (n : ℕ) → are_apart (down n) ≡ true
unfolding down
down_apart zero = refl
down_apart (suc n) = and_from (not (has (down n) (suc n))) (are_apart (down n)) (ap not (off (cases_Bool (has (down n) (suc n))))) (down_apart n)
  where
    off : (has (down n) (suc n) ≡ true) ⊎ (has (down n) (suc n) ≡ false) → has (down n) (suc n) ≡ false
    off (inr is) = is
    off (inl is) = let low = down_low n (suc n) is in absurd (omega (arith, low))

down_long : (n : ℕ) → length (down n) ≡ n + 1
unfolding down
down_long zero = refl
down_long (suc n) = let rest = down_long n in omega (arith, rest)

-- ---- descriptions with ranks, each above those that it consumes

highest : (Description → ℕ) → List Description → ℕ
highest r [] = 0
highest r (d ∷ ds) = max (r d) (highest r ds)

under_highest : (r : Description → ℕ) (ds : List Description) (d : Description) → Contains ds d → r d ≤ highest r ds
unfolding highest
under_highest r [] d h = absurd (in_none d h)
under_highest r (e ∷ es) d h = elim (in_cases e es d h) [
  | inl same ↦ (let is = ap r same in omega (arith, is))
  | inr later ↦ (let low = under_highest r es d later in omega (arith, low))
]

module _ (ds : List Description) where
  at : ℕ → Description → ℕ
  at zero d = 0
  at (suc n) d = level_from d ds (map (at n) ds)

  within_is : (n : ℕ) → levels_within n ds ≡ map (at n) ds
  unfolding at
  within_is zero = refl
  within_is (suc n) = ap (λ levels. map (λ d. level_from d ds levels) ds) (within_is n)

  module _ (r : Description → ℕ) (ranked : (d e : Description) → Contains ds d → Contains ds e → consumes d e ≡ true → r e + 1 ≤ r d) where
    settles : (n : ℕ) (d : Description) → Contains ds d → r d ≤ n → at n d ≡ at (suc n) d
    unfolding at
    settles zero d h low = go (level_from d ds (map (at 0) ds)) refl
      where
        go : (k : ℕ) → level_from d ds (map (at 0) ds) ≡ k → 0 ≡ level_from d ds (map (at 0) ds)
        go zero is = sym is
        go (suc k) is = let found = from_some (at 0) d ds k (let e : level_from d ds (map (at 0) ds) ≡ k + 1 = omega (arith, is) in e) in
            let above_it = ranked d found.0 h found.1 found.2 in absurd (omega (arith, above_it, low))
    settles (suc n) d h low = same_from (at n) (at (suc n)) d ds (λ e he is. settles n e he (let lower = ranked d e h he is in omega (arith, lower, low)))

    last : ℕ
    last = highest r ds

    final : Description → ℕ
    final d = at last d

    fixed : (d : Description) → Contains ds d → final d ≡ level_from d ds (map final ds)
    unfolding at final last
    fixed d h = settles last d h (under_highest r ds d h)

    arrives : (n : ℕ) (d : Description) → Contains ds d → final d ≤ n → at n d ≡ final d
    unfolding at
    arrives zero d h low = omega (arith, low)
    arrives (suc n) d h low = same_from (at n) final d ds (λ e he is. arrives n e he (let lower = subst (λ k. final e + 1 ≤ k) (sym (fixed d h)) (above final d e ds he is) in omega (arith, lower, low))) ∙ sym (fixed d h)

    each_below : (k : ℕ) (d : Description) → Contains ds d → final d ≡ k → (j : ℕ) → j ≤ k → has (map final ds) j ≡ true
    each_below zero d h is j low = subst (λ n. has (map final ds) n ≡ true) (let e : final d ≡ j = omega (arith, is, low) in e) (key_in final ds d h)
    each_below (suc k) d h is j low = elim (cases_lt j (suc k)) [
      | inl less ↦ (let found = from_some final d ds k (let e : level_from d ds (map final ds) ≡ k + 1 = omega (arith, is, fixed d h) in e) in each_below k found.0 found.1 found.3 j (omega (arith, less)))
      | inr more ↦ subst (λ n. has (map final ds) n ≡ true) (let e : final d ≡ j = omega (arith, is, low, more) in e) (key_in final ds d h)
    ]

    short : (d : Description) → Contains ds d → final d ≤ length ds
    short d h = let few = no_longer (down (final d)) (map final ds) (down_apart (final d)) (λ j is. each_below (final d) d h refl j (down_low (final d) j is)) in
        omega (arith, few, down_long (final d), mapped_long final ds)

    computed : levels_of ds ≡ map final ds
    computed = within_is (length ds) ∙ mapped_same (at (length ds)) final ds (λ d h. arrives (length ds) d h (short d h))

    pub ranked_right : AreLevels ds (levels_of ds)
    ranked_right = subst (λ levels. AreLevels ds levels) (sym computed) (mapped_same final (λ d. level_from d ds (map final ds)) ds fixed)

-- where levels are right, those of fewer descriptions are
pub fewer_right : (ds less : List Description) → AreLevels ds (levels_of ds) → ((d : Description) → Contains less d → Contains ds d) → AreLevels less (levels_of less)
fewer_right ds less right among = ranked_right less (λ d. level_from d ds (levels_of ds)) (λ d e hd he is. provider_lower ds (levels_of ds) right d e (among e he) is)
