-- Marks beside open periods.
use Rattle.std.proofs.Common.{◌≡◌, ℕ, List, [], ◌∷◌, ◌++◌, ap, sym, ◌∙◌, refl, cond, arith, length, Bool, true, false, ◌&&◌, ◌||◌}
use Rattle.std.specs.Prelude.{◌==◌}
use Rattle.std.proofs.lemmas.Bool.{eq-eqb, eqb-true, both_ways, cases_Bool}
use Rattle.std.proofs.Common.{inl, inr}
use Rattle.prop_map.specs.Words.{has}
use Rattle.component_state.specs.declared.open_period.OpenPeriod.{OpenPeriod}
use Rattle.component_state.specs.Inside.OpenMarks.{marked, marked_now}
use Rattle.component_state.specs.Inside.Ready.{configurations_open}
use Rattle.component_state.specs.Periods.{is_open}

-- one that isn't set more
pub unset_more : (ms : List Bool) → ((ns : List ℕ) → marked ns ms ≡ []) → (ns : List ℕ) → marked ns (ms ++ false ∷ []) ≡ []
unset_more [] unset [] = refl
unset_more [] unset (n ∷ []) = refl
unset_more [] unset (n ∷ k ∷ ns) = refl
unset_more (m ∷ ms) unset [] = refl
unset_more (m ∷ ms) unset (n ∷ ns) = go m (unset (n ∷ ns)) (unset_more ms (λ ks. none m ks (unset (n ∷ ks))) ns)
  where
    go : (b : Bool) → cond b (n ∷ marked ns ms) (marked ns ms) ≡ [] → marked ns (ms ++ false ∷ []) ≡ [] → cond b (n ∷ marked ns (ms ++ false ∷ [])) (marked ns (ms ++ false ∷ [])) ≡ []
    go false is rest = rest
    go true is rest = cc

    none : (b : Bool) (ks : List ℕ) → cond b (n ∷ marked ks ms) (marked ks ms) ≡ [] → marked ks ms ≡ []
    none false ks is = is
    none true ks is = cc

one_has : (b : Bool) (c : ℕ) (xs : List ℕ) (n : ℕ) → has (cond b (c ∷ xs) xs) n ≡ ((b && (c == n)) || has xs n)
one_has true c xs n = refl
one_has false c xs n = refl

none_more : (e : Bool) → false ≡ (false || (e && false))
none_more true = refl
none_more false = refl

same_test : (a b : ℕ) (n : ℕ) → (a == n) ≡ true → (n == b) ≡ (a == b)
same_test a b n is = ap (λ k. k == b) (sym (eqb-true a n is))

-- m: it is marked; d: it is the one; p: the number is its; e: the number is that of the one
joined : (m d p a e o : Bool) → (p ≡ true → e ≡ d) → (((m || d) && p) || (a || (e && o))) ≡ (((m && p) || a) || (e && (p || o)))
joined m d true a e o same = rw (same refl) (go m d a o)
  where
    go : (m d a o : Bool) → (((m || d) && true) || (a || (d && o))) ≡ (((m && true) || a) || (d && (true || o)))
    go true d a o = refl
    go false true true o = refl
    go false true false o = refl
    go false false true o = refl
    go false false false o = refl
joined true d false a e o same = go a e o
  where
    go : (a e o : Bool) → (a || (e && o)) ≡ (a || (e && o))
    go a e o = refl
joined false true false a e o same = refl
joined false false false a e o same = refl

pub marked_besides : (c : ℕ) (ps : List OpenPeriod) (ms : List Bool) → length ms ≡ length ps → (n : ℕ)
    → has (marked (configurations_open ps) (marked_now c ps ms)) n ≡ (has (marked (configurations_open ps) ms) n || ((n == c) && is_open ps n))
marked_besides c [] ms long n = none_more (n == c)
marked_besides c (p ∷ ps) [] long n = absurd (omega (arith, long))
marked_besides c (p ∷ ps) (m ∷ ms) long n =
    one_has (m || (p.configuration == c)) p.configuration (marked (configurations_open ps) (marked_now c ps ms)) n
    ∙ ap (λ b. ((m || (p.configuration == c)) && (p.configuration == n)) || b) (marked_besides c ps ms (omega (arith, long)) n)
    ∙ joined m (p.configuration == c) (p.configuration == n) (has (marked (configurations_open ps) ms) n) (n == c) (is_open ps n) (same_test p.configuration c n)
    ∙ ap (λ b. b || ((n == c) && ((p.configuration == n) || is_open ps n))) (sym (one_has m p.configuration (marked (configurations_open ps) ms) n))

pub marked_long : (c : ℕ) (ps : List OpenPeriod) (ms : List Bool) → length (marked_now c ps ms) ≡ length ms
marked_long c [] ms = refl
marked_long c (p ∷ ps) [] = refl
marked_long c (p ∷ ps) (m ∷ ms) = let rest = marked_long c ps ms in omega (arith, rest)

pub none_set : (ns : List ℕ) → marked ns [] ≡ []
none_set [] = refl
none_set (n ∷ ns) = refl
