-- That there are levels where no place lies on a cycle.
use Rattle.std.proofs.Common.{◌≡◌, ◌<◌, ◌≤◌, ℕ, zero, suc, ◌+◌, List, [], ◌∷◌, length, get_or, ap, sym, ◌∙◌, refl, Bool, true, false, cond, ◌||◌, arith, Option, Some, None, inl, inr}
use Rattle.std.specs.Prelude.{map}
use Rattle.std.specs.Option.{is_some}
use Rattle.std.proofs.Math.ListN.{get_or-map}
use Rattle.std.proofs.lemmas.Bool.{eq-eqb, cases_lt, and_from, false≢true}
use Rattle.std.proofs.lemmas.List.{length-map}
use Rattle.std.proofs.lemmas.Grind.{same_number_lists}
use Rattle.level_order.specs.Uses.{level_above, levels_above}
use Rattle.level_order.specs.Ways.{has, leads_by, Measures, OnNone}

-- ---- how many numbers below n pass a test

rank : (ℕ → Bool) → ℕ → ℕ
rank f zero = 0
rank f (suc n) = cond (f n) 1 0 + rank f n

bit : (a b : Bool) → (a ≡ true → b ≡ true) → cond a 1 0 ≤ cond b 1 0
bit false b step = omega arith
bit true b step = rw (step refl) (omega arith)

rank_le : (f g : ℕ → Bool) (n : ℕ) → ((i : ℕ) → i < n → f i ≡ true → g i ≡ true) → rank f n ≤ rank g n
unfolding rank
rank_le f g zero step = omega arith
rank_le f g (suc n) step = omega (arith, bit (f n) (g n) (step n (omega arith)), rank_le f g n (λ i below. step i (omega (arith, below))))

rank_less : (f g : ℕ → Bool) (n p : ℕ) → p < n → ((i : ℕ) → i < n → f i ≡ true → g i ≡ true) → f p ≡ false → g p ≡ true → rank f n < rank g n
unfolding rank
rank_less f g zero p within step no_f yes_g = absurd (omega (arith, within))
rank_less f g (suc n) p within step no_f yes_g = elim (cases_lt p n) [
  | inl below ↦ omega (arith, bit (f n) (g n) (step n (omega arith)), rank_less f g n p below (λ i low. step i (omega (arith, low))) no_f yes_g)
  | inr over ↦ (let here : p ≡ n = omega (arith, within, over) in
      let no : ◌≡◌ {A = ℕ} (cond (f n) 1 0) 0 = ap (λ (b : Bool). cond {A = ℕ} b 1 0) (ap f (sym here) ∙ no_f) in
      let has_g : ◌≡◌ {A = ℕ} (cond (g n) 1 0) 1 = ap (λ (b : Bool). cond {A = ℕ} b 1 0) (ap g (sym here) ∙ yes_g) in
      omega (arith, no, has_g, rank_le f g n (λ i low. step i (omega (arith, low)))))
]

rank_bound : (f : ℕ → Bool) (n : ℕ) → rank f n ≤ n
unfolding rank
rank_bound f zero = omega arith
rank_bound f (suc n) = omega (arith, bit (f n) true (λ e. refl), rank_bound f n)

-- ---- levels by a rank that falls along the uses

levels_after : ℕ → List (List ℕ) → List ℕ
levels_after zero uses = map (λ places. 0) uses
levels_after (suc n) uses = levels_above uses (levels_after n uses)

or_true : (a b : Bool) → b ≡ true → (a || b) ≡ true
or_true true b e = refl
or_true false b e = e

itself : (p : ℕ) (ps : List ℕ) → has (p ∷ ps) p ≡ true
itself p ps = rw (eq-eqb p p refl) refl

level_above_same : (places a b : List ℕ) → ((p : ℕ) → has places p ≡ true → get_or a p 0 ≡ get_or b p 0) → level_above places a ≡ level_above places b
level_above_same [] a b same = refl
level_above_same (p ∷ ps) a b same =
    let here : get_or a p 0 ≡ get_or b p 0 = same p (itself p ps) in
    let rest : level_above ps a ≡ level_above ps b = level_above_same ps a b (λ q there. same q (or_true _ (has ps q) there)) in
    omega (arith, here, rest)

level_at : (uses : List (List ℕ)) (levels : List ℕ) (i : ℕ) → get_or (levels_above uses levels) i 0 ≡ level_above (get_or uses i []) levels
level_at uses levels i = get_or-map (λ places. level_above places levels) uses i []

settled : (uses : List (List ℕ)) (ranks : ℕ → ℕ) → ((i p : ℕ) → has (get_or uses i []) p ≡ true → ranks p < ranks i) → (k i : ℕ) → ranks i < k → get_or (levels_after (suc k) uses) i 0 ≡ get_or (levels_after k uses) i 0
unfolding levels_after
settled uses ranks falls zero i low = absurd (omega (arith, low))
settled uses ranks falls (suc k) i low =
    level_at uses (levels_above uses (levels_after k uses)) i
    ∙ level_above_same (get_or uses i []) (levels_above uses (levels_after k uses)) (levels_after k uses) (λ p there. settled uses ranks falls k p (omega (arith, falls i p there, low)))
    ∙ sym (level_at uses (levels_after k uses) i)

length-levels_after : (k : ℕ) (uses : List (List ℕ)) → length (levels_after k uses) ≡ length uses
unfolding levels_after
length-levels_after zero uses = length-map uses (λ places. 0)
length-levels_after (suc k) uses = length-map uses (λ places. level_above places (levels_after k uses))

-- where ranks fall along the uses there are levels
pub ranked_levels : (uses : List (List ℕ)) (ranks : ℕ → ℕ) (n : ℕ) → ((i p : ℕ) → has (get_or uses i []) p ≡ true → ranks p < ranks i) → ((i : ℕ) → ranks i ≤ n) → (levels : List ℕ) × (levels ≡ levels_above uses levels)
unfolding levels_after
ranked_levels uses ranks n falls bound =
    let same : levels_after (suc (suc n)) uses ≡ levels_after (suc n) uses = same_number_lists (levels_after (suc (suc n)) uses) (levels_after (suc n) uses)
    (length-levels_after (suc (suc n)) uses ∙ sym (length-levels_after (suc n) uses)) (λ i within. settled uses ranks falls (suc n) i (omega (arith, bound i))) in
    (levels_after (suc n) uses, sym same)

-- ---- how many places each one leads to

total : (uses : List (List ℕ)) → ((i : ℕ) → i < length uses → OnNone uses i) → (i : ℕ) → (steps : List (Option ℕ)) × (i < length uses → Measures uses i steps × (get_or steps i None ≡ None))
total uses each i = elim (cases_lt i (length uses)) [
  | inl within ↦ (let one = each i within in (one.steps, λ below. (one.measures, one.on_none)))
  | inr over ↦ ([], λ below. absurd (omega (arith, over, below)))
]

since_some : (o : Option ℕ) → is_some o ≡ true → (m : ℕ) × (o ≡ Some m)
since_some None e = absurd (false≢true e)
since_some (Some m) e = (m, refl)

pub acyclic_levels : (uses : List (List ℕ)) → ((i p : ℕ) → has (get_or uses i []) p ≡ true → p < length uses) → ((i : ℕ) → i < length uses → OnNone uses i) → (levels : List ℕ) × (levels ≡ levels_above uses levels)
acyclic_levels uses within each = ranked_levels uses (λ i. rank (λ to. leads_to i to) (length uses)) (length uses) falls (λ i. rank_bound (λ to. leads_to i to) (length uses)) where
  leads_to : ℕ → ℕ → Bool
  leads_to from to = is_some (get_or (total uses each to).0 from None)

  falls : (i p : ℕ) → has (get_or uses i []) p ≡ true → rank (λ to. leads_to p to) (length uses) < rank (λ to. leads_to i to) (length uses)
  falls i p there =
      rank_less (λ to. leads_to p to) (λ to. leads_to i to) (length uses) p (within i p there)
      (λ to below on. (let facts = (total uses each to).1 below in
      let some = since_some (get_or (total uses each to).0 p None) on in
      let way = facts.0.sound p some.0 some.1 in
      ap is_some (facts.0.complete i (p ∷ way.0) (and_from (has (get_or uses i []) p) (leads_by uses p way.0 to) there way.2)).1))
      (ap is_some ((total uses each p).1 (within i p there)).1)
      (ap is_some (((total uses each p).1 (within i p there)).0.complete i [] there).1)
