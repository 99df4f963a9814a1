-- That rounds over the places find how many places a shortest way passes.
use Rattle.std.proofs.Common.{◌≡◌, ◌<◌, ◌≤◌, ℕ, zero, suc, ◌+◌, List, [], ◌∷◌, length, get_or, ap, sym, ◌∙◌, refl, Bool, true, false, cond, ◌||◌, arith, Option, Some, None, ◌⊎◌, inl, inr}
use Rattle.std.specs.Prelude.{◌==◌}
use Rattle.std.specs.List.{list_any, filter}
use Rattle.std.specs.Option.{is_some}
use Rattle.std.proofs.Math.ListN.{get_or-map}
use Rattle.std.proofs.lemmas.Bool.{eq-eqb, eqb-true, or_cases, and_parts, and_from, false≢true, cases_lt}
use Rattle.std.proofs.lemmas.List.{length-map}
use Rattle.level_order.specs.Ways.{has, leads_by, Measures, direct, wider_at, wider, known_count}

-- ---- tests of a list of places

pub has_any : (q : ℕ → Bool) (places : List ℕ) (p : ℕ) → has places p ≡ true → q p ≡ true → list_any q places ≡ true
has_any q [] p found yes_q = absurd (false≢true found)
has_any q (x ∷ xs) p found yes_q = elim (or_cases (x == p) (has xs p) found) [
  | inl here ↦ rw (ap q (eqb-true x p here) ∙ yes_q) refl
  | inr there ↦ rw (has_any q xs p there yes_q) (or-true (q x))
] where
  or-true : (b : Bool) → (b || true) ≡ true
  or-true true = refl
  or-true false = refl

pub or_later : (a b : Bool) → b ≡ true → (a || b) ≡ true
or_later true b e = refl
or_later false b e = e

pub or_first : (a b : Bool) → a ≡ true → (a || b) ≡ true
or_first true b e = refl
or_first false b e = absurd (false≢true e)

pub any_has : (q : ℕ → Bool) (places : List ℕ) → list_any q places ≡ true → (p : ℕ) × (has places p ≡ true) × (q p ≡ true)
any_has q [] found = absurd (false≢true found)
any_has q (x ∷ xs) found = elim (or_cases (q x) (list_any q xs) found) [
  | inl here ↦ (x, or_first (x == x) (has xs x) (eq-eqb x x refl), here)
  | inr there ↦ (let rest = any_has q xs there in (rest.0, or_later (x == rest.0) (has xs rest.0) rest.1, rest.2))
]

-- ---- one round

some_since : (o : Option ℕ) → is_some o ≡ true → (m : ℕ) × (o ≡ Some m)
some_since None e = absurd (false≢true e)
some_since (Some m) e = (m, refl)

pub wider-at : (count : ℕ) (known : List (Option ℕ)) (uses : List (List ℕ)) (steps : List (Option ℕ)) (i : ℕ) → length steps ≡ length uses
    → get_or (wider count known uses steps) i None ≡ wider_at count known (get_or uses i []) (get_or steps i None)
wider-at count known [] [] i same = refl
wider-at count known [] (s ∷ steps) i same = absurd (omega (arith, same))
wider-at count known (places ∷ uses) [] i same = absurd (omega (arith, same))
wider-at count known (places ∷ uses) (s ∷ steps) zero same = refl
wider-at count known (places ∷ uses) (s ∷ steps) (suc i) same = wider-at count known uses steps i (omega (arith, same))

pub length-wider : (count : ℕ) (known : List (Option ℕ)) (uses : List (List ℕ)) (steps : List (Option ℕ)) → length steps ≡ length uses → length (wider count known uses steps) ≡ length uses
length-wider count known [] steps same = refl
length-wider count known (places ∷ uses) [] same = absurd (omega (arith, same))
length-wider count known (places ∷ uses) (s ∷ steps) same = omega (arith, length-wider count known uses steps (omega (arith, same)))

-- a round that makes no more known changes nothing

known_some : (m : ℕ) (steps : List (Option ℕ)) → known_count (Some m ∷ steps) ≡ 1 + known_count steps
known_some m steps = omega arith

known_none : (steps : List (Option ℕ)) → known_count (None ∷ steps) ≡ 0 + known_count steps
known_none steps = omega arith

some_first : (m n : ℕ) (old new : List (Option ℕ)) → (known_count old < known_count new) ⊎ (new ≡ old) → m ≡ n → (known_count (Some m ∷ old) < known_count (Some n ∷ new)) ⊎ ((Some n ∷ new) ≡ (Some m ∷ old))
some_first m n old new (inl more) same = inl (omega (arith, more, known_some m old, known_some n new))
some_first m n old new (inr is) same = inr (cc)

none_first : (old new : List (Option ℕ)) → (known_count old < known_count new) ⊎ (new ≡ old) → (known_count (None ∷ old) < known_count (None ∷ new)) ⊎ ((None ∷ new) ≡ (None ∷ old))
none_first old new (inl more) = inl (omega (arith, more, known_none old, known_none new))
none_first old new (inr is) = inr (ap (λ w. None ∷ w) is)

pub known_le : (steps : List (Option ℕ)) → known_count steps ≤ length steps
known_le [] = omega arith
known_le (None ∷ steps) = omega (arith, known_le steps)
known_le (Some m ∷ steps) = omega (arith, known_le steps)

one_more : (m : ℕ) (old new : List (Option ℕ)) → (known_count old < known_count new) ⊎ (new ≡ old) → (known_count (None ∷ old) < known_count (Some m ∷ new)) ⊎ ((Some m ∷ new) ≡ (None ∷ old))
one_more m old new (inl more) = inl (omega (arith, more, known_none old, known_some m new))
one_more m old new (inr is) = inl (omega (arith, ap known_count is, known_none old, known_some m new))

pub wider_counts : (count : ℕ) (known : List (Option ℕ)) (uses : List (List ℕ)) (steps : List (Option ℕ)) → length steps ≡ length uses
    → (known_count steps < known_count (wider count known uses steps)) ⊎ (wider count known uses steps ≡ steps)
wider_counts count known [] [] same = inr refl
wider_counts count known [] (s ∷ steps) same = absurd (omega (arith, same))
wider_counts count known (places ∷ uses) [] same = absurd (omega (arith, same))
wider_counts count known (places ∷ uses) (Some m ∷ steps) same = some_first m m steps (wider count known uses steps) (wider_counts count known uses steps (omega (arith, same))) refl
wider_counts count known (places ∷ uses) (None ∷ steps) same =
    let rest = wider_counts count known uses steps (omega (arith, same)) in
    elim (list_any (λ p. is_some (get_or known p None)) places) as (λ b. (known_count (None ∷ steps) < known_count (cond b (Some count) None ∷ wider count known uses steps)) ⊎ ((cond b (Some count) None ∷ wider count known uses steps) ≡ (None ∷ steps))) [
      | true ↦ one_more count steps (wider count known uses steps) rest
      | false ↦ none_first steps (wider count known uses steps) rest
    ]

-- ---- the rounds so far

-- the ways that pass fewer than k places are known
pub record Within (uses : List (List ℕ)) (to k : ℕ) (steps : List (Option ℕ)) : Type 0 where
  pub some : 1 ≤ k
  pub same : length steps ≡ length uses
  pub sound : (from m : ℕ) → get_or steps from None ≡ Some m → (path : List ℕ) × (length path ≡ m) × (leads_by uses from path to ≡ true) × (m < k)
  pub complete : (from : ℕ) (path : List ℕ) → leads_by uses from path to ≡ true → length path < k → (m : ℕ) × (get_or steps from None ≡ Some m) × (m ≤ length path)
  pub count : k ≤ known_count steps + 1

pub direct_at : (to : ℕ) (uses : List (List ℕ)) (i : ℕ) → get_or (direct to uses) i None ≡ cond (has (get_or uses i []) to) (Some 0) None
direct_at to uses i = get_or-map (λ places. cond (has places to) (Some 0) None) uses i []

pub within_direct : (uses : List (List ℕ)) (to : ℕ) (steps : List (Option ℕ)) → steps ≡ direct to uses → Within uses to 1 steps
within_direct uses to steps is = record {
  some = omega arith;
  same = ap length is ∙ length-map uses (λ places. cond (has places to) (Some 0) None);
  sound = λ from m known. sound from m (has (get_or uses from []) to) refl (sym (ap (λ w. get_or w from None) is ∙ direct_at to uses from) ∙ known);
  complete = λ from path way short. complete from path way short;
  count = omega arith;
} where
  sound : (from m : ℕ) (b : Bool) → b ≡ has (get_or uses from []) to → cond b (Some 0) None ≡ Some m → (path : List ℕ) × (length path ≡ m) × (leads_by uses from path to ≡ true) × (m < 1)
  sound from m true yes_b known = let zero_is : 0 ≡ m = cc in ([], zero_is, sym yes_b, omega (arith, zero_is))
  sound from m false no_b known = absurd (none_some known) where
    none_some : None ≡ Some m → ⊥
    none_some e = cc

  complete : (from : ℕ) (path : List ℕ) → leads_by uses from path to ≡ true → length path < 1 → (m : ℕ) × (get_or steps from None ≡ Some m) × (m ≤ length path)
  complete from [] way short = (0, ap (λ w. get_or w from None) is ∙ direct_at to uses from ∙ ap (λ b. cond b (Some 0) None) way, omega arith)
  complete from (p ∷ path) way short = absurd (omega (arith, short))

-- ---- one round more

-- a way over a place that is known passes one place more
way_over : (uses : List (List ℕ)) (from p : ℕ) (path : List ℕ) (to : ℕ) → has (get_or uses from []) p ≡ true → leads_by uses p path to ≡ true → leads_by uses from (p ∷ path) to ≡ true
way_over uses from p path to first rest = and_from (has (get_or uses from []) p) (leads_by uses p path to) first rest

none_some : {X : Type 0} {x : X} → None ≡ Some x → ⊥
none_some e = cc

some_same : {m n : ℕ} → Some m ≡ Some n → m ≡ n
some_same e = cc

pub within_more : (uses : List (List ℕ)) (to k : ℕ) (steps : List (Option ℕ)) → Within uses to k steps → (next : List (Option ℕ)) → next ≡ wider k steps uses steps → known_count steps < known_count next → Within uses to (k + 1) next
within_more uses to k steps within next is more = record {
  some = omega arith;
  same = ap length is ∙ length-wider k steps uses steps within.same;
  sound = λ from m found. sound from m (get_or steps from None) refl (sym (at from) ∙ found);
  complete = λ from path way short. complete from path way (omega (arith, short)) (get_or steps from None) refl;
  count = omega (arith, within.count, more);
} where
  is_known : ℕ → Bool
  is_known p = is_some (get_or steps p None)

  at : (from : ℕ) → get_or next from None ≡ wider_at k steps (get_or uses from []) (get_or steps from None)
  at from = ap (λ w. get_or w from None) is ∙ wider-at k steps uses steps from within.same

  fresh : (from m : ℕ) → None ≡ get_or steps from None → (b : Bool) → b ≡ list_any (λ p. is_some (get_or steps p None)) (get_or uses from []) → cond b (Some k) None ≡ Some m
      → (path : List ℕ) × (length path ≡ m) × (leads_by uses from path to ≡ true) × (m < k + 1)
  fresh from m unknown false none found = absurd (none_some found)
  fresh from m unknown true some found =
      let k_is : k ≡ m = some_same found in
      let place = any_has (λ p. is_some (get_or steps p None)) (get_or uses from []) (sym some) in
      let known = some_since (get_or steps place.0 None) place.2 in
      let old = within.sound place.0 known.0 known.1 in
      let way : leads_by uses from (place.0 ∷ old.0) to ≡ true = way_over uses from place.0 old.0 to place.1 old.2 in
      elim (cases_lt (length (place.0 ∷ old.0)) k) [
        | inl short ↦ (let early = within.complete from (place.0 ∷ old.0) way short in absurd (none_some (unknown ∙ early.1)))
        | inr long ↦ (place.0 ∷ old.0, omega (arith, long, old.1, old.3, k_is), way, omega (arith, k_is))
      ]

  sound : (from m : ℕ) (s : Option ℕ) → s ≡ get_or steps from None → wider_at k steps (get_or uses from []) s ≡ Some m → (path : List ℕ) × (length path ≡ m) × (leads_by uses from path to ≡ true) × (m < k + 1)
  sound from m (Some n) known found = let old = within.sound from m (sym known ∙ found) in (old.0, old.1, old.2, omega (arith, old.3))
  sound from m None unknown found = fresh from m unknown (list_any (λ p. is_some (get_or steps p None)) (get_or uses from [])) refl found

  reached : (from p : ℕ) (path : List ℕ) → has (get_or uses from []) p ≡ true → leads_by uses p path to ≡ true → length path < k → list_any (λ p. is_some (get_or steps p None)) (get_or uses from []) ≡ true
  reached from p path first rest short = let old = within.complete p path rest short in has_any (λ p. is_some (get_or steps p None)) (get_or uses from []) p first (ap is_some old.1)

  complete : (from : ℕ) (path : List ℕ) → leads_by uses from path to ≡ true → length path ≤ k → (s : Option ℕ) → s ≡ get_or steps from None → (m : ℕ) × (get_or next from None ≡ Some m) × (m ≤ length path)
  complete from [] way short s is_s = let old = within.complete from [] way (omega (arith, within.some)) in (old.0, at from ∙ ap (wider_at k steps (get_or uses from [])) old.1, old.2)
  complete from (p ∷ path) way short (Some m) is_s = elim (cases_lt (length (p ∷ path)) k) [
    | inl early ↦ (let old = within.complete from (p ∷ path) way early in (old.0, at from ∙ ap (wider_at k steps (get_or uses from [])) old.1, old.2))
    | inr late ↦ (let old = within.sound from m (sym is_s) in (m, at from ∙ ap (wider_at k steps (get_or uses from [])) (sym is_s), omega (arith, old.3, late)))
  ]
  complete from (p ∷ path) way short None is_s =
      let parts = and_parts (has (get_or uses from []) p) (leads_by uses p path to) way in
      elim (cases_lt (length (p ∷ path)) k) [
        | inl early ↦ (let old = within.complete from (p ∷ path) way early in absurd (none_some (is_s ∙ old.1)))
        | inr late ↦ (k, at from ∙ ap (wider_at k steps (get_or uses from [])) (sym is_s) ∙ ap (λ b. cond b (Some k) None) (reached from p path parts.0 parts.1 (omega (arith, short))), late)
      ]

-- a round that makes a different number known makes more known
pub within_grown : (uses : List (List ℕ)) (to k : ℕ) (steps : List (Option ℕ)) → Within uses to k steps → (next : List (Option ℕ)) → next ≡ wider k steps uses steps → (known_count next ≡ known_count steps → ⊥) → Within uses to (k + 1) next
within_grown uses to k steps within next is other = within_more uses to k steps within next is (elim (wider_counts k steps uses steps within.same) [
  | inl more ↦ omega (arith, more, ap known_count is)
  | inr same ↦ absurd (other (ap known_count (is ∙ same)))
])

-- where a round makes no more known, all ways are
pub within_all : (uses : List (List ℕ)) (to k : ℕ) (steps : List (Option ℕ)) → Within uses to k steps → (next : List (Option ℕ)) → next ≡ wider k steps uses steps → known_count next ≡ known_count steps → Measures uses to steps
within_all uses to k steps within next is same_count = record {
  sound = λ from m found. (let old = within.sound from m found in (old.0, old.1, old.2));
  complete = λ from path way. complete from path way (get_or steps from None) refl;
} where
  settled : wider k steps uses steps ≡ steps
  settled = elim (wider_counts k steps uses steps within.same) [
    | inl more ↦ absurd (omega (arith, more, ap known_count is, same_count))
    | inr same ↦ same
  ]

  at : (from : ℕ) → get_or steps from None ≡ wider_at k steps (get_or uses from []) (get_or steps from None)
  at from = sym (ap (λ w. get_or w from None) settled) ∙ wider-at k steps uses steps from within.same

  complete : (from : ℕ) (path : List ℕ) → leads_by uses from path to ≡ true → (s : Option ℕ) → s ≡ get_or steps from None → (m : ℕ) × (get_or steps from None ≡ Some m) × (m ≤ length path)
  complete from [] way s is_s = within.complete from [] way (omega (arith, within.some))
  complete from (p ∷ path) way (Some m) is_s = elim (cases_lt (length (p ∷ path)) k) [
    | inl early ↦ within.complete from (p ∷ path) way early
    | inr late ↦ (let old = within.sound from m (sym is_s) in (m, sym is_s, omega (arith, old.3, late)))
  ]
  complete from (p ∷ path) way None is_s =
      let parts = and_parts (has (get_or uses from []) p) (leads_by uses p path to) way in
      let rest = complete p path parts.1 (get_or steps p None) refl in
      let any : list_any (λ p. is_some (get_or steps p None)) (get_or uses from []) ≡ true = has_any (λ p. is_some (get_or steps p None)) (get_or uses from []) p parts.0 (ap is_some rest.1) in
      absurd (none_some (is_s ∙ at from ∙ ap (wider_at k steps (get_or uses from [])) (sym is_s) ∙ ap (λ b. cond b (Some k) None) any))

-- there are not more rounds than places
pub within_end : (uses : List (List ℕ)) (to k : ℕ) (steps : List (Option ℕ)) → Within uses to k steps → k ≤ length uses + 1
within_end uses to k steps within = omega (arith, within.count, within.same, known_le steps)
