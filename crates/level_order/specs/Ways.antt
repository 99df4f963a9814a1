-- Ways over the places that each description consumes, and how short they are.
use Rattle.std.specs.Prelude.{◌≡◌, ℕ, zero, suc, ◌==◌, ◌<◌, ◌≤◌, ◌&&◌, List, [], ◌∷◌, ◌++◌, map, get_or, Bool, true, false, length, Option, Some, None, if◌then◌else◌}
use Rattle.std.specs.Option.{is_some, option_map_or}
use Rattle.std.specs.List.{filter, list_any}

abbrev pub has : List ℕ → ℕ → Bool
has places place = list_any (λ p. p == place) places

-- from one place over those of the path to another one
abbrev pub leads_by : List (List ℕ) → ℕ → List ℕ → ℕ → Bool
leads_by uses from [] to = has (get_or uses from []) to
leads_by uses from (next ∷ path) to = has (get_or uses from []) next && leads_by uses next path to

-- for each place how many places a shortest way to this one passes, where there is a way
pub record Measures (uses : List (List ℕ)) (to : ℕ) (steps : List (Option ℕ)) : Type 0 where
  pub sound : (from m : ℕ) → get_or steps from None ≡ Some m → (path : List ℕ) × (length path ≡ m) × (leads_by uses from path to ≡ true)
  pub complete : (from : ℕ) (path : List ℕ) → leads_by uses from path to ≡ true → (m : ℕ) × (get_or steps from None ≡ Some m) × (m ≤ length path)

-- no way leads from the place back to it
pub record OnNone (uses : List (List ℕ)) (place : ℕ) : Type 0 where
  pub steps : List (Option ℕ)
  pub measures : Measures uses place steps
  pub on_none : get_or steps place None ≡ None

-- of the ways that pass no other place
abbrev pub direct : ℕ → List (List ℕ) → List (Option ℕ)
direct to uses = map (λ places. if has places to then Some 0 else None) uses

-- with the ways that pass so many places, by those that are known
abbrev pub wider_at : ℕ → List (Option ℕ) → List ℕ → Option ℕ → Option ℕ
wider_at count known places (Some m) = Some m
wider_at count known places None = if list_any (λ p. is_some (get_or known p None)) places then Some count else None

abbrev pub wider : ℕ → List (Option ℕ) → List (List ℕ) → List (Option ℕ) → List (Option ℕ)
wider count known [] steps = []
wider count known (places ∷ uses) [] = []
wider count known (places ∷ uses) (s ∷ steps) = wider_at count known places s ∷ wider count known uses steps

abbrev pub is_at : Option ℕ → ℕ → Bool
is_at None n = false
is_at (Some m) n = m == n

-- the first of the places from which a shortest way passes so many
abbrev pub first_at : List (Option ℕ) → ℕ → List ℕ → Option ℕ
first_at steps left [] = None
first_at steps left (p ∷ places) = if is_at (get_or steps p None) left then Some p else first_at steps left places

-- always on to the first place that is nearer
abbrev pub least_path : List (List ℕ) → List (Option ℕ) → ℕ → ℕ → List ℕ
least_path uses steps from zero = []
least_path uses steps from (suc left) = option_map_or (λ p. p ∷ least_path uses steps p left) (first_at steps left (get_or uses from [])) []

-- how many of the places are known to have a way
abbrev pub known_count : List (Option ℕ) → ℕ
known_count steps = length (filter is_some steps)

-- the place, the least shortest way from it back to it, and the place again
pub record IsCycleFrom (uses : List (List ℕ)) (first : ℕ) (places : List ℕ) : Type 0 where
  pub count : ℕ
  pub steps : List (Option ℕ)
  pub measures : Measures uses first steps
  pub on_one : get_or steps first None ≡ Some count
  pub is : places ≡ first ∷ least_path uses steps first count ++ first ∷ []

-- the first place that lies on a cycle, the way from it back to it, and the place again
pub record IsFoundCycle (uses : List (List ℕ)) (places : List ℕ) : Type 0 where
  pub first : ℕ
  pub count : ℕ
  pub steps : List (Option ℕ)
  pub measures : Measures uses first steps
  pub on_one : get_or steps first None ≡ Some count
  pub before : (place : ℕ) → place < first → OnNone uses place
  pub is : places ≡ first ∷ least_path uses steps first count ++ first ∷ []
