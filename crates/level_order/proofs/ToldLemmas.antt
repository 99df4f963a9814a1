-- That the cycle that is found is the one to tell, and that there is one.
use Rattle.std.proofs.Common.{◌≡◌, ◌<◌, ◌≤◌, ℕ, ◌+◌, List, [], ◌∷◌, ◌++◌, length, get_or, ap, sym, ◌∙◌, refl, true, arith, Option, Some, None, inl, inr, drop, drop-cons, add-one, append_assoc, Result, Ok, Err}
use Rattle.std.specs.Prelude.{IfOk}
use Rattle.std.specs.List.{slice_get}
use Rattle.std.specs.Option.{option_map_or}
use Rattle.std.proofs.lemmas.Bool.{cases_lt}
use Rattle.std.proofs.lemmas.Option.{slice_get-get_or, slice_get_past}
use Rattle.std.proofs.lemmas.List.{length-map}
use Rattle.component_dto.specs.declared.description.Description.{Description}
use Rattle.level_order.specs.Levels.{IsAcyclic}
use Rattle.level_order.specs.Cycles.{TellsCycle, IsTold, IsCycle, names_at}
use Rattle.level_order.specs.Uses.{uses_of, all_uses, level_above}
use Rattle.level_order.specs.Ways.{leads_by, OnNone, IsFoundCycle, least_path}
use Rattle.level_order.proofs.PlaceLemmas.{has_all_uses, leads_all_uses, rising_all_uses, consumes_at_within}
use Rattle.level_order.proofs.PathLemmas.{least_path_shortest}
use Rattle.level_order.proofs.RankLemmas.{acyclic_levels}
use Rattle.level_order.proofs.UsesLemmas.{levels_above_uses}

length-all_uses : (ds : List Description) → length (all_uses ds) ≡ length ds
length-all_uses ds = length-map ds (λ d. uses_of d ds)

-- where no place lies on a cycle there are levels
pub none_acyclic : (ds : List Description) → ((place : ℕ) → place < length ds → OnNone (all_uses ds) place) → IsAcyclic ds
none_acyclic ds none =
    let found = acyclic_levels (all_uses ds) (λ i p there. omega (arith, length-all_uses ds, consumes_at_within ds i p (sym (has_all_uses ds i p) ∙ there))) (λ place low. none place (omega (arith, low, length-all_uses ds))) in
    let same : length ds ≡ length found.0 = sym (ap length found.1 ∙ length-map (all_uses ds) (λ places. level_above places found.0) ∙ length-all_uses ds) in
    (found.0, found.1 ∙ levels_above_uses ds ds found.0 same)

some_same : {m n : ℕ} → Some m ≡ Some n → m ≡ n
some_same e = cc

none_some : {X : Type 0} {x : X} → None ≡ Some x → ⊥
none_some e = cc

way_by : (ds : List Description) (place : ℕ) (path : List ℕ) → IsCycle ds place path → leads_by (all_uses ds) place path place ≡ true
way_by ds place path cycle = leads_all_uses ds place path place ∙ cycle

-- the found cycle is the told one
pub found_told : (ds : List Description) (places : List ℕ) → IsFoundCycle (all_uses ds) places → TellsCycle ds (names_at ds places)
found_told ds places found =
    let shortest = least_path_shortest (all_uses ds) found.first found.steps found.measures (rising_all_uses ds) found.count found.first found.on_one in
    let path = least_path (all_uses ds) found.steps found.first found.count in
    let told : IsTold ds found.first (least_path (all_uses ds) found.steps found.first found.count) = record {
      cycle = sym (leads_all_uses ds found.first (least_path (all_uses ds) found.steps found.first found.count) found.first) ∙ shortest.way;
      first_on_one = λ place on. elim (cases_lt place found.first) [
        | inl below ↦ (let none = found.before place below in
            let some = none.measures.complete place on.0 (way_by ds place on.0 on.1) in
            absurd (none_some (sym none.on_none ∙ some.1)))
        | inr above ↦ above
      ];
      shortest = λ other cycle. (let some = found.measures.complete found.first other (way_by ds found.first other cycle) in
          let same : found.count ≡ some.0 = some_same (sym found.on_one ∙ some.1) in
          omega (arith, shortest.long, some.2, same));
      least = λ other cycle same. shortest.least other (way_by ds found.first other cycle) (sym same ∙ shortest.long);
    } in
    (found.first, least_path (all_uses ds) found.steps found.first found.count, told, ap (names_at ds) found.is)

-- the name at one place more
names_at-more : (ds : List Description) (places : List ℕ) (i : ℕ) → i < length places
    → names_at ds (drop i places) ≡ option_map_or (λ d. d.name ∷ names_at ds (drop (i + 1) places)) (slice_get ds (get_or places i 0)) (names_at ds (drop (i + 1) places))
names_at-more ds places i within = ap (names_at ds) (drop-cons places i 0 within) ∙ rw (add-one i) refl

-- with the name of the description there
pub names_at-named : (ds : List Description) (places : List ℕ) (i : ℕ) (d : Description) (names : List (List ℕ)) → i < length places → get_or places i 0 < length ds → d ≡ get_or ds (get_or places i 0) d
    → names_at ds places ≡ names ++ names_at ds (drop i places) → names_at ds places ≡ (names ++ d.name ∷ []) ++ names_at ds (drop (i + 1) places)
names_at-named ds places i d names within there is so_far =
    let found : slice_get ds (get_or places i 0) ≡ Some d = slice_get-get_or ds (get_or places i 0) d there ∙ ap Some (sym is) in
    let next : names_at ds (drop i places) ≡ d.name ∷ names_at ds (drop (i + 1) places) = names_at-more ds places i within
    ∙ ap (λ (o : Option Description). option_map_or (λ (e : Description). e.name ∷ names_at ds (drop (i + 1) places)) o (names_at ds (drop (i + 1) places))) found in
    so_far ∙ ap (λ w. names ++ w) next ∙ sym (append_assoc names (d.name ∷ []) (names_at ds (drop (i + 1) places)))

-- where no description is there
pub names_at-past : (ds : List Description) (places : List ℕ) (i : ℕ) (names : List (List ℕ)) → i < length places → length ds ≤ get_or places i 0
    → names_at ds places ≡ names ++ names_at ds (drop i places) → names_at ds places ≡ names ++ names_at ds (drop (i + 1) places)
names_at-past ds places i names within past so_far =
    let found : slice_get ds (get_or places i 0) ≡ None = slice_get_past ds (get_or places i 0) past in
    let next : names_at ds (drop i places) ≡ names_at ds (drop (i + 1) places) = names_at-more ds places i within
    ∙ ap (λ (o : Option Description). option_map_or (λ (e : Description). e.name ∷ names_at ds (drop (i + 1) places)) o (names_at ds (drop (i + 1) places))) found in
    so_far ∙ ap (λ w. names ++ w) next

pub if_ok : {T E : Type 0} {P Q : T → Type 0} (r : Result T E) → ((x : T) → P x → Q x) → IfOk r P → IfOk r Q
if_ok (Ok x) step holds = step x holds
if_ok (Err e) step holds = tt
