-- Which places lie on no cycle, and the first that lies on one.
use Rattle.std.proofs.Common.{◌≡◌, ◌<◌, ◌≤◌, ℕ, zero, suc, ◌+◌, List, [], ◌∷◌, length, get_or, ap, sym, ◌∙◌, refl, true, false, arith, inl, inr, subst, Option, Some, None}
use Rattle.std.specs.List.{slice_get}
use Rattle.std.specs.Option.{option_map_or}
use Rattle.std.proofs.lemmas.Bool.{and_parts, cases_lt}
use Rattle.component_dto.specs.declared.description.Description.{Description}
use Rattle.level_order.specs.Levels.{consumes}
use Rattle.level_order.specs.Links.{AreLinks}
use Rattle.level_order.specs.Ranks.{NeverFall, RiseAt, rank_at}
use Rattle.level_order.specs.Uses.{all_uses}
use Rattle.level_order.specs.Ways.{IsCycleFrom, IsFoundCycle, Measures, OnNone, direct, has, known_count, leads_by, wider}
use Rattle.level_order.proofs.PlaceLemmas.{has_all_uses, within_list}
use Rattle.level_order.proofs.StepLemmas.{Within, wider_counts, within_all, within_direct, within_end, within_more}

none_some : {X : Type 0} {x : X} → None ≡ Some x → ⊥
none_some e = cc

-- ---- all ways can be measured

-- a list that measures them
record Measured (uses : List (List ℕ)) (to : ℕ) : Type 0 where
  steps : List (Option ℕ)
  measures : Measures uses to steps

measured_from : (uses : List (List ℕ)) (to fuel k : ℕ) (steps : List (Option ℕ)) → Within uses to k steps → length uses + 2 ≤ fuel + k → Measured uses to
measured_from uses to zero k steps within most = absurd (omega (arith, most, within_end uses to k steps within))
measured_from uses to (suc fuel) k steps within most = elim (wider_counts k steps uses steps within.same) [
  | inl more ↦ measured_from uses to fuel (k + 1) (wider k steps uses steps) (within_more uses to k steps within (wider k steps uses steps) refl more) (omega (arith, most))
  | inr same ↦ record { steps = steps; measures = within_all uses to k steps within (wider k steps uses steps) refl (ap known_count same) }
]

measured : (uses : List (List ℕ)) (to : ℕ) → Measured uses to
measured uses to = measured_from uses to (length uses + 1) 1 (direct to uses) (within_direct uses to (direct to uses) refl) (omega arith)

pub on_none : (uses : List (List ℕ)) (place : ℕ) → ((path : List ℕ) → leads_by uses place path place ≡ true → ⊥) → OnNone uses place
on_none uses place none =
    let found = measured uses place in
    record { steps = found.steps; measures = found.measures; on_none = no_way found (get_or found.steps place None) refl } where
      no_way : (found : Measured uses place) (o : Option ℕ) → get_or found.steps place None ≡ o → get_or found.steps place None ≡ None
      no_way found None is = is
      no_way found (Some m) is = (let way = found.measures.sound place m is in absurd (none way.0 way.2))

-- ---- ranks

uses_rise : (ds : List Description) (onward back : List (List ℕ)) (ranks : List ℕ) → AreLinks ds onward back → NeverFall onward ranks → (i j : ℕ) → has (get_or (all_uses ds) i []) j ≡ true → (x : ℕ) × (has (get_or onward i []) x ≡ true) × (rank_at ranks i ≤ rank_at ranks x) × (rank_at ranks x ≤ rank_at ranks j)
uses_rise ds onward back ranks links never i j used =
    let below = within_list ds (λ d. option_map_or (λ e. consumes d e) (slice_get ds j) false) i (sym (has_all_uses ds i j) ∙ used) in
    let way = links.between i j used in
    let facts = links.interfaces i way.0 below way.1 in
    (way.0, way.1, never i way.0 (omega (arith, below, links.some)) way.1, never way.0 j facts.1 way.2)

path_rises : (ds : List Description) (onward back : List (List ℕ)) (ranks : List ℕ) → AreLinks ds onward back → NeverFall onward ranks → (from : ℕ) (path : List ℕ) (to : ℕ) → leads_by (all_uses ds) from path to ≡ true → rank_at ranks from ≤ rank_at ranks to
path_rises ds onward back ranks links never from [] to way = (let rise = uses_rise ds onward back ranks links never from to way in omega (arith, rise.2, rise.3))
path_rises ds onward back ranks links never from (p ∷ path) to way =
    let two = and_parts (has (get_or (all_uses ds) from []) p) (leads_by (all_uses ds) p path to) way in
    let rise = uses_rise ds onward back ranks links never from p two.0 in
    omega (arith, rise.2, rise.3, path_rises ds onward back ranks links never p path to two.1)

path_rises_more : (ds : List Description) (onward back : List (List ℕ)) (ranks : List ℕ) → AreLinks ds onward back → NeverFall onward ranks → (from : ℕ) → RiseAt onward ranks from → (path : List ℕ) (to : ℕ) → leads_by (all_uses ds) from path to ≡ true → rank_at ranks from < rank_at ranks to
path_rises_more ds onward back ranks links never from rises [] to way = (let rise = uses_rise ds onward back ranks links never from to way in omega (arith, rises rise.0 rise.1, rise.3))
path_rises_more ds onward back ranks links never from rises (p ∷ path) to way =
    let two = and_parts (has (get_or (all_uses ds) from []) p) (leads_by (all_uses ds) p path to) way in
    let rise = uses_rise ds onward back ranks links never from p two.0 in
    omega (arith, rises rise.0 rise.1, rise.3, path_rises ds onward back ranks links never p path to two.1)

-- a place from which ranks rise lies on no cycle
pub rising_on_none : (ds : List Description) (onward back : List (List ℕ)) (ranks : List ℕ) → AreLinks ds onward back → NeverFall onward ranks → (place : ℕ) → RiseAt onward ranks place → OnNone (all_uses ds) place
rising_on_none ds onward back ranks links never place rises = on_none (all_uses ds) place (λ path way. omega (arith, path_rises_more ds onward back ranks links never place rises path place way))

-- ---- the first place

pub one_more : (uses : List (List ℕ)) (place : ℕ) → ((p : ℕ) → p < place → OnNone uses p) → OnNone uses place → (p : ℕ) → p < place + 1 → OnNone uses p
one_more uses place before here p below = elim (cases_lt p place) [
  | inl earlier ↦ before p earlier
  | inr from ↦ subst (λ w. OnNone uses w) (omega (arith, from, below)) here
]

pub first_found : (uses : List (List ℕ)) (place : ℕ) (places : List ℕ) → ((p : ℕ) → p < place → OnNone uses p) → IsCycleFrom uses place places → IsFoundCycle uses places
first_found uses place places before found = record {
  first = place;
  count = found.count;
  steps = found.steps;
  measures = found.measures;
  on_one = found.on_one;
  before = before;
  is = found.is;
}
