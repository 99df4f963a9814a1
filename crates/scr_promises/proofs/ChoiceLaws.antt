-- What an instance chose for a static reference stands as long as its open period goes on.
use Rattle.std.proofs.Common.{◌≡◌, ℕ, List, [], ◌∷◌, ap, sym, ◌∙◌, refl, subst, Bool, true, false, ◌&&◌, ◌||◌, inl, inr}
use Rattle.std.specs.Prelude.{not, ◌==◌}
use Rattle.std.specs.List.{Contains, list_all, list_any}
use Rattle.std.proofs.lemmas.Bool.{and_parts, both_ways, cases_Bool, eq-eqb, eqb-true, or_cases}
use Rattle.component_dto.specs.declared.description.Reference.{Reference}
use Rattle.component_state.specs.declared.component.Component.{Component}
use Rattle.component_state.specs.Inside.Misled.{chose_outdated, is_misled, is_outdated}
use Rattle.component_state.specs.Periods.{is_current, is_open}
use Rattle.component_state.specs.Reasons.{choice_at, has_lost, has_untold_change, would_choose}
use Rattle.component_state.proofs.Apart.{any_from}
use Rattle.prop_map.specs.Words.{has, same_set, with_places}
use Rattle.reference_match.specs.declared.need.Need.{Need}
use Rattle.reference_match.specs.Needs.{need_of}
use Rattle.reference_match.specs.Targets.{chosen, is_greedy, is_static, targets}
use Rattle.scr_promises.specs.Choices.{ChoicesStand, Stands}
use Rattle.scr_promises.proofs.EndingLaws.{current_open}
use Rattle.scr_promises.proofs.InstanceComponents.{IsComponentOf, its_component}
use Rattle.scr_promises.proofs.PassOrders.{in_pass_order}
use Rattle.scr_laws.proofs.Legal.{in_map}
use Rattle.scr_laws.proofs.LegalCalm.{legal_is_calm}
use Rattle.scr_laws.proofs.Sounding.{legal_sound}
use Rattle.scr_laws.specs.Entries.{IsCalm}
use Rattle.scr_world.specs.Consequences.{stage_in}
use Rattle.scr_world.specs.Legal.{IsLegal}
use Rattle.scr_world.specs.Levels.{levels_of}
use Rattle.scr_world.specs.Lists.{world_of}
use Rattle.scr_world.specs.Steps.{History}
use Rattle.scr_world.specs.Tables.{descriptions_of}
use Rattle.scr_world.specs.Views.{properties_in, references_in, targets_for}
use Rattle.scr_world.specs.Worlds.{origins_of, registered_services}
use Rattle.scr_world.specs.declared.instance.Instance.{Instance}
use Rattle.scr_world.specs.declared.world.World.{World}

each_not : {X : Type 0} (p : X → Bool) (xs : List X) (x : X) → list_any p xs ≡ false → Contains xs x → p x ≡ false
each_not p xs x none here = elim (cases_Bool (p x)) [
  | inl on ↦ absurd (both_ways (list_any p xs) none (any_from p xs x here on))
  | inr off ↦ off
]

all_pass : (p : ℕ → Bool) (xs : List ℕ) (n : ℕ) → list_all p xs ≡ true → has xs n ≡ true → p n ≡ true
all_pass p [] n all here = cc
all_pass p (x ∷ xs) n all here =
    let both = and_parts (p x) (list_all p xs) all in
    elim (or_cases (x == n) (has xs n) here) [
      | inl same ↦ ap p (sym (eqb-true x n same)) ∙ both.0
      | inr later ↦ all_pass p xs n both.1 later
    ]

-- what isn't misled isn't outdated
of_parts : (a b c d : Bool) → (a && (b || (c && d))) ≡ false → a ≡ true → c ≡ true → d ≡ false
of_parts true true c d off on also = cc
of_parts true false true d off on also = off
of_parts true false false d off on also = cc
of_parts false b c d off on also = cc

static_off : (a b : Bool) → (a && b) ≡ false → a ≡ true → b ≡ false
static_off true b off on = off
static_off false b off on = cc

neither : (a b : Bool) → (a || b) ≡ false → (a ≡ false) × (b ≡ false)
neither true b off = cc
neither false b off = (refl, off)

not_off : (a : Bool) → not a ≡ false → a ≡ true
not_off true off = refl
not_off false off = cc

-- a choice that isn't outdated stands
not_outdated : (n : Need) (choice services : List ℕ) → is_outdated n choice services ≡ false → (list_all (has services) choice ≡ true) × (is_greedy n.option ≡ true → same_set choice (chosen n services) ≡ true)
not_outdated n choice services off =
    let both = neither (has_lost n choice services) (would_choose n choice services) off in (
      not_off (list_all (has services) choice) both.0,
      λ greedy. not_off (same_set choice (chosen n services)) (static_off (is_greedy n.option) (not (same_set choice (chosen n services))) both.1 greedy),
    )

module _ (w : World) (calm : IsCalm w) (i : Instance) (h : Contains w.instances i) (current : is_current w.open_periods i.origin ≡ true) (c : Component) (its : IsComponentOf w i c) where
  quiet : is_misled w.entries w.open_periods (registered_services w) c i.origin ≡ false
  unfolding stage_in
  quiet = let ds = descriptions_of w.documents in
      each_not (is_misled w.entries w.open_periods (registered_services w) c) (origins_of w.instances) i.origin
      (calm.rest.choices c (ap (is_open w.open_periods) its.number ∙ current_open w.open_periods i.origin current) (in_pass_order ds (levels_of ds) w.components c its.there))
      (in_map (λ (j : Instance). j.origin) w.instances i h)

  kept : chose_outdated (registered_services w) c i.origin ≡ false
  kept = of_parts (i.origin.configuration == c.number) (has_untold_change w.entries c) (is_current w.open_periods i.origin) (chose_outdated (registered_services w) c i.origin) quiet (eq-eqb i.origin.configuration c.number (sym its.number)) current

  stands_by : (r : ℕ × Reference) → Contains (with_places 0 c.description.references) r → is_static r.1.policy ≡ true
      → is_outdated (need_of c.properties r.1) (choice_at i.origin.chosen r.0) (targets (need_of c.properties r.1) (registered_services w)) ≡ false
  stands_by r in_r static = static_off (is_static r.1.policy) _
      (each_not (λ (q : ℕ × Reference). is_static q.1.policy && is_outdated (need_of c.properties q.1) (choice_at i.origin.chosen q.0) (targets (need_of c.properties q.1) (registered_services w))) (with_places 0 c.description.references) r kept in_r) static

  stands : (r : ℕ × Reference) → Contains (with_places 0 (references_in w i)) r → is_static r.1.policy ≡ true → Stands w i r
  stands r in_r static =
      let there = subst (λ (rs : List Reference). Contains (with_places 0 rs) r) its.references in_r in
      let both = not_outdated (need_of (properties_in w i) r.1) (choice_at i.origin.chosen r.0) (targets_for w i r.1)
      (ap (λ ps. is_outdated (need_of ps r.1) (choice_at i.origin.chosen r.0) (targets (need_of ps r.1) (registered_services w))) its.properties ∙ stands_by r there static) in record {
        targets = λ s chose. all_pass (has (targets_for w i r.1)) (choice_at i.origin.chosen r.0) s both.0 chose;
        greedy = both.1;
      }

pub choices_stand : (limit : ℕ) (past : History) → IsLegal limit past → ChoicesStand (world_of past)
choices_stand limit past legal i h current r in_r static =
    let c = its_component limit past legal i h in
    stands (world_of past) (legal_is_calm limit past legal (legal_sound limit past legal)) i h current c.0 c.1 r in_r static
