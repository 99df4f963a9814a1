-- Where services are added, a choice that isn't outdated stays so: that of a greedy reference where none of the new services meets its need.
use Rattle.std.proofs.Common.{◌≡◌, ℕ, List, [], ◌∷◌, ap, ◌∙◌, refl, Bool, true, false, ◌&&◌, ◌||◌, inl, inr}
use Rattle.std.specs.Prelude.{filter, not}
use Rattle.std.specs.List.{Contains, list_all, list_any}
use Rattle.std.proofs.lemmas.Bool.{both_ways, cases_Bool}
use Rattle.component_dto.specs.declared.description.Reference.{Reference}
use Rattle.component_state.specs.declared.component.Component.{Component}
use Rattle.component_state.specs.declared.open_period.OpenPeriod.{OpenPeriod}
use Rattle.component_state.specs.declared.origin.Origin.{Origin}
use Rattle.component_state.specs.Inside.Misled.{chose_outdated, is_misled, is_outdated}
use Rattle.component_state.specs.Periods.{is_current}
use Rattle.component_state.specs.Reasons.{choice_at, has_lost, has_untold_change, is_of, would_choose}
use Rattle.component_state.proofs.Apart.{any_from, in_first, in_rest}
use Rattle.prop_map.specs.Words.{has, same_set, with_places}
use Rattle.reference_match.specs.declared.need.Need.{Need}
use Rattle.reference_match.specs.Needs.{need_of}
use Rattle.reference_match.specs.Targets.{chosen, is_greedy, is_static, meets, targets}
use Rattle.scr_promises.proofs.Waits.{all_from, all_to}
use Rattle.scr_promises.proofs.GrowingServices.{SeesMore, target_later}
use Rattle.service_registry.specs.declared.row.ServiceRow.{ServiceRow}
use Rattle.service_registry.specs.Services.{best_first, ids}

-- ---- truth and lists

not_off : (b : Bool) → not b ≡ false → b ≡ true
not_off true off = refl
not_off false off = cc

either_off : (a b : Bool) → (a || b) ≡ false → (a ≡ false) × (b ≡ false)
either_off true b off = cc
either_off false b off = (refl, off)

both_off : (a b : Bool) → a ≡ false → b ≡ false → (a || b) ≡ false
both_off false b off is = is
both_off true b off is = cc

pub none_from : {X : Type 0} (p : X → Bool) (xs : List X) → ((x : X) → Contains xs x → p x ≡ false) → list_any p xs ≡ false
none_from p [] each = refl
none_from p (x ∷ xs) each = ap (λ b. b || list_any p xs) (each x (in_first x xs)) ∙ none_from p xs (λ y h. each y (in_rest x xs y h))

pub none_to : {X : Type 0} (p : X → Bool) (xs : List X) → list_any p xs ≡ false → (x : X) → Contains xs x → p x ≡ false
none_to p xs none x h = elim (cases_Bool (p x)) [
  | inl on ↦ absurd (both_ways (list_any p xs) none (any_from p xs x h on))
  | inr off ↦ off
]

-- ---- one choice

-- services are added, and where the need is greedy none that meets it
pub record SeesFine (n : Need) (rows later : List ServiceRow) : Type 0 where
  pub sees : SeesMore n rows later
  pub greedy : is_greedy n.option ≡ true → filter (meets n) later ≡ filter (meets n) rows

module _ (n : Need) (choice : List ℕ) (rows later : List ServiceRow) (fine : SeesFine n rows later) where
  lost_later : has_lost n choice (targets n rows) ≡ false → has_lost n choice (targets n later) ≡ false
  lost_later off =
      let all = not_off (list_all (has (targets n rows)) choice) off in
      ap not (all_from (has (targets n later)) choice (λ s h. target_later n rows later fine.sees s (all_to (has (targets n rows)) choice all s h)))

  choose_later : would_choose n choice (targets n rows) ≡ false → would_choose n choice (targets n later) ≡ false
  choose_later off = go (is_greedy n.option) refl off
    where
      go : (b : Bool) → is_greedy n.option ≡ b → (b && not (same_set choice (chosen n (targets n rows)))) ≡ false → (b && not (same_set choice (chosen n (targets n later)))) ≡ false
      go false is k = refl
      go true is k = ap (λ (rs : List ServiceRow). not (same_set choice (chosen n (ids (best_first rs))))) (fine.greedy is) ∙ k

  pub outdated_later : is_outdated n choice (targets n rows) ≡ false → is_outdated n choice (targets n later) ≡ false
  outdated_later off =
      let both = either_off (has_lost n choice (targets n rows)) (would_choose n choice (targets n rows)) off in
      both_off (has_lost n choice (targets n later)) (would_choose n choice (targets n later)) (lost_later both.0) (choose_later both.1)

-- ---- the choices of a life

module _ (c : Component) (rows later : List ServiceRow) (fine : (r : ℕ × Reference) → Contains (with_places 0 c.description.references) r → is_static r.1.policy ≡ true → SeesFine (need_of c.properties r.1) rows later) where
  chose_later : (o : Origin) → chose_outdated rows c o ≡ false → chose_outdated later c o ≡ false
  chose_later o off = none_from (wrong later) (with_places 0 c.description.references) (λ r h. go r h (is_static r.1.policy) refl (none_to (wrong rows) (with_places 0 c.description.references) off r h))
    where
      wrong : List ServiceRow → ℕ × Reference → Bool
      wrong = λ (rs : List ServiceRow) (r : ℕ × Reference). is_static r.1.policy && (let n = need_of c.properties r.1 in is_outdated n (choice_at o.chosen r.0) (targets n rs))

      go : (r : ℕ × Reference) → Contains (with_places 0 c.description.references) r → (b : Bool) → is_static r.1.policy ≡ b
          → (b && is_outdated (need_of c.properties r.1) (choice_at o.chosen r.0) (targets (need_of c.properties r.1) rows)) ≡ false
          → (b && is_outdated (need_of c.properties r.1) (choice_at o.chosen r.0) (targets (need_of c.properties r.1) later)) ≡ false
      go r h false is k = refl
      go r h true is k = outdated_later (need_of c.properties r.1) (choice_at o.chosen r.0) rows later (fine r h is) k

  pub misled_later : (place : ℕ) (before : List OpenPeriod) (o : Origin) → is_misled place before rows c o ≡ false → is_misled place before later c o ≡ false
  misled_later place before o off = go (is_of c o) (has_untold_change place c) (is_current before o) (chose_outdated rows c o) (chose_outdated later c o) (chose_later o) off
    where
      go : (own told now was is : Bool) → (was ≡ false → is ≡ false) → (own && (told || (now && was))) ≡ false → (own && (told || (now && is))) ≡ false
      go false told now was is on k = refl
      go true true now was is on k = k
      go true false false was is on k = refl
      go true false true was is on k = on k
