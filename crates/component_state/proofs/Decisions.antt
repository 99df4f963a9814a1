-- What a step of a pass decides, and that only the services that meet the needs of a component configuration matter to it.
use Rattle.std.proofs.Common.{◌≡◌, ℕ, List, ap, sym, ◌∙◌, refl, cond, Bool, true, false, length, ◌&&◌, ◌||◌}
use Rattle.std.specs.Prelude.{filter, nat_le, not}
use Rattle.std.specs.List.{list_all, list_any}
use Rattle.std.proofs.lemmas.Bool.{and_parts, cond_both}
use Rattle.component_dto.specs.declared.description.Reference.{Reference}
use Rattle.prop_map.specs.Words.{has, with_places}
use Rattle.reference_match.specs.declared.need.Need.{Need}
use Rattle.reference_match.specs.Needs.{need_of}
use Rattle.reference_match.specs.Targets.{is_met, is_static, meets, targets}
use Rattle.service_registry.specs.declared.row.ServiceRow.{ServiceRow}
use Rattle.service_registry.specs.Services.{best_first, ids}
use Rattle.component_state.specs.declared.component.Component.{Component}
use Rattle.component_state.specs.declared.origin.Origin.{Origin}
use Rattle.component_state.specs.declared.open_period.OpenPeriod.{OpenPeriod}
use Rattle.component_state.specs.declared.pass.Passed.{Passed}
use Rattle.component_state.specs.Components.{lacks_configuration, needs_of}
use Rattle.component_state.specs.Inside.Misled.{chose_outdated, is_misled, is_outdated}
use Rattle.component_state.specs.Inside.Runs.{exists_satisfied, has_life, may_open, must_close, noted, passed_one, with_closed, with_opened}
use Rattle.component_state.specs.Passes.{Stage, services_in}
use Rattle.component_state.specs.Periods.{is_current, is_open}
use Rattle.component_state.specs.Reasons.{choice_at, has_reason, has_untold_change, is_of}
use Rattle.component_state.proofs.Among.{Among, all_same, any_same}
use Rattle.component_state.specs.Inside.ByNeeds.{serves}
use Rattle.component_state.proofs.Needs.{reference_need, services_same}
use Rattle.component_state.proofs.PlaceLemmas.{among_places}
use Rattle.component_state.proofs.ReasonLaws.{reasons_are}

-- it stands: it hasn't ceased, and is satisfied where these are open
abbrev pub stands : Stage → List OpenPeriod → Component → Bool
stands s now c = exists_satisfied (services_in s now) c

-- a living instance of it is misled
abbrev pub some_misled : Stage → List OpenPeriod → Component → Bool
some_misled s now c = list_any (is_misled s.place s.open_before (services_in s now) c) s.origins

-- it closes
abbrev pub closes : Stage → List OpenPeriod → Component → Bool
closes s now c = is_open s.open_before c.number && must_close s (services_in s now) c

-- it opens
abbrev pub opens : Stage → List OpenPeriod → Component → Bool
opens s now c = not (is_open s.open_before c.number) && may_open s (services_in s now) c

-- what is noted of it
abbrev pub noted_now : Stage → Component → Passed → Passed
noted_now s c p = noted (services_in s p.open_now) c p

-- what holds of a step's result, whatever it does
pub step_cases : (s : Stage) (p : Passed) (c : Component) (P : Passed → Type 0)
    → (is_open s.open_before c.number ≡ true → must_close s (services_in s p.open_now) c ≡ true → P (with_closed c.number (noted_now s c p)))
    → (is_open s.open_before c.number ≡ true → must_close s (services_in s p.open_now) c ≡ false → P (noted_now s c p))
    → (is_open s.open_before c.number ≡ false → may_open s (services_in s p.open_now) c ≡ true → P (with_opened s.place s.components c (noted_now s c p)))
    → (is_open s.open_before c.number ≡ false → may_open s (services_in s p.open_now) c ≡ false → P (noted_now s c p)) → P (passed_one s p c)
step_cases s p c P closed kept opened quiet =
    cond_both (is_open s.open_before c.number) (cond (must_close s (services_in s p.open_now) c) (with_closed c.number (noted_now s c p)) (noted_now s c p))
    (cond (may_open s (services_in s p.open_now) c) (with_opened s.place s.components c (noted_now s c p)) (noted_now s c p)) P
    (λ was. cond_both (must_close s (services_in s p.open_now) c) (with_closed c.number (noted_now s c p)) (noted_now s c p) P (closed was) (kept was))
    (λ was. cond_both (may_open s (services_in s p.open_now) c) (with_opened s.place s.components c (noted_now s c p)) (noted_now s c p) P (opened was) (quiet was))

-- of these and of those open ones the same meet each need of a component configuration
pub record OfferSame (c : Component) (these those : List OpenPeriod) : Type 0 where
  pub each : (n : Need) → Among (needs_of c) n → filter (serves n) these ≡ filter (serves n) those

module _ (s : Stage) (c : Component) (these those : List OpenPeriod) (same : OfferSame c these those) where
  met_same : (n : Need) → Among (needs_of c) n → filter (meets n) (services_in s these) ≡ filter (meets n) (services_in s those)
  met_same n here = services_same s n these those (same.each n here)

  pub stands_same : stands s these c ≡ stands s those c
  stands_same =
      ap (λ b. c.exists && (not (lacks_configuration c) && b))
      (all_same (is_met (services_in s these)) (is_met (services_in s those)) (needs_of c) (λ n here. ap (λ w. nat_le n.minimum (length w)) (met_same n here)))

  chose_same : (l : Origin) → chose_outdated (services_in s these) c l ≡ chose_outdated (services_in s those) c l
  chose_same l =
      any_same (λ (r : ℕ × Reference). is_static r.1.policy && is_outdated (need_of c.properties r.1) (choice_at l.chosen r.0) (targets (need_of c.properties r.1) (services_in s these)))
      (λ (r : ℕ × Reference). is_static r.1.policy && is_outdated (need_of c.properties r.1) (choice_at l.chosen r.0) (targets (need_of c.properties r.1) (services_in s those))) (with_places 0 c.description.references)
      (λ r here. ap (λ w. is_static r.1.policy && is_outdated (need_of c.properties r.1) (choice_at l.chosen r.0) (ids (best_first w)))
      (met_same (need_of c.properties r.1) (reference_need c r.1 (among_places 0 c.description.references r here))))

  misled_same : some_misled s these c ≡ some_misled s those c
  misled_same =
      any_same (is_misled s.place s.open_before (services_in s these) c) (is_misled s.place s.open_before (services_in s those) c) s.origins
      (λ l here. ap (λ b. is_of c l && (has_untold_change s.place c || (is_current s.open_before l && b))) (chose_same l))

  pub closes_same : closes s these c ≡ closes s those c
  closes_same =
      ap (λ b. is_open s.open_before c.number && (not b || has s.failing c.number || some_misled s these c)) stands_same
      ∙ ap (λ b. is_open s.open_before c.number && (not (stands s those c) || has s.failing c.number || b)) misled_same

  pub opens_same : opens s these c ≡ opens s those c
  opens_same = ap (λ b. not (is_open s.open_before c.number) && (b && (not (has s.failed c.number) && not (has_life s.origins c.number)))) stands_same

-- where what is noted agrees, what has to close has a reason
pub has_to_close : (s : Stage) (now : List OpenPeriod) (satisfied : List ℕ) (c : Component) → has satisfied c.number ≡ stands s now c
    → must_close s (services_in s now) c ≡ has_reason s.place s.open_before (services_in s now) satisfied s.origins s.failing c
has_to_close s now satisfied c same =
    ap (λ b. not b || has s.failing c.number || some_misled s now c) (sym same)
    ∙ sym (reasons_are s.place s.open_before (services_in s now) satisfied s.origins s.failing c
    (λ e. (and_parts c.exists (not (lacks_configuration c) && list_all (is_met (services_in s now)) (needs_of c)) (sym same ∙ e)).0))
