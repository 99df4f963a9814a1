-- A pass that goes up the levels changes nothing of what the references of those below can take.
use Rattle.std.proofs.Common.{inl, inr, ◌≡◌, ℕ, List, [], ◌∷◌, ◌++◌, ap, sym, ◌∙◌, refl, true, false, append-nil, ◌&&◌}
use Rattle.std.specs.Prelude.{filter, fold, not, ◌==◌}
use Rattle.std.proofs.lemmas.Bool.{cases_Bool, eqb-true, false_from_ne_true, false≢true, and_right}
use Rattle.std.proofs.lemmas.List.Elements.{filter-append}
use Rattle.reference_match.specs.declared.need.Need.{Need}
use Rattle.level_order.specs.Levels.{consumes}
use Rattle.component_state.specs.declared.component.Component.{Component}
use Rattle.component_state.specs.declared.open_period.OpenPeriod.{OpenPeriod}
use Rattle.component_state.specs.declared.pass.Passed.{Passed}
use Rattle.component_state.specs.Components.{are_numbered, needs_of}
use Rattle.component_state.specs.Passes.{Stage, opened_one}
use Rattle.component_state.specs.Periods.{opened_at}
use Rattle.component_state.specs.Inside.Runs.{passed_one}
use Rattle.component_state.proofs.Among.{Among, among_append, among_filter, filter_same, filter_none, filter_twice}
use Rattle.component_state.proofs.Decisions.{OfferSame, step_cases}
use Rattle.component_state.proofs.Numbers.{has_number}
use Rattle.component_state.specs.Inside.ByNeeds.{serves}
use Rattle.component_state.specs.Inside.Ready.{IsPeriodOf}
use Rattle.component_state.proofs.Needs.{not_serving, row_as_given}

-- each one open is a period of these component configurations
abbrev pub AreKnown : List Component → List OpenPeriod → Type 0
AreKnown cs now = (o : OpenPeriod) → Among now o → IsPeriodOf cs o

-- the period that opens
abbrev pub fresh : Stage → ℕ → Component → OpenPeriod
fresh s next c = opened_at s.place s.components (opened_one next c)

fresh_known : (s : Stage) (next : ℕ) (c : Component) → Among s.components c → IsPeriodOf s.components (fresh s next c)
fresh_known s next c there = record { known = has_number s.components c there; row = row_as_given s.components c.number (opened_one next c).service 0 }

known_more : (cs : List Component) (now : List OpenPeriod) (o : OpenPeriod) → AreKnown cs now → IsPeriodOf cs o → AreKnown cs (now ++ o ∷ [])
known_more cs now o known one x here = elim (among_append now (o ∷ []) x here) [ inl l ↦ known x l | inr r ↦ last r ]
  where
    last : Among (o ∷ []) x → IsPeriodOf cs x
    last (inl same) = rw (← same) one
    last (inr none) = absurd none

-- a step leaves only periods of these component configurations
pub known_after : (s : Stage) (p : Passed) (c : Component) → Among s.components c → AreKnown s.components p.open_now → AreKnown s.components (passed_one s p c).open_now
known_after s p c there known =
    step_cases s p c (λ q. AreKnown s.components q.open_now)
    (λ was must o here. known o (among_filter (λ (x : OpenPeriod). not (x.configuration == c.number)) p.open_now o here).0)
    (λ was kept. known) (λ was may. known_more s.components p.open_now (fresh s p.next_service c) known (fresh_known s p.next_service c there)) (λ was quiet. known)

module _ (s : Stage) (numbered : are_numbered s.components ≡ true) (c : Component) where
  drop_same : (d : Component) → Among s.components d → consumes c.description d.description ≡ false → (now : List OpenPeriod) → AreKnown s.components now
      → (n : Need) → Among (needs_of c) n → filter (serves n) (filter (λ (o : OpenPeriod). not (o.configuration == d.number)) now) ≡ filter (serves n) now
  drop_same d there unused now known n here =
      filter_twice (serves n) (λ (o : OpenPeriod). not (o.configuration == d.number)) now
      ∙ filter_same (λ (o : OpenPeriod). not (o.configuration == d.number) && serves n o) (serves n) now
      (λ o in_now. elim (cases_Bool (o.configuration == d.number)) [
        | inl same ↦ (let none = not_serving s.components numbered c d there unused n here o (known o in_now) (eqb-true o.configuration d.number same) in
            and_right (not (o.configuration == d.number)) (serves n o) none ∙ sym none)
        | inr other ↦ ap (λ b. not b && serves n o) other
      ])

  add_same : (d : Component) → Among s.components d → consumes c.description d.description ≡ false → (now : List OpenPeriod) (next : ℕ)
      → (n : Need) → Among (needs_of c) n → filter (serves n) (now ++ fresh s next d ∷ []) ≡ filter (serves n) now
  add_same d there unused now next n here =
      filter-append (serves n) now (fresh s next d ∷ [])
      ∙ ap (λ w. filter (serves n) now ++ w)
      (filter_none (serves n) (fresh s next d ∷ []) only)
      ∙ append-nil (filter (serves n) now)
    where
      only : (o : OpenPeriod) → Among (fresh s next d ∷ []) o → serves n o ≡ false
      only o (inl same) = ap (serves n) (sym same) ∙ not_serving s.components numbered c d there unused n here (fresh s next d) (fresh_known s next d there) refl
      only o (inr none) = absurd none

  -- a step at what isn't consumed
  step_offers : (d : Component) → Among s.components d → consumes c.description d.description ≡ false → (p : Passed) → AreKnown s.components p.open_now → OfferSame c p.open_now (passed_one s p d).open_now
  step_offers d there unused p known =
      step_cases s p d (λ q. OfferSame c p.open_now q.open_now)
      (λ was must. record { each = λ n here. sym (drop_same d there unused p.open_now known n here) })
      (λ was kept. record { each = λ n here. refl })
      (λ was may. record { each = λ n here. sym (add_same d there unused p.open_now p.next_service n here) })
      (λ was quiet. record { each = λ n here. refl })

  -- steps at what isn't consumed
  pub steps_offer : (ds : List Component) → ((d : Component) → Among ds d → Among s.components d × (consumes c.description d.description ≡ false)) → (p : Passed) → AreKnown s.components p.open_now
      → OfferSame c p.open_now (fold (passed_one s) p ds).open_now
  steps_offer [] each p known = record { each = λ n here. refl }
  steps_offer (d ∷ ds) each p known =
      let first = each d (inl refl) in
      let one = step_offers d first.0 first.1 p known in
      let rest = steps_offer ds (λ e here. each e (inr here)) (passed_one s p d) (known_after s p d first.0 known) in
      record { each = λ n here. one.each n here ∙ rest.each n here }
