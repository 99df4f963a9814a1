-- What an instance holds is direct, or an active instance that wasn't told of Deactivate serves it.
use Rattle.std.proofs.Common.{◌≡◌, ◌<◌, ◌⊎◌, ℕ, List, [], ◌∷◌, ◌++◌, ap, sym, ◌∙◌, refl, subst, cond, arith, Bool, true, false, ◌&&◌, inl, inr, Option, Some, None}
use Rattle.std.specs.Prelude.{nat_lt, not, ◌==◌}
use Rattle.std.specs.List.{Contains, list_any}
use Rattle.std.specs.Option.{option_map_or}
use Rattle.std.proofs.lemmas.Bool.{and_from, and_parts, both_ways, cases_Bool, eqb-true, ne_eqb, or_cases}
use Rattle.callback_orders.specs.declared.callback.Callback.{Callback}
use Rattle.callback_orders.specs.declared.callback.Callback.TheVariants.{Bind as BindCalled, Deactivate as DeactivateCalled}
use Rattle.callback_orders.specs.declared.callback.Outcome.{Outcome}
use Rattle.callback_orders.specs.declared.due.DueRef.TheVariants.{Deactivate as DeactivateDue}
use Rattle.callback_orders.specs.declared.instance_view.InstanceView.{InstanceView}
use Rattle.callback_orders.specs.declared.instance_view.Phase.TheVariants.{Making}
use Rattle.callback_orders.specs.declared.word.Called.{Called}
use Rattle.callback_orders.specs.Due.{due_of}
use Rattle.callback_orders.specs.Grammar.{IsSequence}
use Rattle.callback_orders.specs.Lives.{callback_of, held_for, phase_of}
use Rattle.callback_orders.specs.Sequences.{begun, ended, is_outstanding}
use Rattle.callback_orders.proofs.EndLemmas.{is_sequence-ended}
use Rattle.callback_orders.proofs.SequenceLaws.{is_sequence-means}
use Rattle.component_dto.specs.declared.description.Description.{Description}
use Rattle.component_dto.specs.declared.description.Reference.{Reference}
use Rattle.component_state.specs.declared.component.Component.{Component}
use Rattle.component_state.specs.declared.open_period.OpenPeriod.{OpenPeriod}
use Rattle.component_state.specs.declared.origin.Choice.{Choice}
use Rattle.component_state.specs.Components.{component_of, consumer_for, has_singleton_scope}
use Rattle.component_state.specs.Periods.{is_current}
use Rattle.component_state.proofs.Apart.{any_found, any_from, in_either, in_left, kept_from, not_true}
use Rattle.journal_core.specs.declared.entry.Entry.{Entry}
use Rattle.prop_map.specs.Words.{has}
use Rattle.scr_promises.specs.Endings.{has_deactivate, outlives_consumer}
use Rattle.scr_promises.proofs.CallbackLists.{deactivate_begun, deactivate_ended}
use Rattle.scr_promises.proofs.Comings.{IsNext, IsSeen, callback_begun, closes, gains, keeps, not_board, one_made, whiteboard}
use Rattle.scr_promises.proofs.DueCallbacks.{due_stands}
use Rattle.scr_promises.proofs.EndingLaws.{board_number, comes, deactivates_due, same_one}
use Rattle.scr_promises.proofs.InstanceComponents.{component_for, component_kept}
use Rattle.scr_laws.proofs.NothingShut.{phase_stays}
use Rattle.scr_laws.proofs.TurnCallbacks.{are_told_apart}
use Rattle.scr_promises.specs.Providers.{HaveProviders, IsProvided, by_instance, directly}
use Rattle.scr_promises.proofs.HeldSteps.{IsBound, IsLater, board_bundle, from, held_next, later, new}
use Rattle.scr_promises.proofs.KnownLaws.{bound_row, current_from, goes_on, hold_as, known_found, none_held}
use Rattle.scr_promises.proofs.ServingLaws.{serving_quiet}
use Rattle.scr_promises.proofs.ProviderPhases.{bounds_life, free_of_bounds, living_ended, phase_ended}
use Rattle.scr_laws.proofs.Legal.{legal_scratch, open_lives}
use Rattle.scr_laws.proofs.Listed.{single}
use Rattle.scr_laws.proofs.Sounding.{legal_sound}
use Rattle.scr_laws.proofs.InstanceLemmas.{IsSame, begun_cases, drained_same, ended_same, mapped_in, told_same}
use Rattle.scr_promises.specs.Services.{known_services}
use Rattle.scr_promises.proofs.ServiceLaws.{IsKind, are_services, direct_in, of_command, of_component, of_platform, of_those_left, platform_in, registered_is, registered_kind, registered_known}
use Rattle.scr_laws.proofs.OwnerLaws.{active_owners}
use Rattle.scr_world.specs.Dues.{names_of}
use Rattle.scr_world.specs.Instances.{created_at, drained_in, ended_in, has_failed, has_turn, is_active_instance, is_active_phase, last_is, lives_on, with_callback_begun, with_outcome}
use Rattle.scr_world.specs.Legal.{IsLegal}
use Rattle.scr_world.specs.Lists.{holds, is_active_bundle, world_after_entry, world_of}
use Rattle.scr_world.specs.Steps.{History}
use Rattle.scr_world.specs.Stepping.{before_turn, instances_by, instances_told, world_after_step}
use Rattle.scr_world.specs.Views.{bundle_of_instance, ends, has_holder, is_holder, references_in, serves}
use Rattle.scr_world.specs.Whiteboard.{condition, platform_rows}
use Rattle.scr_world.specs.Worlds.{all_instances, direct_services, is_registered, registered_services}
use Rattle.scr_world.specs.declared.instance.Instance.{Instance}
use Rattle.scr_world.specs.declared.step.Step.{Step}
use Rattle.scr_world.specs.declared.step.Step.TheVariants.{Command as Commanded, Begin, End, Drained, Got, Released}
use Rattle.scr_world.specs.declared.world.World.{World}
use Rattle.service_registry.specs.declared.row.ServiceRow.{ServiceRow}

and_off : (b : Bool) → (b && false) ≡ false
and_off true = refl
and_off false = refl

-- ---- who serves

record IsServing (w : World) (bundle s : ℕ) (x : Instance) : Type 0 where
  there : Contains w.instances x
  serving : serves w bundle s x ≡ true
  active : is_active_instance x ≡ true
  quiet : has_deactivate x.callbacks ≡ false

data IsGivenBy (w : World) (bundle s : ℕ) : Type 0 where
  by_row : (row : ServiceRow) → Contains (known_services w) row → row.id ≡ s → row.direct ≡ true → IsGivenBy w bundle s
  by_one : 0 < s → (x : Instance) → IsServing w bundle s x → IsGivenBy w bundle s

abbrev AreGiven : World → Type 0
AreGiven w = (i : Instance) → Contains (all_instances w) i → (r : Reference) → Contains (references_in w i) r → (s : ℕ) → has (held_for r.name i.callbacks) s ≡ true → IsGivenBy w (bundle_of_instance w i) s

-- ---- an instance that serves stays

module _ (limit : ℕ) (entry : Entry Step) (past : History) (legal : IsLegal limit (entry ∷ past)) where
  abbrev w : World
  w = world_of past

  abbrev then : World
  then = world_of (entry ∷ past)

  module _ (x : Instance) (h : Contains w.instances x) (active : is_active_instance x ≡ true) (quiet : has_deactivate x.callbacks ≡ false) where
    -- its callback that is outstanding neither begins nor ends an active life
    free : (turn : ℕ) (outcome : Outcome) → has_turn turn x ≡ true → IsSequence (ended outcome x.callbacks) → last_is bounds_life x.callbacks ≡ false
    free turn outcome its order = free_of_bounds x.callbacks (sym (is_sequence-ended outcome x.callbacks) ∙ (is_sequence-means (ended outcome x.callbacks)).1 order) (and_parts (x.turn == turn) (is_outstanding x.callbacks) its).1 active quiet

    abbrev IsKept : Step → Type 0
    IsKept step = (y : Instance) × Contains (instances_told step w) y × Contains (instances_by step w) y × (y.number ≡ x.number)

    lives_ended : (turn : ℕ) (outcome : Outcome) → IsSequence (ended_in turn outcome w.generations x).callbacks → lives_on (ended_in turn outcome w.generations x) ≡ true
    lives_ended turn outcome order = go (has_turn turn x) refl order
      where
        go : (b : Bool) → has_turn turn x ≡ b → IsSequence (cond b (with_outcome outcome (world_of past).generations x) x).callbacks → lives_on (cond b (with_outcome outcome (world_of past).generations x) x) ≡ true
        go false off o = (legal_sound limit past legal.1).living x h
        go true its o = living_ended outcome x.callbacks (free turn outcome its o) ((legal_sound limit past legal.1).living x h)

    begun_kept : (turn instance configuration consumer : ℕ) (callback : Callback) (chosen : List Choice) → IsKept (Begin turn instance configuration consumer callback chosen)
    begun_kept turn instance configuration consumer callback chosen = elim (begun_cases callback) [
      | inl create ↦ (
          let new = created_at (before_turn w) turn instance configuration consumer chosen in
          let there = subst (λ (c : Callback). Contains (instances_told (Begin turn instance configuration consumer c chosen) w) x) (sym create) (in_left w.instances (new ∷ []) x h) in
          (x, there, there, refl))
      | inr tells ↦ (
          let there = subst (λ (is : List Instance). Contains is (with_callback_begun (before_turn w) turn instance callback x)) (sym (tells (before_turn w) turn instance configuration consumer chosen))
          (mapped_in (with_callback_begun (before_turn w) turn instance callback) w.instances x h) in
          (with_callback_begun (before_turn w) turn instance callback x, there, there, (told_same (before_turn w) turn instance callback x).number))
    ]

    kept_by : (step : Step) → ((i : Instance) → Contains (instances_told step w) i → IsSequence i.callbacks) → IsKept step
    kept_by (Commanded command) order = (x, h, h, refl)
    kept_by (Begin turn instance configuration consumer callback chosen) order = begun_kept turn instance configuration consumer callback chosen
    kept_by (End turn outcome) order =
        let there = mapped_in (ended_in turn outcome w.generations) w.instances x h in
        (ended_in turn outcome w.generations x, there, kept_from lives_on (instances_told (End turn outcome) w) (ended_in turn outcome w.generations x) there (lives_ended turn outcome (order (ended_in turn outcome w.generations x) there)), (ended_same turn outcome w.generations x).number)
    kept_by (Drained instance) order = let there = mapped_in (drained_in instance) w.instances x h in (drained_in instance x, there, there, (drained_same instance x).number)
    kept_by (Got bundle service) order = (x, h, h, refl)
    kept_by (Released place) order = (x, h, h, refl)

    instances_then : (i : Instance) → Contains (instances_by entry.step w) i → Contains then.instances i
    unfolding world_of world_after_entry world_after_step
    instances_then i k = k

    -- and isn't deactivated, where no Deactivate of it is due
    module _ (spared : (v : InstanceView) → IsSeen w x v → (n : ℕ) → due_of v ≡ Some (DeactivateDue n) → callback_begun entry.step ≡ Some DeactivateCalled → ⊥) where
      still : (calls : List Called) → IsSequence calls → IsNext w entry.step x calls → (is_active_phase (phase_of calls) ≡ true) × (has_deactivate calls ≡ false)
      still calls order (keeps is) = (ap (λ cs. is_active_phase (phase_of cs)) is ∙ active, ap has_deactivate is ∙ quiet)
      still calls order (closes turn outcome is_end its is) =
          let off = free turn outcome its (subst IsSequence is order) in
          (ap (λ cs. is_active_phase (phase_of cs)) is ∙ ap is_active_phase (phase_ended outcome Making x.callbacks off) ∙ active, ap has_deactivate is ∙ deactivate_ended outcome x.callbacks ∙ quiet)
      still calls order (gains v seen due is_due begins is) = (
        ap (λ cs. is_active_phase (phase_of cs)) is ∙ ap is_active_phase (phase_stays (callback_of (names_of w x) due) Making x.callbacks) ∙ active,
        ap has_deactivate is ∙ elim (cases_Bool (has_deactivate (x.callbacks ++ begun (callback_of (names_of w x) due) ∷ []))) [
          | inr off ↦ off
          | inl on ↦ elim (deactivate_begun x.callbacks (callback_of (names_of w x) due) on) [
            | inl before ↦ absurd (both_ways (has_deactivate x.callbacks) quiet before)
            | inr now ↦ (let found = deactivates_due (names_of w x) due now in absurd (spared v seen found.0 (is_due ∙ ap Some found.1) (begins ∙ ap Some now)))
          ]
        ],
      )

      stays_serving : (bundle s : ℕ) → serves w bundle s x ≡ true → (y : Instance) × IsServing then bundle s y
      stays_serving bundle s serving =
          let kept = kept_by entry.step legal.0.order in
          let there = instances_then kept.0 kept.2 in
          let one = same_one limit entry past legal x kept.0 h (sym kept.3) (comes limit entry past legal kept.0 there) in
          let next = subst (λ (z : Instance). IsNext w entry.step z kept.0.callbacks) one.1 one.0.calls in
          let same = subst (λ (z : Instance). IsSame kept.0 z) one.1 one.0.same in
          let now = still kept.0.callbacks (legal.0.order kept.0 kept.1) next in
          (kept.0, record { there = there; serving = serves_now kept.0 same; active = now.0; quiet = now.1 })
        where
          serves_now : (y : Instance) → IsSame y x → serves (world_of (entry ∷ past)) bundle s y ≡ true
          serves_now y same =
              let k = component_kept limit entry past legal x y h same.origin in
              let test = λ (service consumer : ℕ) (o : Option Component). (service == s) && option_map_or (λ (c : Component). consumer == consumer_for c bundle) o false in
              ap (λ n. test n y.consumer (component_of (world_of (entry ∷ past)).components y.origin.configuration)) same.service
              ∙ ap (λ n. test x.service n (component_of (world_of (entry ∷ past)).components y.origin.configuration)) same.consumer
              ∙ ap (test x.service x.consumer) k.is.found
              ∙ ap (λ (d : Description). (x.service == s) && (x.consumer == cond (has_singleton_scope d.scope) 0 bundle)) k.names.description
              ∙ sym (ap (test x.service x.consumer) k.was.found)
              ∙ serving

  -- ---- what is given stays given

  -- a service in the registry of now
  later_row : (i : Instance) → Contains (all_instances then) i → (r : Reference) → Contains (references_in then i) r → (s : ℕ) → has (held_for r.name i.callbacks) s ≡ true → (bundle : ℕ) → (row : ServiceRow) → Contains (known_services w) row → row.id ≡ s → row.direct ≡ true
      → IsGivenBy then bundle s
  later_row i h r in_r s held bundle row known number direct =
      let x = goes_on limit entry past legal (hold_as limit past legal.1) i h r in_r s held row known number in
      by_row x.0 x.1 (x.2.number ∙ number) (x.2.direct ∙ direct)

  module _ (before : AreGiven w) where
    -- no Deactivate is due of an instance that is held
    held_spared : (j : Instance) → Contains (all_instances w) j → (r : Reference) → Contains (references_in w j) r → (s : ℕ) → has (held_for r.name j.callbacks) s ≡ true → 0 < s → (x : Instance) → IsServing w (bundle_of_instance w j) s x
        → (v : InstanceView) → IsSeen w x v → (n : ℕ) → due_of v ≡ Some (DeactivateDue n) → callback_begun entry.step ≡ Some DeactivateCalled → ⊥
    held_spared j h r in_r s held some x on v (whiteboard same is) n due begins = not_board w (are_told_apart limit past legal.1).numbers (board_number past) x on.there same
    held_spared j h r in_r s held some x on v (one_made there is) n due begins =
        let stands = (due_stands v (DeactivateDue n) due).1 in
        let number = eqb-true x.service s (and_parts (x.service == s) _ on.serving).0 in
        let unheld = not_true (has_holder w x) (sym (ap (λ (y : InstanceView). y.unheld) is) ∙ stands.unheld) in
        let holding = any_from (λ (q : Reference). has (held_for q.name j.callbacks) x.service) (references_in w j) r in_r (ap (has (held_for r.name j.callbacks)) number ∙ held) in
        let serving = ap (λ m. serves w (bundle_of_instance w j) m x) number ∙ on.serving in
        let holder = any_from (is_holder w x) (all_instances w) j h (and_from (holds w.components x.service j) (serves w (bundle_of_instance w j) x.service x) holding serving) in
        both_ways (has_holder w x) unheld (and_from (not (x.service == 0)) (list_any (is_holder w x) (all_instances w)) (ap not (ne_eqb x.service 0 (λ e. omega (arith, e, number, some)))) holder)

    -- ---- a Bind that begins

    direct_one : (d : ServiceRow) → Contains (direct_services w) d → (d.direct ≡ true) × Contains (known_services w) d
    direct_one d h =
        let are = are_services limit past legal.1 in
        elim (in_either platform_rows w.registry.rows d h) [
          | inl platform ↦ (
              let same = single condition d platform in
              (ap (λ (r : ServiceRow). r.direct) (sym same), subst (λ (r : ServiceRow). Contains (known_services w) r) same (registered_known w are condition (platform_in w))))
          | inr commanded ↦ (are.direct_flag d commanded, registered_known w are d (direct_in w d commanded))
        ]

    bundle_up : (j : Instance) → (Contains w.instances j × (ends w j ≡ false)) ⊎ (j ≡ w.whiteboard) → (bundle_of_instance w j ≡ 0) ⊎ (is_active_bundle w (bundle_of_instance w j) ≡ true)
    bundle_up j (inr board) = inl (ap (bundle_of_instance w) board ∙ board_bundle past)
    bundle_up j (inl made) =
        let current = current_from (is_current w.open_periods j.origin) (outlives_consumer w j) (has_failed j.callbacks) made.1 in
        let p = any_found (λ (q : OpenPeriod). (q.configuration == j.origin.configuration) && nat_lt q.opened j.origin.created) w.open_periods current in
        let c = open_lives w (legal_scratch limit past legal.1) p.0 p.1 in
        let its = component_for limit past legal.1 j c.0 c.1 (sym c.3 ∙ eqb-true p.0.configuration j.origin.configuration (and_parts (p.0.configuration == j.origin.configuration) (nat_lt p.0.opened j.origin.created) p.2).0) in
        inr (ap (is_active_bundle w) its.bundle ∙ (active_owners limit past legal.1).components c.0 (kept_from (λ (k : Component). k.exists) w.components c.0 c.1 c.2))

    not_told : (name : List ℕ) (s : ℕ) (o : Option Callback) → o ≡ Some (BindCalled name s) → o ≡ Some DeactivateCalled → ⊥
    not_told name s None a b = cc
    not_told name s (Some callback) a b = let same : Some (BindCalled name s) ≡ Some DeactivateCalled = sym a ∙ b in absurd cc

    module _ (i : Instance) (h : Contains (all_instances then) i) (r : Reference) (in_r : Contains (references_in then i) r) (s : ℕ) (held : has (held_for r.name i.callbacks) s ≡ true) where
      bound_served : (j : Instance) → (b : IsBound w entry.step j r.name s) → (x : Instance) → Contains w.instances x → serves w (bundle_of_instance w j) s x ≡ true → is_active_instance x ≡ true → (row : ServiceRow) → Contains (registered_services w) row → row.id ≡ s → IsKind w row
          → IsGivenBy then (bundle_of_instance w j) s
      bound_served j b x there serving active row registered number (of_platform is) = later_row i h r in_r s held (bundle_of_instance w j) row (registered_known w (are_services limit past legal.1) row registered) number (ap (λ (y : ServiceRow). y.direct) (sym is))
      bound_served j b x there serving active row registered number (of_command k) = later_row i h r in_r s held (bundle_of_instance w j) row (registered_known w (are_services limit past legal.1) row registered) number ((are_services limit past legal.1).direct_flag row k)
      bound_served j b x there serving active row registered number (of_those_left k) =
          absurd (both_ways (is_registered w row.id) ((are_services limit past legal.1).left_gone row k) (registered_is w row registered))
      bound_served j b x there serving active row registered number (of_component p k is some) =
          let high = subst (λ n. 0 < n) number some in
          let quiet = serving_quiet limit past legal.1 p k s (ap (λ (y : ServiceRow). y.id) is ∙ number) high (bundle_of_instance w j) (bundle_up j b.whose) x there serving in
          let y = stays_serving x there active quiet (λ v seen n due begins. not_told r.name s (callback_begun entry.step) b.begins begins) (bundle_of_instance w j) s serving in
          by_one high y.0 y.1

      given_bound : (j : Instance) → IsBound w entry.step j r.name s → IsGivenBy then (bundle_of_instance w j) s
      given_bound j b = elim (or_cases (list_any (λ (d : ServiceRow). d.id == s) (direct_services w)) (list_any (λ x. serves w (bundle_of_instance w j) s x && is_active_instance x) w.instances) b.ready) [
        | inl direct ↦ (
            let d = any_found (λ (y : ServiceRow). y.id == s) (direct_services w) direct in
            let its = direct_one d.0 d.1 in
            later_row i h r in_r s held (bundle_of_instance w j) d.0 its.1 (eqb-true d.0.id s d.2) its.0)
        | inr served ↦ (
            let x = any_found (λ (y : Instance). serves w (bundle_of_instance w j) s y && is_active_instance y) w.instances served in
            let both = and_parts (serves w (bundle_of_instance w j) s x.0) (is_active_instance x.0) x.2 in
            let row = bound_row limit past legal.1 entry.step j r.name s b in
            bound_served j b x.0 x.1 both.0 both.1 row.row row.there row.number (registered_kind w row.row row.there))
      ]

      given_old : (j : Instance) → Contains (all_instances w) j → Contains (references_in w j) r → has (held_for r.name j.callbacks) s ≡ true → IsGivenBy w (bundle_of_instance w j) s → IsGivenBy then (bundle_of_instance w j) s
      given_old j there in_refs old (by_row row known number direct) = later_row i h r in_r s held (bundle_of_instance w j) row known number direct
      given_old j there in_refs old (by_one some x on) =
          let y = stays_serving x on.there on.active on.quiet (held_spared j there r in_refs s old some x on) (bundle_of_instance w j) s on.serving in
          by_one some y.0 y.1

      given_if : IsLater limit entry past legal i → IsGivenBy then (bundle_of_instance then i) s
      given_if (new is) = (let none : false ≡ true = ap (λ cs. has (held_for r.name cs) s) (sym is) ∙ held in cc)
      given_if (from j there refs bundle next) =
          let in_refs = subst (λ (rs : List Reference). Contains rs r) refs in_r in
          subst (λ n. IsGivenBy then n s) (sym bundle) (elim (held_next w entry.step j r.name s i.callbacks next held) [
            | inl old ↦ given_old j there in_refs old (before j there r in_refs s old)
            | inr bound ↦ given_bound j bound
          ])

    given_then : AreGiven then
    given_then i h r in_r s held = given_if i h r in_r s held (later limit entry past legal i h)

-- ---- over a journal

are_given : (limit : ℕ) (past : History) → IsLegal limit past → AreGiven (world_of past)
are_given limit [] legal = λ i h r in_r s held. absurd (none_held i h r.name s held)
are_given limit (entry ∷ past) legal = given_then limit entry past legal (are_given limit past legal.1)

pub have_providers : (limit : ℕ) (past : History) → IsLegal limit past → HaveProviders (world_of past)
have_providers limit past legal i h r in_r s held = go (are_given limit past legal i h r in_r s held)
  where
    go : IsGivenBy (world_of past) (bundle_of_instance (world_of past) i) s → IsProvided (world_of past) i s
    go (by_row row known number direct) = directly row (known_found limit past legal row known s number) direct
    go (by_one some x on) = by_instance x on.there on.serving on.active on.quiet
