-- No instance begins to be drained where a turn begins, a drain is posted, or a service is got by a token or released.
use Rattle.std.proofs.Common.{◌≡◌, ℕ, List, [], ◌∷◌, ◌++◌, ap, sym, ◌∙◌, refl, subst, cond, Bool, true, false, ◌&&◌, ◌||◌, inl, inr, None}
use Rattle.std.specs.Prelude.{filter, map, not, ◌==◌}
use Rattle.std.specs.List.{Contains, list_any}
use Rattle.std.proofs.lemmas.Bool.{and_from, eq-eqb}
use Rattle.bundle_life.specs.declared.bundle.BundleLife.{BundleLife}
use Rattle.bundle_life.specs.Lives.{is_active, resolved_among, state_is}
use Rattle.callback_orders.specs.declared.callback.Callback.{Callback}
use Rattle.callback_orders.specs.declared.callback.Callback.TheVariants.{Create, Bind, Updated, Unbind, Activate, Modified, Deactivate, Destroy}
use Rattle.callback_orders.specs.declared.instance_view.Phase.{Phase}
use Rattle.callback_orders.specs.declared.instance_view.Phase.TheVariants.{Making}
use Rattle.callback_orders.specs.declared.word.Called.{Called}
use Rattle.callback_orders.specs.Grammar.{is_activate}
use Rattle.callback_orders.specs.Lives.{phase_after, phase_by, phase_of}
use Rattle.callback_orders.specs.Sequences.{begun, is_failed}
use Rattle.component_state.specs.declared.component.Component.{Component}
use Rattle.component_state.specs.declared.open_period.OpenPeriod.{OpenPeriod}
use Rattle.component_state.specs.declared.origin.Choice.{Choice}
use Rattle.component_state.specs.Periods.{is_current, open_after}
use Rattle.component_state.proofs.Apart.{any_from, in_either}
use Rattle.journal_core.specs.declared.entry.Entry.{Entry}
use Rattle.scr_laws.specs.Gates.{shuts_nothing}
use Rattle.scr_laws.specs.Entries.{is_still_step}
use Rattle.scr_laws.proofs.Listed.{map_same, mapped_was, none_kept, single}
use Rattle.scr_laws.proofs.StillLaw.{legal_still}
use Rattle.scr_laws.proofs.Stillness.{all_kept, none_added}
use Rattle.scr_laws.proofs.InstanceLemmas.{IsSame, begun_cases, drained_same, told_same}
use Rattle.scr_world.specs.Consequences.{begins_draining, gate_of, is_draining, shut_between}
use Rattle.scr_world.specs.Instances.{BeforeTurn, begun_by, created_at, drained_in, has_failed, is_active_instance, is_active_phase, with_callback_begun, with_effect_of_begin}
use Rattle.scr_world.specs.Legal.{IsLegal}
use Rattle.scr_world.specs.Lists.{world_after_entry, world_of}
use Rattle.scr_world.specs.Steps.{History}
use Rattle.scr_world.specs.Stepping.{before_turn, components_by, instances_by, periods_with, world_after_step}
use Rattle.scr_world.specs.Tables.{bundles_by}
use Rattle.scr_world.specs.Views.{is_ending}
use Rattle.scr_world.specs.declared.instance.Instance.{Instance}
use Rattle.scr_world.specs.declared.step.Step.{Step}
use Rattle.scr_world.specs.declared.step.Step.TheVariants.{Command as Commanded, Begin, End, Drained, Got, Released}
use Rattle.scr_world.specs.declared.world.World.{World}

-- ---- a callback that begins changes neither phase nor failure

phase_begins : (callback : Callback) (phase : Phase) → phase_by callback None phase ≡ phase
phase_begins Create phase = refl
phase_begins (Bind reference service) phase = refl
phase_begins (Updated reference service) phase = refl
phase_begins (Unbind reference service) phase = refl
phase_begins Activate phase = refl
phase_begins Modified phase = refl
phase_begins Deactivate phase = refl
phase_begins Destroy phase = refl

pub phase_stays : (callback : Callback) (phase : Phase) (calls : List Called) → phase_after phase (calls ++ begun callback ∷ []) ≡ phase_after phase calls
phase_stays callback phase [] = phase_begins callback phase
phase_stays callback phase (c ∷ calls) = phase_stays callback (phase_by c.callback c.outcome phase) calls

failed_stays : (callback : Callback) (calls : List Called) → has_failed (calls ++ begun callback ∷ []) ≡ has_failed calls
failed_stays callback [] = go (is_activate callback)
  where
    go : (b : Bool) → ((b && false) || false) ≡ false
    go true = refl
    go false = refl
failed_stays callback (c ∷ calls) = ap (λ b. (is_activate c.callback && is_failed c.outcome) || b) (failed_stays callback calls)

-- ---- what decides whether an instance is drained

pub record DrainsAs (i j : Instance) : Type 0 where
  pub same : IsSame i j
  pub active : is_active_instance i ≡ is_active_instance j
  pub failed : has_failed i.callbacks ≡ has_failed j.callbacks

pub taken_calls : (m : BeforeTurn) (callback : Callback) (i : Instance) → (with_effect_of_begin m callback i).callbacks ≡ i.callbacks
taken_calls m Create i = refl
taken_calls m (Bind reference service) i = refl
taken_calls m (Updated reference service) i = refl
taken_calls m (Unbind reference service) i = refl
taken_calls m Activate i = refl
taken_calls m Modified i = refl
taken_calls m Deactivate i = refl
taken_calls m Destroy i = refl

pub told_drains : (m : BeforeTurn) (turn instance : ℕ) (callback : Callback) (i : Instance) → DrainsAs (with_callback_begun m turn instance callback i) i
told_drains m turn instance callback i = record {
  same = told_same m turn instance callback i;
  active = go_active (i.number == instance);
  failed = go_failed (i.number == instance);
}
  where
    told : Instance
    told = with_effect_of_begin m callback (record i { turn = turn; callbacks = i.callbacks ++ begun callback ∷ [] })

    calls : told.callbacks ≡ i.callbacks ++ begun callback ∷ []
    calls = taken_calls m callback (record i { turn = turn; callbacks = i.callbacks ++ begun callback ∷ [] })

    go_active : (b : Bool) → is_active_instance (cond b told i) ≡ is_active_instance i
    go_active true = ap (λ (cs : List Called). is_active_phase (phase_of cs)) calls ∙ ap is_active_phase (phase_stays callback Making i.callbacks)
    go_active false = refl

    go_failed : (b : Bool) → has_failed (cond b told i).callbacks ≡ has_failed i.callbacks
    go_failed true = ap has_failed calls ∙ failed_stays callback i.callbacks
    go_failed false = refl

pub drained_drains : (instance : ℕ) (i : Instance) → DrainsAs (drained_in instance i) i
drained_drains instance i = record { same = drained_same instance i; active = go_active (i.number == instance); failed = go_failed (i.number == instance) }
  where
    go_active : (b : Bool) → is_active_instance (cond b (record i { drained = true }) i) ≡ is_active_instance i
    go_active true = refl
    go_active false = refl

    go_failed : (b : Bool) → has_failed (cond b (record i { drained = true }) i).callbacks ≡ has_failed i.callbacks
    go_failed true = refl
    go_failed false = refl

itself : (i : Instance) → DrainsAs i i
itself i = record { same = record { number = refl; slot = refl; consumer = refl; service = refl; origin = refl }; active = refl; failed = refl }

module _ (w now : World) (rows : now.bundles.rows ≡ w.bundles.rows) (periods : now.open_periods ≡ w.open_periods) where
  drains_alike : (i j : Instance) → DrainsAs i j → is_draining now i ≡ is_draining w j
  drains_alike i j alike =
      ap (λ bs. is_active_instance i && is_ending bs now.open_periods i) rows
      ∙ ap (λ ps. is_active_instance i && is_ending w.bundles.rows ps i) periods
      ∙ ap (λ b. b && is_ending w.bundles.rows w.open_periods i) alike.active
      ∙ ap (λ o. is_active_instance j && (not (is_current w.open_periods o) || (not (i.consumer == 0) && not (state_is is_active w.bundles.rows i.consumer)) || has_failed i.callbacks)) alike.same.origin
      ∙ ap (λ n. is_active_instance j && (not (is_current w.open_periods j.origin) || (not (n == 0) && not (state_is is_active w.bundles.rows n)) || has_failed i.callbacks)) alike.same.consumer
      ∙ ap (λ b. is_active_instance j && (not (is_current w.open_periods j.origin) || (not (j.consumer == 0) && not (state_is is_active w.bundles.rows j.consumer)) || b)) alike.failed

  -- who was there doesn't begin to be drained
  none_begins : (i j : Instance) → Contains w.instances j → DrainsAs i j → begins_draining w now i ≡ false
  none_begins i j h alike = go (is_draining w j) refl
    where
      go : (b : Bool) → is_draining w j ≡ b → begins_draining w now i ≡ false
      go true on = ap (λ b. is_draining now i && not b) (any_from (λ (k : Instance). (k.number == i.number) && is_draining w k) w.instances j h (and_from (j.number == i.number) (is_draining w j) (eq-eqb j.number i.number (sym alike.same.number)) on)) ∙ never (is_draining now i)
        where
          never : (b : Bool) → (b && false) ≡ false
          never true = refl
          never false = refl
      go false off = ap (λ b. b && not (list_any (λ (k : Instance). (k.number == i.number) && is_draining w k) w.instances)) (drains_alike i j alike ∙ off)

  mapped_begins : (f : Instance → Instance) → ((i : Instance) → DrainsAs (f i) i) → (i : Instance) → Contains (map f w.instances) i → begins_draining w now i ≡ false
  mapped_begins f alike i h = let was = mapped_was f w.instances i h in subst (λ (x : Instance). begins_draining w now x ≡ false) was.1.1 (none_begins (f was.0) was.0 was.1.0 (alike was.0))

  begun_begins : (turn instance configuration consumer : ℕ) (callback : Callback) (chosen : List Choice) (i : Instance) → Contains (begun_by (before_turn w) turn instance configuration consumer callback chosen) i → begins_draining w now i ≡ false
  begun_begins turn instance configuration consumer callback chosen i h = elim (begun_cases callback) [
    | inl create ↦ (
        let new = created_at (before_turn w) turn instance configuration consumer chosen in
        elim (in_either w.instances (new ∷ []) i (subst (λ (c : Callback). Contains (begun_by (before_turn w) turn instance configuration consumer c chosen) i) create h)) [
          | inl old ↦ none_begins i i old (itself i)
          | inr added ↦ subst (λ (x : Instance). begins_draining w now x ≡ false) (single new i added) refl
        ])
    | inr tells ↦ mapped_begins (with_callback_begun (before_turn w) turn instance callback) (told_drains (before_turn w) turn instance callback) i
        (subst (λ (is : List Instance). Contains is i) (tells (before_turn w) turn instance configuration consumer chosen) h)
  ]

  step_begins : (step : Step) → shuts_nothing step ≡ true → (i : Instance) → Contains (instances_by step w) i → begins_draining w now i ≡ false
  step_begins (Commanded command) is i h = cc
  step_begins (Begin turn instance configuration consumer callback chosen) is i h = begun_begins turn instance configuration consumer callback chosen i h
  step_begins (End turn outcome) is i h = cc
  step_begins (Drained instance) is i h = mapped_begins (drained_in instance) (drained_drains instance) i h
  step_begins (Got bundle service) is i h = none_begins i i h (itself i)
  step_begins (Released place) is i h = none_begins i i h (itself i)

-- ---- such an entry leaves bundles and open periods

still_step : (step : Step) (w : World) → shuts_nothing step ≡ true → is_still_step step w ≡ true
still_step (Commanded command) w is = cc
still_step (Begin turn instance configuration consumer callback chosen) w is = refl
still_step (End turn outcome) w is = cc
still_step (Drained instance) w is = refl
still_step (Got bundle service) w is = refl
still_step (Released place) w is = refl

none_resolved : (rows : List BundleLife) (stopped : List ℕ) → stopped ≡ [] → map (resolved_among stopped) rows ≡ rows
none_resolved rows stopped none = ap (λ ns. map (resolved_among ns) rows) none ∙ map_same (resolved_among []) rows (λ b h. refl)

none_opened : (place : ℕ) (cs : List Component) (entry : Entry Step) (before : List OpenPeriod) → entry.closed ≡ [] → entry.opened ≡ [] → open_after place cs entry.closed entry.opened before ≡ before
none_opened place cs entry before closed opened =
    ap (λ ns. open_after place cs ns entry.opened before) closed ∙ ap (λ os. open_after place cs [] os before) opened ∙ none_added (filter (λ (p : OpenPeriod). true) before) ∙ all_kept before

module _ (limit : ℕ) (entry : Entry Step) (past : History) (legal : IsLegal limit (entry ∷ past)) (is : shuts_nothing entry.step ≡ true) where
  lists : (entry.closed ≡ []) × (entry.opened ≡ []) × (entry.stopped ≡ [])
  lists = legal_still limit entry past legal (still_step entry.step (world_of past) is)

  rows_then : (world_of (entry ∷ past)).bundles.rows ≡ (world_of past).bundles.rows
  unfolding world_of world_after_entry world_after_step
  rows_then = go entry.step is
    where
      go : (step : Step) → shuts_nothing step ≡ true → map (resolved_among entry.stopped) (bundles_by step (world_of past).bundles).rows ≡ (world_of past).bundles.rows
      go (Commanded command) k = cc
      go (Begin turn instance configuration consumer callback chosen) k = none_resolved (world_of past).bundles.rows entry.stopped lists.2
      go (End turn outcome) k = cc
      go (Drained instance) k = none_resolved (world_of past).bundles.rows entry.stopped lists.2
      go (Got bundle service) k = none_resolved (world_of past).bundles.rows entry.stopped lists.2
      go (Released place) k = none_resolved (world_of past).bundles.rows entry.stopped lists.2

  pub periods_then : (world_of (entry ∷ past)).open_periods ≡ (world_of past).open_periods
  unfolding world_of world_after_entry world_after_step
  periods_then = go entry.step is
    where
      go : (step : Step) → shuts_nothing step ≡ true → open_after (world_of past).entries (components_by step (world_of past)) entry.closed entry.opened (periods_with step (components_by step (world_of past)) (world_of past).open_periods) ≡ (world_of past).open_periods
      go (Commanded command) k = cc
      go (Begin turn instance configuration consumer callback chosen) k = none_opened (world_of past).entries (world_of past).components entry (world_of past).open_periods lists.0 lists.1
      go (End turn outcome) k = cc
      go (Drained instance) k = none_opened (world_of past).entries (world_of past).components entry (world_of past).open_periods lists.0 lists.1
      go (Got bundle service) k = none_opened (world_of past).entries (world_of past).components entry (world_of past).open_periods lists.0 lists.1
      go (Released place) k = none_opened (world_of past).entries (world_of past).components entry (world_of past).open_periods lists.0 lists.1

  instances_then : (i : Instance) → Contains (world_of (entry ∷ past)).instances i → Contains (instances_by entry.step (world_of past)) i
  unfolding world_of world_after_entry world_after_step
  instances_then i h = h

  pub nothing_shut : shut_between (world_of past) (world_of (entry ∷ past)) ≡ []
  unfolding shut_between
  nothing_shut = ap (map gate_of) (none_kept (begins_draining (world_of past) (world_of (entry ∷ past))) (world_of (entry ∷ past)).instances
      (λ i h. step_begins (world_of past) (world_of (entry ∷ past)) rows_then periods_then entry.step is i (instances_then i h)))
