-- An instance that is ending goes on ending, one that was told of Deactivate is ending, and one whose activation failed is of a period that has ended.
use Rattle.std.proofs.Common.{◌≡◌, ◌≤◌, ◌<◌, ℕ, List, [], ◌∷◌, ◌++◌, ap, sym, ◌∙◌, refl, subst, cond, arith, Bool, true, false, ◌&&◌, ◌||◌, inl, inr, ◌⊎◌, Option, Some, None}
use Rattle.std.specs.Prelude.{filter, is_none, map, nat_lt, not, option_and_then, option_map, ◌==◌}
use Rattle.std.specs.List.{Contains}
use Rattle.std.specs.Option.{option_map_or}
use Rattle.std.proofs.lemmas.Bool.{and_from, and_parts, both_ways, cases_Bool, cond-true, eq-eqb, eqb-true, ltb-true, or_right}
use Rattle.bundle_life.specs.declared.bundle.BundleLife.{BundleLife}
use Rattle.bundle_life.specs.declared.bundle.BundleState.TheVariants.{Installed, Resolved, Stopping, Active}
use Rattle.bundle_life.specs.Lives.{bundle_of, in_state, is_active, is_stopping, renamed, resolved_among, state_is}
use Rattle.callback_orders.specs.declared.callback.Callback.TheVariants.{Deactivate}
use Rattle.callback_orders.specs.declared.callback.Outcome.{Outcome}
use Rattle.callback_orders.specs.declared.due.DueRef.{DueRef}
use Rattle.callback_orders.specs.declared.due.DueRef.TheVariants.{Create as CreateDue, Bind as BindDue, Updated as UpdatedDue, Unbind as UnbindDue, Activate as ActivateDue, Modified as ModifiedDue, Deactivate as DeactivateDue, Destroy as DestroyDue}
use Rattle.callback_orders.specs.declared.instance_view.InstanceView.{InstanceView}
use Rattle.callback_orders.specs.Grammar.{is_activate, is_create}
use Rattle.callback_orders.specs.Lives.{callback_of}
use Rattle.callback_orders.specs.Sequences.{is_failed}
use Rattle.component_state.specs.declared.component.Component.{Component}
use Rattle.component_state.specs.declared.open_period.OpenPeriod.{OpenPeriod}
use Rattle.component_state.specs.declared.origin.Origin.{Origin}
use Rattle.component_state.specs.Components.{exists}
use Rattle.component_state.specs.Periods.{is_current, is_open, open_after, opened_at}
use Rattle.component_state.proofs.Apart.{any_found, any_from, in_either, in_first, in_none, key_in, kept_from, kept_was, not_true, one_of}
use Rattle.journal_core.specs.declared.entry.Entry.{Entry}
use Rattle.journal_core.specs.declared.entry.Opened.{Opened}
use Rattle.prop_map.specs.Words.{first_some, has}
use Rattle.scr_promises.specs.Endings.{EndInTime, GoOnEnding, has_deactivate, outlives_consumer}
use Rattle.scr_promises.proofs.CallbackLists.{EndsActivation, deactivate_begun, deactivate_ended, failed_begun, failed_ended, has_left}
use Rattle.scr_promises.proofs.Comings.{IsNext, IsSeen, WasBefore, closes, comes_about, gains, its_number, keeps, one_made, whiteboard}
use Rattle.scr_promises.proofs.DueCallbacks.{due_stands}
use Rattle.scr_laws.proofs.LivingLaws.{legal_told}
use Rattle.scr_laws.proofs.TurnCallbacks.{are_told_apart}
use Rattle.scr_laws.proofs.Described.{none_first, not_refused, second}
use Rattle.scr_laws.proofs.Legal.{legal_scratch, open_lives}
use Rattle.scr_laws.proofs.Listed.{found_was, mapped_was}
use Rattle.scr_laws.proofs.ReadyStages.{current_same, legal_ready, open_unmarked}
use Rattle.scr_laws.proofs.Sounding.{found_map, found_number, is_up, legal_created, resolved_number, up_bundle}
use Rattle.scr_laws.proofs.StoppingBundles.{found_kept}
use Rattle.scr_laws.proofs.InstanceLemmas.{IsMade, ended_same, told_same}
use Rattle.scr_laws.proofs.Numbering.{made_is_next}
use Rattle.scr_laws.proofs.ConsumerLaws.{IsFor, legal_consumers}
use Rattle.scr_laws.proofs.OwnerLaws.{in_state_number, renamed_number}
use Rattle.scr_world.specs.Consequences.{stage_in, stage_of}
use Rattle.scr_world.specs.Dues.{names_of}
use Rattle.scr_world.specs.Instances.{has_failed, has_turn, last_is}
use Rattle.scr_world.specs.Legal.{IsLegal, MayCome}
use Rattle.scr_world.specs.Lists.{world_after_entry, world_of}
use Rattle.scr_world.specs.Refusals.{components_full, lowest_keeping, no_bundle, of_known_bundle, refuse_if, still_stopping}
use Rattle.scr_world.specs.Steps.{History}
use Rattle.scr_world.specs.Stepping.{before_turn, components_by, ending_in, failing, instances_by, periods_with, whiteboard_by, world_after_step}
use Rattle.scr_world.specs.Tables.{bundles_by}
use Rattle.scr_world.specs.Views.{ends}
use Rattle.scr_world.specs.declared.command.Command.TheVariants.{Install, Update, Start, Stop, Uninstall, Enable, Disable, Register, Unregister, SetProperties, Get, Unget, Listen, Unlisten, Configure, ConfigureFactory, Unconfigure}
use Rattle.scr_world.specs.declared.instance.Instance.{Instance}
use Rattle.scr_world.specs.declared.reply.CoreFault.{CoreFault}
use Rattle.scr_world.specs.declared.reply.CoreFault.TheVariants.{Stopping as StoppingStill}
use Rattle.scr_world.specs.declared.step.Step.{Step}
use Rattle.scr_world.specs.declared.step.Step.TheVariants.{Command as Commanded, Begin, End, Drained, Got, Released}
use Rattle.scr_world.specs.declared.world.World.{World}

-- ---- the whiteboard's instance has the number 0

pub board_number : (past : History) → (world_of past).whiteboard.number ≡ 0
unfolding world_of world_after_entry world_after_step
board_number [] = refl
board_number (entry ∷ past) = go (board_number past) entry.step
  where
    go : (world_of past).whiteboard.number ≡ 0 → (step : Step) → (whiteboard_by step (world_of past)).number ≡ 0
    go was (Commanded command) = was
    go was (Begin turn instance configuration consumer callback chosen) = (told_same (before_turn (world_of past)) turn instance callback (world_of past).whiteboard).number ∙ was
    go was (End turn outcome) = (ended_same turn outcome (world_of past).generations (world_of past).whiteboard).number ∙ was
    go was (Drained instance) = was
    go was (Got bundle service) = was
    go was (Released place) = was

-- ---- a period that has ended doesn't come back

pub current_was : (place : ℕ) (cs : List Component) (closed : List ℕ) (opened : List Opened) (before : List OpenPeriod) (o : Origin) → o.created ≤ place → is_current (open_after place cs closed opened before) o ≡ true → is_current before o ≡ true
current_was place cs closed opened before o low current =
    let q = any_found (λ (p : OpenPeriod). (p.configuration == o.configuration) && nat_lt p.opened o.created) (open_after place cs closed opened before) current in
    elim (in_either (filter (λ (p : OpenPeriod). not (has closed p.configuration)) before) (map (opened_at place cs) opened) q.0 q.1) [
      | inl old ↦ any_from (λ (p : OpenPeriod). (p.configuration == o.configuration) && nat_lt p.opened o.created) before q.0 (kept_was (λ (p : OpenPeriod). not (has closed p.configuration)) before q.0 old).0 q.2
      | inr new ↦ (
          let was = mapped_was (opened_at place cs) opened q.0 new in
          let here = ap (λ (p : OpenPeriod). p.opened) was.1.1 in
          let early = ltb-true q.0.opened o.created (and_parts (q.0.configuration == o.configuration) (nat_lt q.0.opened o.created) q.2).1 in
          absurd (omega (arith, early, here, low)))
    ]

pub current_open : (ps : List OpenPeriod) (o : Origin) → is_current ps o ≡ true → is_open ps o.configuration ≡ true
current_open ps o current =
    let p = any_found (λ (q : OpenPeriod). (q.configuration == o.configuration) && nat_lt q.opened o.created) ps current in
    any_from (λ (q : OpenPeriod). q.configuration == o.configuration) ps p.0 p.1 (and_parts (p.0.configuration == o.configuration) (nat_lt p.0.opened o.created) p.2).0

off_from : (a b : Bool) → (a ≡ true → b ≡ true) → b ≡ false → a ≡ false
off_from true b to off = sym (to refl) ∙ off
off_from false b to off = refl

-- ---- a bundle for which an instance was made isn't started before the instance is gone

abbrev is_active_at : List BundleLife → ℕ → Bool
is_active_at rows n = state_is is_active rows n

inactive_mapped : (f : BundleLife → BundleLife) → ((b : BundleLife) → (f b).number ≡ b.number) → (rows : List BundleLife) (n : ℕ)
    → ((b : BundleLife) → bundle_of rows n ≡ Some b → is_active b.state ≡ false → is_active (f b).state ≡ false) → is_active_at rows n ≡ false → is_active_at (map f rows) n ≡ false
inactive_mapped f same rows n stays off = ap (λ o. option_map_or (λ (b : BundleLife). is_active b.state) o false) (found_map f same rows n) ∙ go (bundle_of rows n) refl off
  where
    go : (o : Option BundleLife) → bundle_of rows n ≡ o → option_map_or (λ (b : BundleLife). is_active b.state) o false ≡ false → option_map_or (λ (b : BundleLife). is_active b.state) (option_map f o) false ≡ false
    go None is h = refl
    go (Some b) is h = stays b is h

found_over : (rows more : List BundleLife) (n : ℕ) → is_up rows n ≡ true → bundle_of (rows ++ more) n ≡ bundle_of rows n
found_over [] more n up = cc
found_over (b ∷ bs) more n up = go (b.number == n) up (found_over bs more n)
  where
    go : (k : Bool) → option_map_or up_bundle (cond k (Some b) (bundle_of bs n)) false ≡ true → (is_up bs n ≡ true → bundle_of (bs ++ more) n ≡ bundle_of bs n) → cond k (Some b) (bundle_of (bs ++ more) n) ≡ cond k (Some b) (bundle_of bs n)
    go true h rest = refl
    go false h rest = rest h

removed : (rows : List BundleLife) (n bundle : ℕ) → is_active_at rows n ≡ false → is_active_at (filter (λ (b : BundleLife). not (b.number == bundle)) rows) n ≡ false
removed rows n bundle off = elim (cases_Bool (n == bundle)) [
  | inl same ↦ gone (eqb-true n bundle same) (bundle_of (filter (λ (b : BundleLife). not (b.number == bundle)) rows) n) refl
  | inr other ↦ ap (λ o. option_map_or (λ (b : BundleLife). is_active b.state) o false)
      (found_kept (λ (b : BundleLife). b.number == n) (λ (b : BundleLife). not (b.number == bundle)) rows (λ b is. ap not (ap (λ m. m == bundle) (eqb-true b.number n is) ∙ other))) ∙ off
]
  where
    gone : n ≡ bundle → (o : Option BundleLife) → bundle_of (filter (λ (b : BundleLife). not (b.number == bundle)) rows) n ≡ o → option_map_or (λ (b : BundleLife). is_active b.state) o false ≡ false
    gone same None is = refl
    gone same (Some b) is =
        let found = found_was (λ (x : BundleLife). x.number == n) (filter (λ (x : BundleLife). not (x.number == bundle)) rows) b is in
        absurd (both_ways (b.number == bundle) (not_true (b.number == bundle) (kept_was (λ (x : BundleLife). not (x.number == bundle)) rows b found.0).1) (ap (λ m. b.number == m) (sym same) ∙ found.1))

stops : (o : Option BundleLife) (b : BundleLife) (fault : CoreFault) → o ≡ Some b → is_stopping b.state ≡ true → option_and_then (λ (x : BundleLife). refuse_if (is_stopping x.state) fault) o ≡ Some fault
stops None b fault is on = cc
stops (Some c) b fault is on = let same : c ≡ b = cc in ap (λ k. refuse_if k fault) (ap (λ (x : BundleLife). is_stopping x.state) same ∙ on)

never : (fault : CoreFault) → Some fault ≡ None → ⊥
never fault e = cc

module _ (w : World) where
  start_other : (bundle n : ℕ) → MayCome w (Commanded (Start bundle)) → is_up w.bundles.rows n ≡ true → is_active_at w.bundles.rows n ≡ false → (n == bundle) ≡ false
  start_other bundle n may up off = elim (cases_Bool (n == bundle)) [
    | inl same ↦ absurd (wrong (eqb-true n bundle same))
    | inr other ↦ other
  ]
    where
      test : BundleLife → Option CoreFault
      test b = cond (is_active b.state) None (first_some (still_stopping w bundle ∷ components_full w (Start bundle) ∷ []))

      refused : (b : BundleLife) → bundle_of w.bundles.rows bundle ≡ Some b → is_stopping b.state ≡ true → first_some (still_stopping w bundle ∷ components_full w (Start bundle) ∷ []) ≡ None → ⊥
      refused b is on none = never (StoppingStill (lowest_keeping w bundle)) (sym (stops (bundle_of w.bundles.rows bundle) b (StoppingStill (lowest_keeping w bundle)) is on)
          ∙ none_first (still_stopping w bundle ∷ components_full w (Start bundle) ∷ []) (ap is_none none) (still_stopping w bundle) (in_first (still_stopping w bundle) (components_full w (Start bundle) ∷ [])))

      at : (o : Option BundleLife) → bundle_of w.bundles.rows bundle ≡ o → option_map_or up_bundle o false ≡ true → option_map_or (λ (b : BundleLife). is_active b.state) o false ≡ false → option_and_then test o ≡ None → ⊥
      at None is h k none = cc
      at (Some b) is h k none = refused b is (sym (ap (λ a. a || is_stopping b.state) k) ∙ h) (sym (ap (λ a. cond a None (first_some (still_stopping w bundle ∷ components_full w (Start bundle) ∷ []))) k) ∙ none)

      wrong : n ≡ bundle → ⊥
      wrong same = at (bundle_of w.bundles.rows bundle) refl (ap (is_up w.bundles.rows) (sym same) ∙ up) (ap (is_active_at w.bundles.rows) (sym same) ∙ off)
          (none_first (no_bundle w bundle ∷ of_known_bundle w bundle test ∷ []) (not_refused w (Start bundle) may).0 (of_known_bundle w bundle test) (second (no_bundle w bundle) (of_known_bundle w bundle test) []))

  inactive_by : (step : Step) → MayCome w step → (n : ℕ) → is_up w.bundles.rows n ≡ true → is_active_at w.bundles.rows n ≡ false → is_active_at (bundles_by step w.bundles).rows n ≡ false
  inactive_by (Commanded (Install doc)) may n up off = ap (λ o. option_map_or (λ (b : BundleLife). is_active b.state) o false) (found_over w.bundles.rows _ n up) ∙ off
  inactive_by (Commanded (Update bundle doc)) may n up off = inactive_mapped (renamed bundle doc.name doc.version) (renamed_number bundle doc.name doc.version) w.bundles.rows n (λ b is was. go b (b.number == bundle) was) off
    where
      go : (b : BundleLife) (k : Bool) → is_active b.state ≡ false → is_active (cond k (record b { name = doc.name; version = doc.version; state = Installed }) b).state ≡ false
      go b true was = refl
      go b false was = was
  inactive_by (Commanded (Start bundle)) may n up off = inactive_mapped (in_state bundle Active) (in_state_number bundle Active) w.bundles.rows n
      (λ b is was. ap (λ k. is_active (cond k (record b { state = Active }) b).state) (ap (λ m. m == bundle) (found_number w.bundles.rows n b is) ∙ start_other bundle n may up off) ∙ was) off
  inactive_by (Commanded (Stop bundle)) may n up off = inactive_mapped (in_state bundle Stopping) (in_state_number bundle Stopping) w.bundles.rows n (λ b is was. go b (b.number == bundle) was) off
    where
      go : (b : BundleLife) (k : Bool) → is_active b.state ≡ false → is_active (cond k (record b { state = Stopping }) b).state ≡ false
      go b true was = refl
      go b false was = was
  inactive_by (Commanded (Uninstall bundle)) may n up off = removed w.bundles.rows n bundle off
  inactive_by (Commanded (Enable bundle name)) may n up off = off
  inactive_by (Commanded (Disable bundle name)) may n up off = off
  inactive_by (Commanded (Register bundle interfaces properties)) may n up off = off
  inactive_by (Commanded (Unregister bundle service)) may n up off = off
  inactive_by (Commanded (SetProperties bundle service properties)) may n up off = off
  inactive_by (Commanded (Get bundle service)) may n up off = off
  inactive_by (Commanded (Unget bundle service)) may n up off = off
  inactive_by (Commanded (Listen bundle test)) may n up off = off
  inactive_by (Commanded (Unlisten listener)) may n up off = off
  inactive_by (Commanded (Configure pid given)) may n up off = off
  inactive_by (Commanded (ConfigureFactory factory name given)) may n up off = off
  inactive_by (Commanded (Unconfigure pid)) may n up off = off
  inactive_by (Begin turn instance configuration consumer callback chosen) may n up off = off
  inactive_by (End turn outcome) may n up off = off
  inactive_by (Drained instance) may n up off = off
  inactive_by (Got bundle service) may n up off = off
  inactive_by (Released place) may n up off = off

  -- who is for a bundle, and outlives it
  outlives_up : (i : Instance) → IsFor w.bundles.rows i.consumer → outlives_consumer w i ≡ true → is_up w.bundles.rows i.consumer ≡ true
  outlives_up i (inl all) on = absurd (both_ways (i.consumer == 0) (not_true (i.consumer == 0) (and_parts (not (i.consumer == 0)) (not (is_active_at w.bundles.rows i.consumer)) on).0) (eq-eqb i.consumer 0 all))
  outlives_up i (inr up) on = up

  -- a creation or activation fails in an open period
  fails_in : (turn : ℕ) (outcome : Outcome) (j : Instance) → Contains w.instances j → has_turn turn j ≡ true → EndsActivation outcome j.callbacks → is_current w.open_periods j.origin ≡ true → has (failing (End turn outcome) w) j.origin.configuration ≡ true
  fails_in turn outcome j h its ends_so current =
      ap (λ ns. has ns j.origin.configuration) (cond-true (is_failed (Some outcome)) (map (λ (i : Instance). i.origin.configuration) (ending_in turn w)) [] ends_so.0)
      ∙ key_in (λ (i : Instance). i.origin.configuration) (ending_in turn w) j
      (kept_from (λ (i : Instance). has_turn turn i && ((last_is is_create i.callbacks || last_is is_activate i.callbacks) && is_current w.open_periods i.origin)) w.instances j h
      (and_from (has_turn turn j) ((last_is is_create j.callbacks || last_is is_activate j.callbacks) && is_current w.open_periods j.origin) its
      (and_from (last_is is_create j.callbacks || last_is is_activate j.callbacks) (is_current w.open_periods j.origin) (or_right (last_is is_create j.callbacks) (last_is is_activate j.callbacks) ends_so.1) current)))

pub deactivates_due : (names : List (List ℕ)) (d : DueRef) → callback_of names d ≡ Deactivate → (n : ℕ) × (d ≡ DeactivateDue n)
deactivates_due names (CreateDue key) is = cc
deactivates_due names (BindDue i r s) is = cc
deactivates_due names (UpdatedDue i r s) is = cc
deactivates_due names (UnbindDue i r s) is = cc
deactivates_due names (ActivateDue i) is = cc
deactivates_due names (ModifiedDue i) is = cc
deactivates_due names (DeactivateDue i) is = (i, refl)
deactivates_due names (DestroyDue i) is = cc

-- ---- after an entry

abbrev pub FailedArePast : World → Type 0
FailedArePast w = (i : Instance) → Contains w.instances i → has_failed i.callbacks ≡ true → is_current w.open_periods i.origin ≡ false

abbrev pub DeactivatedEnd : World → Type 0
DeactivatedEnd w = (i : Instance) → Contains w.instances i → has_deactivate i.callbacks ≡ true → ends w i ≡ true

abbrev EndsBy : World → Instance → Type 0
EndsBy w i = (is_current w.open_periods i.origin ≡ false) ⊎ (outlives_consumer w i ≡ true)

or_three : (a b c : Bool) → (a || b || c) ≡ true → (a ≡ true) ⊎ ((b ≡ true) ⊎ (c ≡ true))
or_three true b c e = inl refl
or_three false true c e = inr (inl refl)
or_three false false true e = inr (inr refl)
or_three false false false e = cc

first_of_three : (a b c : Bool) → a ≡ true → (a || b || c) ≡ true
first_of_three true true c e = refl
first_of_three true false c e = refl
first_of_three false b c e = cc

second_of_three : (a b c : Bool) → b ≡ true → (a || b || c) ≡ true
second_of_three true true c e = refl
second_of_three false true c e = refl
second_of_three a false c e = cc

ends_by : (w : World) (i : Instance) → EndsBy w i → ends w i ≡ true
ends_by w i (inl over) = first_of_three (not (is_current w.open_periods i.origin)) (outlives_consumer w i) (has_failed i.callbacks) (ap not over)
ends_by w i (inr alone) = second_of_three (not (is_current w.open_periods i.origin)) (outlives_consumer w i) (has_failed i.callbacks) alone

by_ends : (w : World) → FailedArePast w → (i : Instance) → Contains w.instances i → ends w i ≡ true → EndsBy w i
by_ends w failed i h on = elim (or_three (not (is_current w.open_periods i.origin)) (outlives_consumer w i) (has_failed i.callbacks) on) [
  | inl over ↦ inl (not_true (is_current w.open_periods i.origin) over)
  | inr later ↦ elim later [
    | inl alone ↦ inr alone
    | inr fails ↦ inl (failed i h fails)
  ]
]

module _ (limit : ℕ) (entry : Entry Step) (past : History) (legal : IsLegal limit (entry ∷ past)) where
  abbrev w : World
  w = world_of past

  abbrev then : World
  then = world_of (entry ∷ past)

  instances_then : (i : Instance) → Contains then.instances i → Contains (instances_by entry.step w) i
  unfolding world_of world_after_entry world_after_step
  instances_then i h = h

  abbrev Comes : Instance → Type 0
  Comes i = WasBefore w entry.step i ⊎ IsMade entry.step w i

  pub comes : (i : Instance) → Contains then.instances i → Comes i
  comes i h = comes_about w (are_told_apart limit past legal.1).numbers (board_number past) entry.step legal.0.step i (instances_then i h)

  -- an ended period
  pub over_then : (o : Origin) → o.created < w.entries → is_current w.open_periods o ≡ false → is_current then.open_periods o ≡ false
  unfolding world_of world_after_entry world_after_step
  over_then o low over = off_from (is_current then.open_periods o) (is_current w.open_periods o)
      (λ on. sym (current_same entry.step (components_by entry.step w) w.open_periods o) ∙ current_was w.entries (components_by entry.step w) entry.closed entry.opened (periods_with entry.step (components_by entry.step w) w.open_periods) o (omega (arith, low)) on) over

  marked_then : (n : ℕ) → has (failing entry.step w) n ≡ true → exists then.components n ≡ true → has then.failed n ≡ true
  unfolding world_of world_after_entry world_after_step stage_of stage_in
  marked_then n = (legal_ready limit past legal.1 entry.step legal.0.step).marked n

  failing_closes : (n : ℕ) → has (failing entry.step w) n ≡ true → is_open then.open_periods n ≡ true → ⊥
  failing_closes n fails opened =
      let p = any_found (λ (q : OpenPeriod). q.configuration == n) then.open_periods opened in
      let c = open_lives then (legal_scratch limit (entry ∷ past) legal) p.0 p.1 in
      let same = sym c.3 ∙ eqb-true p.0.configuration n p.2 in
      let there = any_from (λ (x : Component). (x.number == n) && x.exists) then.components c.0 c.1 (and_from (c.0.number == n) c.0.exists (eq-eqb c.0.number n same) c.2) in
      both_ways (has then.failed n) (open_unmarked then (legal_scratch limit (entry ∷ past) legal) n opened) (marked_then n fails there)

  over_with : (i : Instance) (was : WasBefore w entry.step i) → is_current w.open_periods was.was.origin ≡ false → is_current then.open_periods i.origin ≡ false
  over_with i was over = over_then i.origin (subst (λ (o : Origin). o.created < w.entries) (sym was.same.origin) (legal_created limit past legal.1 was.was was.there)) (ap (is_current w.open_periods) was.same.origin ∙ over)

  module _ (failed : FailedArePast w) where
    failed_by_calls : (i : Instance) (was : WasBefore w entry.step i) → IsNext w entry.step was.was i.callbacks → has_failed i.callbacks ≡ true → is_current then.open_periods i.origin ≡ false
    failed_by_calls i was (keeps is) on = over_with i was (failed was.was was.there (ap has_failed (sym is) ∙ on))
    failed_by_calls i was (gains v seen due is_due begins is) on =
        over_with i was (failed was.was was.there (sym (failed_begun was.was.callbacks (callback_of (names_of w was.was) due)) ∙ ap has_failed (sym is) ∙ on))
    failed_by_calls i was (closes turn outcome is_end its is) on = elim (failed_ended outcome was.was.callbacks (ap has_failed (sym is) ∙ on)) [
      | inl before ↦ over_with i was (failed was.was was.there before)
      | inr ends_so ↦ elim (cases_Bool (is_current w.open_periods was.was.origin)) [
        | inr over ↦ over_with i was over
        | inl current ↦ off_from (is_current then.open_periods i.origin) false (λ on_then. absurd (failing_closes i.origin.configuration
            (ap (λ (s : Step). has (failing s w) i.origin.configuration) is_end ∙ ap (λ (o : Origin). has (failing (End turn outcome) w) o.configuration) was.same.origin ∙ fails_in w turn outcome was.was was.there its ends_so current)
            (current_open then.open_periods i.origin on_then))) refl
      ]
    ]

    failed_if : (i : Instance) → Comes i → has_failed i.callbacks ≡ true → is_current then.open_periods i.origin ≡ false
    failed_if i (inl was) on = failed_by_calls i was was.calls on
    failed_if i (inr made) on = (let none : false ≡ true = ap (λ (x : Instance). has_failed x.callbacks) made.4.1.1 ∙ on in cc)

    pub failed_then : FailedArePast then
    failed_then i h on = failed_if i (comes i h) on

    -- who was ending is ending
    inactive_then : (n : ℕ) → is_up w.bundles.rows n ≡ true → is_active_at w.bundles.rows n ≡ false → is_active_at then.bundles.rows n ≡ false
    unfolding world_of world_after_entry world_after_step
    inactive_then n up off = inactive_mapped (resolved_among entry.stopped) (resolved_number entry.stopped) (bundles_by entry.step w.bundles).rows n (λ b is was. go b (has entry.stopped b.number) was) (inactive_by w entry.step legal.0.step n up off)
      where
        go : (b : BundleLife) (k : Bool) → is_active b.state ≡ false → is_active (cond k (record b { state = Resolved }) b).state ≡ false
        go b true was = refl
        go b false was = was

    goes_on : (i : Instance) (was : WasBefore w entry.step i) → EndsBy w was.was → EndsBy then i
    goes_on i was (inl over) = inl (over_with i was over)
    goes_on i was (inr alone) =
        let both = and_parts (not (was.was.consumer == 0)) (not (is_active_at w.bundles.rows was.was.consumer)) alone in
        let off = inactive_then was.was.consumer (outlives_up w was.was (legal_consumers limit past legal.1 was.was was.there) alone) (not_true (is_active_at w.bundles.rows was.was.consumer) both.1) in
        inr (ap (λ n. not (n == 0) && not (is_active_at then.bundles.rows n)) was.same.consumer ∙ and_from (not (was.was.consumer == 0)) (not (is_active_at then.bundles.rows was.was.consumer)) both.0 (ap not off))

    ending_with : (i : Instance) (was : WasBefore w entry.step i) → ends w was.was ≡ true → ends then i ≡ true
    ending_with i was on = ends_by then i (goes_on i was (by_ends w failed was.was was.there on))

    module _ (told : DeactivatedEnd w) where
      ending_seen : (i : Instance) (v : InstanceView) → IsSeen w i v → v.ending ≡ true → ends w i ≡ true
      ending_seen i v (one_made h is) on = ap (λ (x : InstanceView). x.ending) (sym is) ∙ on
      ending_seen i v (whiteboard same is) on = (let none : false ≡ true = ap (λ (x : InstanceView). x.ending) (sym is) ∙ on in cc)

      told_by_calls : (i : Instance) (was : WasBefore w entry.step i) → IsNext w entry.step was.was i.callbacks → has_deactivate i.callbacks ≡ true → ends then i ≡ true
      told_by_calls i was (keeps is) on = ending_with i was (told was.was was.there (ap has_deactivate (sym is) ∙ on))
      told_by_calls i was (closes turn outcome is_end its is) on = ending_with i was (told was.was was.there (sym (deactivate_ended outcome was.was.callbacks) ∙ ap has_deactivate (sym is) ∙ on))
      told_by_calls i was (gains v seen due is_due begins is) on = elim (deactivate_begun was.was.callbacks (callback_of (names_of w was.was) due) (ap has_deactivate (sym is) ∙ on)) [
        | inl before ↦ ending_with i was (told was.was was.there before)
        | inr now ↦ (
            let found = deactivates_due (names_of w was.was) due now in
            let stands = due_stands v (DeactivateDue found.0) (is_due ∙ ap Some found.1) in
            ending_with i was (ending_seen was.was v seen stands.1.ending))
      ]

      told_if : (i : Instance) → Comes i → has_deactivate i.callbacks ≡ true → ends then i ≡ true
      told_if i (inl was) on = told_by_calls i was was.calls on
      told_if i (inr made) on = (let none : false ≡ true = ap (λ (x : Instance). has_deactivate x.callbacks) made.4.1.1 ∙ on in cc)

      pub told_then : DeactivatedEnd then
      told_then i h on = told_if i (comes i h) on

  -- ---- the same instance in both worlds

  pub same_one : (i j : Instance) → Contains w.instances i → i.number ≡ j.number → Comes j → (was : WasBefore w entry.step j) × (was.was ≡ i)
  same_one i j h number (inl was) = (was, one_of its_number w.instances (legal_told limit past legal.1).numbers was.was i was.there h (sym was.same.number ∙ sym number))
  same_one i j h number (inr made) =
      let next = made_is_next w made.0 made.1 made.2 made.3 made.4.0 (subst (λ (s : Step). MayCome w s) made.4.1.0 legal.0.step) in
      let is = ap (λ (x : Instance). x.number) made.4.1.1 in
      let low = (legal_told limit past legal.1).numbered i h in
      absurd (omega (arith, next, is, low, number))

  going_on : FailedArePast w → GoOnEnding w then
  going_on failed = record {
    ending = λ i j h k number on. let one = same_one i j h number (comes j k) in ending_with failed j one.0 (ap (ends w) one.1 ∙ on);
    period = λ i j h k number over. let one = same_one i j h number (comes j k) in over_with j one.0 (ap (λ (x : Instance). is_current w.open_periods x.origin) one.1 ∙ over);
  }

-- ---- over a journal

pub none_at_first : (i : Instance) → Contains (world_of []).instances i → ⊥
unfolding world_of
none_at_first i h = in_none i h

pub failed_are_past : (limit : ℕ) (past : History) → IsLegal limit past → FailedArePast (world_of past)
failed_are_past limit [] legal = λ i h on. absurd (none_at_first i h)
failed_are_past limit (entry ∷ past) legal = failed_then limit entry past legal (failed_are_past limit past legal.1)

pub deactivated_end : (limit : ℕ) (past : History) → IsLegal limit past → DeactivatedEnd (world_of past)
deactivated_end limit [] legal = λ i h on. absurd (none_at_first i h)
deactivated_end limit (entry ∷ past) legal = told_then limit entry past legal (failed_are_past limit past legal.1) (deactivated_end limit past legal.1)

or_off : (a b c : Bool) → (c ≡ true → a ≡ true) → (a || b || c) ≡ (a || b)
or_off true true c to = refl
or_off true false c to = refl
or_off false true c to = refl
or_off false false true to = sym (to refl)
or_off false false false to = refl

pub end_in_time : (limit : ℕ) (past : History) → IsLegal limit past → EndInTime (world_of past)
end_in_time limit past legal = record {
  deactivated = deactivated_end limit past legal;
  left = λ i h is. elim (has_left i.callbacks is) [
    | inl told ↦ deactivated_end limit past legal i h told
    | inr failed ↦ ends_by (world_of past) i (inl (failed_are_past limit past legal i h failed))
  ];
  failed = failed_are_past limit past legal;
  reasons = λ i h. or_off (not (is_current (world_of past).open_periods i.origin)) (outlives_consumer (world_of past) i) (has_failed i.callbacks) (λ failed. ap not (failed_are_past limit past legal i h failed));
}

pub go_on_ending : (limit : ℕ) (entry : Entry Step) (past : History) → IsLegal limit (entry ∷ past) → GoOnEnding (world_of past) (world_of (entry ∷ past))
go_on_ending limit entry past legal = going_on limit entry past legal (failed_are_past limit past legal.1)
