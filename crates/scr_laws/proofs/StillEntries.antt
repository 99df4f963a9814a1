-- Still entries: nothing closes, opens or stops.
use Rattle.std.proofs.Common.{◌≡◌, ℕ, List, [], ap, sym, ◌∙◌, refl, subst, true}
use Rattle.std.specs.Prelude.{filter, map, ◌==◌}
use Rattle.bundle_life.specs.declared.bundle.BundleLife.{BundleLife}
use Rattle.callback_orders.specs.declared.callback.Callback.{Callback}
use Rattle.callback_orders.specs.declared.callback.Callback.TheVariants.{Create, Bind, Updated, Unbind, Activate, Modified, Deactivate, Destroy}
use Rattle.component_state.specs.declared.component.Component.{Component}
use Rattle.component_state.specs.declared.origin.Choice.{Choice}
use Rattle.component_state.specs.ComponentConfigurations.{components_after}
use Rattle.journal_core.specs.declared.entry.Entry.{Entry}
use Rattle.scr_world.specs.declared.step.Step.{Step}
use Rattle.scr_world.specs.declared.step.Step.TheVariants.{Command as Commanded, Begin, End, Drained, Got, Released}
use Rattle.scr_world.specs.declared.command.Command.TheVariants.{Get, Unget, Listen, Unlisten}
use Rattle.scr_world.specs.declared.instance.Instance.{Instance}
use Rattle.scr_world.specs.declared.world.World.{World}
use Rattle.scr_world.specs.Consequences.{has_stopped, stage_of, stopped_by, stopped_in}
use Rattle.scr_world.specs.Dues.{choices}
use Rattle.scr_world.specs.Instances.{drained_in, ended_in, has_turn, with_effect_of_begin, with_callback_begun, with_outcome}
use Rattle.scr_world.specs.Legal.{Follows, MayCome}
use Rattle.scr_world.specs.Lists.{world_of}
use Rattle.scr_world.specs.Steps.{History}
use Rattle.scr_world.specs.Stepping.{instances_told, before_turn, counted_components, world_after_step}
use Rattle.scr_laws.specs.Stills.{IsStill, is_quiet_step}
use Rattle.scr_laws.proofs.QuietCreates.{creates_quietly}
use Rattle.scr_laws.proofs.QuietSteps.{leaves_stage}
use Rattle.scr_laws.proofs.Stillness.{is_still, same_lives}
use Rattle.scr_laws.specs.Askeds.{asked_in}
use Rattle.scr_laws.specs.Entries.{IsCalm, is_still_step}
use Rattle.scr_laws.proofs.Commands.{get_still, listen_still, unget_still, unlisten_still}
use Rattle.scr_laws.proofs.Ends.{all_stay, either_of, end_is_quiet, instances_live, taken_consumer, taken_life}
use Rattle.scr_laws.proofs.Histories.{asking_leaves}
use Rattle.scr_laws.proofs.StoppingBundles.{added_keep, all_wait, mapped_keep, remembered_keep}

-- ---- nothing stops

module _ (w : World) (calm : IsCalm w) where
  -- the bundles that have stopped where these are the component configurations and instances
  stopped_of : List Component → List Instance → List ℕ
  stopped_of cs is = map (λ (b : BundleLife). b.number) (filter (has_stopped cs is) w.bundles.rows)

  waiting : stopped_of w.components w.instances ≡ []
  unfolding stopped_in stopped_of
  waiting = calm.waiting

  mapped_wait : (f : Instance → Instance) → ((i : Instance) → (f i).origin ≡ i.origin) → ((i : Instance) → (f i).consumer ≡ i.consumer) → stopped_of w.components (map f w.instances) ≡ []
  unfolding stopped_of
  mapped_wait f life consumer = all_wait w.components w.components w.instances (map f w.instances) (λ n e. mapped_keep w.components f life consumer n w.instances ∙ e) w.bundles.rows waiting

  forgotten_wait : stopped_of (counted_components w) w.instances ≡ []
  unfolding stopped_of
  forgotten_wait = all_wait w.components (counted_components w) w.instances w.instances (λ n e. sym (remembered_keep w.instances w.components n) ∙ e) w.bundles.rows waiting

  asked_wait : stopped_of (components_after w.entries w.components_numbered (asked_in w) (counted_components w)) w.instances ≡ []
  asked_wait = ap (λ cs. stopped_of cs w.instances) (asking_leaves w calm.asked w.entries w.components_numbered) ∙ forgotten_wait

  told_wait : (turn instance : ℕ) (callback : Callback) → stopped_of w.components (map (with_callback_begun (before_turn w) turn instance callback) w.instances) ≡ []
  told_wait turn instance callback = mapped_wait (with_callback_begun (before_turn w) turn instance callback)
      (λ i. either_of (λ (j : Instance). j.origin) (i.number == instance) (with_effect_of_begin (before_turn w) callback _) i (taken_life (before_turn w) callback _))
      (λ i. either_of (λ (j : Instance). j.consumer) (i.number == instance) (with_effect_of_begin (before_turn w) callback _) i (taken_consumer (before_turn w) callback _))

  pub nothing_stops : (step : Step) → is_still_step step w ≡ true → stopped_by step w ≡ []
  unfolding stopped_by stopped_in world_after_step stopped_of
  nothing_stops (Commanded (Get bundle service)) is = asked_wait
  nothing_stops (Commanded (Unget bundle service)) is = asked_wait
  nothing_stops (Commanded (Listen bundle filter)) is = asked_wait
  nothing_stops (Commanded (Unlisten listener)) is = asked_wait
  nothing_stops (Begin turn instance configuration consumer Create chosen) is = all_wait w.components w.components w.instances (instances_told (Begin turn instance configuration consumer Create chosen) w) (λ n e. added_keep w.components n w.instances _ e) w.bundles.rows waiting
  nothing_stops (Begin turn instance configuration consumer (Bind reference service) chosen) is = told_wait turn instance (Bind reference service)
  nothing_stops (Begin turn instance configuration consumer (Updated reference service) chosen) is = told_wait turn instance (Updated reference service)
  nothing_stops (Begin turn instance configuration consumer (Unbind reference service) chosen) is = told_wait turn instance (Unbind reference service)
  nothing_stops (Begin turn instance configuration consumer Activate chosen) is = told_wait turn instance Activate
  nothing_stops (Begin turn instance configuration consumer Modified chosen) is = told_wait turn instance Modified
  nothing_stops (Begin turn instance configuration consumer Deactivate chosen) is = told_wait turn instance Deactivate
  nothing_stops (Begin turn instance configuration consumer Destroy chosen) is = told_wait turn instance Destroy
  nothing_stops (End turn outcome) is =
      ap (λ js. stopped_of w.components js) (all_stay (map (ended_in turn outcome w.generations) w.instances) (instances_live turn outcome w.generations w.instances calm.living is))
      ∙ mapped_wait (ended_in turn outcome w.generations)
      (λ i. either_of (λ (j : Instance). j.origin) (has_turn turn i) (with_outcome outcome w.generations i) i refl)
      (λ i. either_of (λ (j : Instance). j.consumer) (has_turn turn i) (with_outcome outcome w.generations i) i refl)
  nothing_stops (Drained instance) is = mapped_wait (drained_in instance)
      (λ i. either_of (λ (j : Instance). j.origin) (i.number == instance) (record i { drained = true }) i refl)
      (λ i. either_of (λ (j : Instance). j.consumer) (i.number == instance) (record i { drained = true }) i refl)
  nothing_stops (Got bundle service) is = waiting
  nothing_stops (Released place) is = waiting
  nothing_stops (Commanded command) is = absurd cc

  -- ---- its stage is still

  quiet_still : (step : Step) → is_quiet_step step w ≡ true → IsStill (stage_of step w)
  quiet_still step is = is_still step w calm.rest (same_lives step w calm.rest (leaves_stage step w is))

  create_still : (turn instance configuration consumer : ℕ) (chosen : List Choice) → MayCome w (Begin turn instance configuration consumer Create chosen) → IsStill (stage_of (Begin turn instance configuration consumer Create chosen) w)
  create_still turn instance configuration consumer chosen may =
      let made = calm.creates turn instance configuration consumer chosen may in
      subst (λ (chosen_now : List Choice). IsStill (stage_of (Begin turn instance configuration consumer Create chosen_now) w)) (sym made.0)
      (is_still (Begin turn instance configuration consumer Create (choices w configuration)) w calm.rest (creates_quietly turn instance configuration consumer w calm.rest calm.known made.1))

  pub stage_is_still : (step : Step) → MayCome w step → is_still_step step w ≡ true → IsStill (stage_of step w)
  stage_is_still (Commanded (Get bundle service)) may is = get_still w calm.rest calm.asked calm.renewed_all bundle service
  stage_is_still (Commanded (Unget bundle service)) may is = unget_still w calm.rest calm.asked calm.renewed_all bundle service
  stage_is_still (Commanded (Listen bundle filter)) may is = listen_still w calm.rest calm.asked calm.renewed_all bundle filter
  stage_is_still (Commanded (Unlisten listener)) may is = unlisten_still w calm.rest calm.asked calm.renewed_all listener
  stage_is_still (Begin turn instance configuration consumer Create chosen) may is = create_still turn instance configuration consumer chosen may
  stage_is_still (Begin turn instance configuration consumer (Bind reference service) chosen) may is = quiet_still (Begin turn instance configuration consumer (Bind reference service) chosen) refl
  stage_is_still (Begin turn instance configuration consumer (Updated reference service) chosen) may is = quiet_still (Begin turn instance configuration consumer (Updated reference service) chosen) refl
  stage_is_still (Begin turn instance configuration consumer (Unbind reference service) chosen) may is = quiet_still (Begin turn instance configuration consumer (Unbind reference service) chosen) refl
  stage_is_still (Begin turn instance configuration consumer Activate chosen) may is = quiet_still (Begin turn instance configuration consumer Activate chosen) refl
  stage_is_still (Begin turn instance configuration consumer Modified chosen) may is = quiet_still (Begin turn instance configuration consumer Modified chosen) refl
  stage_is_still (Begin turn instance configuration consumer Deactivate chosen) may is = quiet_still (Begin turn instance configuration consumer Deactivate chosen) refl
  stage_is_still (Begin turn instance configuration consumer Destroy chosen) may is = quiet_still (Begin turn instance configuration consumer Destroy chosen) refl
  stage_is_still (End turn outcome) may is = quiet_still (End turn outcome) (end_is_quiet turn outcome w calm.living is)
  stage_is_still (Drained instance) may is = quiet_still (Drained instance) refl
  stage_is_still (Got bundle service) may is = quiet_still (Got bundle service) refl
  stage_is_still (Released place) may is = quiet_still (Released place) refl
  stage_is_still (Commanded command) may is = absurd cc
