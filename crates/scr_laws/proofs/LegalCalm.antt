-- The world of a legal history is calm, where it is sound.
use Rattle.std.proofs.Common.{◌≡◌, ◌≤◌, ◌<◌, ℕ, ◌+◌, List, [], ◌∷◌, ap, arith, sym, ◌∙◌, refl, subst, true, false, ◌&&◌, Option, Some, None}
use Rattle.std.specs.Prelude.{◌==◌, nat_lt, option_map, option_and_then, find}
use Rattle.std.specs.List.{Contains, list_any}
use Rattle.std.proofs.lemmas.Bool.{and_from, lt-ltb}
use Rattle.callback_orders.specs.declared.callback.Callback.{Callback}
use Rattle.callback_orders.specs.declared.callback.Callback.TheVariants.{Create as CreateCalled}
use Rattle.callback_orders.specs.declared.due.DueRef.{DueRef}
use Rattle.callback_orders.specs.declared.due.DueRef.TheVariants.{Create as CreateDue, Bind, Updated, Unbind, Activate, Modified, Deactivate, Destroy}
use Rattle.callback_orders.specs.Lives.{callback_of}
use Rattle.component_state.specs.declared.component.Component.{Component}
use Rattle.component_state.specs.declared.origin.Choice.{Choice}
use Rattle.component_state.specs.declared.origin.Origin.{Origin}
use Rattle.component_state.specs.declared.open_period.OpenPeriod.{OpenPeriod}
use Rattle.component_state.specs.Inside.Misled.{is_misled}
use Rattle.component_state.specs.Passes.{pass_order_of, services_in}
use Rattle.component_state.specs.Periods.{is_current, is_open}
use Rattle.journal_core.specs.declared.entry.Entry.{Entry}
use Rattle.scr_world.specs.Tables.{descriptions_of}
use Rattle.scr_world.specs.declared.step.Step.{Step}
use Rattle.scr_world.specs.declared.step.Step.TheVariants.{Begin}
use Rattle.scr_world.specs.declared.instance.Instance.{Instance}
use Rattle.scr_world.specs.declared.world.World.{World}
use Rattle.scr_world.specs.Consequences.{stage_in, stopped_in}
use Rattle.scr_world.specs.Dues.{begin_for, begin_of, choices, due_in, names_of}
use Rattle.scr_world.specs.Legal.{IsLegal}
use Rattle.scr_world.specs.Lists.{world_after_entry, world_of}
use Rattle.scr_laws.specs.Sound.{IsSound}
use Rattle.scr_world.specs.Steps.{History}
use Rattle.scr_world.specs.Stepping.{world_after_step}
use Rattle.scr_world.specs.Worlds.{all_instances, origins_of}
use Rattle.scr_laws.specs.Stills.{IsAtRest, life_made}
use Rattle.component_state.proofs.Apart.{any_from}
use Rattle.scr_laws.specs.Calms.{OpensFirst}
use Rattle.scr_laws.specs.Entries.{IsCalm}
use Rattle.scr_laws.proofs.Calm.{choices_stand_then, known, legal_is_behind, not_changed_now, open_lives, periods_renewed}
use Rattle.scr_laws.proofs.Histories.{legal_is_asked}
use Rattle.scr_laws.proofs.Listed.{any_was, mapped_was}
use Rattle.scr_laws.proofs.OpensFirst.{opens_first}
use Rattle.scr_laws.proofs.StoppingBundles.{none_wait_for_nothing}

-- ---- what a Create begins with

module _ (w : World) (turn instance configuration consumer : ℕ) (chosen : List Choice) where
  callback_in : (a b c d : ℕ) (k : Callback) (l : List Choice) → Some (Begin a b c d k l) ≡ Some (Begin turn instance configuration consumer CreateCalled chosen) → k ≡ CreateCalled
  callback_in a b c d k l e = cc

  configuration_in : (a b c d : ℕ) (k : Callback) (l : List Choice) → Some (Begin a b c d k l) ≡ Some (Begin turn instance configuration consumer CreateCalled chosen) → c ≡ configuration
  configuration_in a b c d k l e = cc

  chosen_in : (a b c d : ℕ) (k : Callback) (l : List Choice) → Some (Begin a b c d k l) ≡ Some (Begin turn instance configuration consumer CreateCalled chosen) → l ≡ chosen
  chosen_in a b c d k l e = cc

  other : (due : DueRef) → ((i : Instance) → callback_of (names_of w i) due ≡ CreateCalled → ⊥) → (o : Option Instance) → option_map (begin_for w due) o ≡ Some (Begin turn instance configuration consumer CreateCalled chosen) → ⊥
  other due never None e = absurd cc
  other due never (Some i) e = never i (callback_in (w.turns_begun + 1) i.number i.origin.configuration i.consumer (callback_of (names_of w i) due) [] e)

  open_current : is_open w.open_periods configuration ≡ true → ((p : OpenPeriod) → Contains w.open_periods p → p.opened < w.entries) → is_current w.open_periods (life_made w configuration) ≡ true
  open_current opened earlier =
      let was = any_was (λ (p : OpenPeriod). p.configuration == configuration) w.open_periods opened in
      any_from (λ (p : OpenPeriod). (p.configuration == configuration) && nat_lt p.opened w.entries) w.open_periods was.0 was.1.0
      (and_from (was.0.configuration == configuration) (nat_lt was.0.opened w.entries) was.1.1 (lt-ltb was.0.opened w.entries (earlier was.0 was.1.0)))

  pub begun_so : OpensFirst w → ((p : OpenPeriod) → Contains w.open_periods p → p.opened < w.entries) → (o : Option DueRef) → due_in w ≡ o → option_and_then (begin_of w) o ≡ Some (Begin turn instance configuration consumer CreateCalled chosen)
      → (chosen ≡ choices w configuration) × (is_current w.open_periods (life_made w configuration) ≡ true)
  begun_so opens earlier None is e = absurd cc
  begun_so opens earlier (Some (CreateDue key)) is e =
      let same = configuration_in (w.turns_begun + 1) (w.instances_numbered + 1) key.configuration key.consumer CreateCalled (choices w key.configuration) e in (
        sym (chosen_in (w.turns_begun + 1) (w.instances_numbered + 1) key.configuration key.consumer CreateCalled (choices w key.configuration) e) ∙ ap (choices w) same,
        open_current (ap (is_open w.open_periods) (sym same) ∙ opens key is) earlier,
      )
  begun_so opens earlier (Some (Bind i r s)) is e = absurd (other (Bind i r s) (λ j k. cc) (find (λ (j : Instance). j.number == i) (all_instances w)) e)
  begun_so opens earlier (Some (Updated i r s)) is e = absurd (other (Updated i r s) (λ j k. cc) (find (λ (j : Instance). j.number == i) (all_instances w)) e)
  begun_so opens earlier (Some (Unbind i r s)) is e = absurd (other (Unbind i r s) (λ j k. cc) (find (λ (j : Instance). j.number == i) (all_instances w)) e)
  begun_so opens earlier (Some (Activate i)) is e = absurd (other (Activate i) (λ j k. cc) (find (λ (j : Instance). j.number == i) (all_instances w)) e)
  begun_so opens earlier (Some (Modified i)) is e = absurd (other (Modified i) (λ j k. cc) (find (λ (j : Instance). j.number == i) (all_instances w)) e)
  begun_so opens earlier (Some (Deactivate i)) is e = absurd (other (Deactivate i) (λ j k. cc) (find (λ (j : Instance). j.number == i) (all_instances w)) e)
  begun_so opens earlier (Some (Destroy i)) is e = absurd (other (Destroy i) (λ j k. cc) (find (λ (j : Instance). j.number == i) (all_instances w)) e)

-- ---- all of it

created_before : (limit : ℕ) (entry : Entry Step) (w : World) → IsSound (world_after_entry entry w) → (l : Origin) → Contains (origins_of (world_after_step entry.step w).instances) l → l.created ≤ w.entries
unfolding world_after_entry world_after_step
created_before limit entry w sound l h =
    let was = mapped_was (λ (i : Instance). i.origin) (world_after_step entry.step w).instances l h in
    subst (λ (k : Origin). k.created ≤ w.entries) was.1.1 (let low : was.0.origin.created < w.entries + 1 = sound.created was.0 was.1.0 in omega (arith, low))

choices_at : (limit : ℕ) (past : History) → IsLegal limit past → IsSound (world_of past) → (c : Component) → Contains (pass_order_of (stage_in (world_of past) [])) c
    → list_any (is_misled (world_of past).entries (world_of past).open_periods (services_in (stage_in (world_of past) []) (world_of past).open_periods) c) (origins_of (world_of past).instances) ≡ false
unfolding world_of
choices_at limit [] legal sound c ordered = refl
choices_at limit (entry ∷ past) legal sound c ordered = choices_stand_then limit entry past legal.0 (created_before limit entry (world_of past) sound)
    (not_changed_now (world_of (entry ∷ past)) (legal_is_behind limit (entry ∷ past) legal)) c ordered

waiting_at : (limit : ℕ) (past : History) → IsLegal limit past → stopped_in (world_of past) ≡ []
unfolding world_of stopped_in
waiting_at limit [] legal = refl
waiting_at limit (entry ∷ past) legal = none_wait_for_nothing (world_of past) entry legal.0.stopped

rest_at : (limit : ℕ) (past : History) → IsLegal limit past → IsSound (world_of past) → IsAtRest (world_of past)
unfolding stage_in
rest_at limit past legal sound = let ds = descriptions_of (world_of past).documents in record {
  scratch = sound.scratch;
  living = λ c was here. open_lives (world_of past) sound.scratch sound.numbered c was ((known (world_of past) sound.numbered).there c here);
  choices = λ c was here. choices_at limit past legal sound c here;
  behind = not_changed_now (world_of past) (legal_is_behind limit past legal);
}

pub legal_is_calm : (limit : ℕ) (past : History) → IsLegal limit past → IsSound (world_of past) → IsCalm (world_of past)
legal_is_calm limit past legal sound = record {
  rest = rest_at limit past legal sound;
  known = known (world_of past) sound.numbered;
  asked = legal_is_asked limit past legal;
  living = λ i here. sound.living i here;
  waiting = waiting_at limit past legal;
  renewed_all = periods_renewed (world_of past) sound.scratch sound.numbered sound.periods;
  creates = λ turn instance configuration consumer chosen e. begun_so (world_of past) turn instance configuration consumer chosen (opens_first (world_of past)) sound.earlier (due_in (world_of past)) refl e;
}
