use Rattle.std.proofs.Common.{List, ◌∙◌, ap, refl}
use Rattle.std.proofs.lemmas.Result.{on_ok_weaker}
use Rattle.std.specs.List.{flat_map}
use Rattle.component_state.specs.Components.{pass_order}
use Rattle.component_state.specs.declared.component.Component.{Component}
use Rattle.component_state.specs.declared.open_period.OpenPeriod.{OpenPeriod}
use Rattle.scr_consequences.proofs.AllChanges.{told_all}
use Rattle.scr_consequences.proofs.TellingLemmas.{told_more}
use Rattle.scr_consequences.specs.Changes.{change_at, change_of_new}
use Rattle.service_listeners.specs.Listening.{after_changes}
use Rattle.service_registry.specs.Services.{ids}
use Rattle.service_registry.specs.declared.row.ServiceRow.{ServiceRow}
use Rattle.scr_consequences.proofs.telling.tell_all.Goals as goal

pub returns-in_err-tell_of_new-clause-told : goal.returns-in_err-tell_of_new-clause-told
returns-in_err-tell_of_new-clause-told c = told_more _ _ _ c.tell_of_old.ensures.told c.tell_of_new.ensures.told

pub returns-clause-told : goal.returns-clause-told
returns-clause-told c = told_more _ _ _ (told_more _ _ _ c.tell_of_old.ensures.told c.tell_of_new.ensures.told) c.tell_of_components.ensures.told

pub returns-clause-ok : goal.returns-clause-ok
returns-clause-ok c =
    let now = c.args.now.now in
    let was_rows = c.args.was_rows.now in
    let rising_now = c.rows.ensures.numbered.0 in
    on_ok_weaker c.tell_of_components.result
    (λ last was rows periods.
    told_all was now was_rows c.args.was_periods.now (ids was_rows) c.args.descriptions.now c.args.levels.now c.requires.rising rising_now
    (λ n. refl) c.requires.descriptions c.requires.levels rows periods
    c.args.listeners.now c.tell_of_old.new.listeners c.tell_of_new.new.listeners c.tell_of_components.new.listeners
    c.in_ok-tell_of_old.ensures.ok
    (c.in_ok-tell_of_new.ensures.ok ∙ ap (λ (rs : List ServiceRow). after_changes (flat_map (change_of_new (ids was_rows)) rs) c.tell_of_old.new.listeners) c.rows.ensures.all)
    (last
    ∙ ap (λ (ps : List OpenPeriod). after_changes (flat_map (change_at c.args.was_periods.now ps) (pass_order c.args.descriptions.now c.args.levels.now c.as_slice.result.now)) c.tell_of_new.new.listeners) c.as_slice-2.ensures
    ∙ ap (λ (cs : List Component). after_changes (flat_map (change_at c.args.was_periods.now now.open_periods) (pass_order c.args.descriptions.now c.args.levels.now cs)) c.tell_of_new.new.listeners) c.as_slice.ensures))
    c.tell_of_components.ensures.ok
