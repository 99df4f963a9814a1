-- A configuration in the place of the one of its PID, or in the gap.
use Rattle.std.proofs.Common.{ap, subst, sym, ◌∙◌, Ok, Err, Some, None}
use Rattle.std.proofs.Math.ListN.{set}
use Rattle.row_places.specs.RowPlaces.{IsPlaceOrGap}
use Rattle.config_admin.specs.declared.configuration.Configuration.{Configuration}
use Rattle.config_admin.specs.Orders.{AreByPid, pid_cmp}
use Rattle.config_admin.proofs.PidRows.{by_pid_with, of_pid_nowhere, of_pid_there, put_new, put_there, sought}
use Rattle.config_admin.proofs.Undone.{overwrites}
use Rattle.config_admin.proofs.row_changes.put.Goals as goal

pub returns-in-Ok-clause-overwritten : goal.returns-in-Ok-clause-overwritten
returns-in-Ok-clause-overwritten c =
    let place : IsPlaceOrGap (λ (d : Configuration). pid_cmp d (sought c.args.configuration.pid)) (Ok c.in-Ok.place) c.args.rows.now.items =
    rw (c.as_slice.ensures.value, c.as_str.ensures, c.in_ok-pid.ensures) at c.in-Ok.ensures.place in
    overwrites c.args.configuration.pid c.in_ok-pid.pid (Some c.replace.result) c.args.rows.now.items c.in_ok-pid.ensures
    (let there = of_pid_there c.args.configuration.pid c.in-Ok.place c.args.rows.now.items c.replace.result place in cc (there, c.replace.ensures.value, c.index_mut.ensures.value))

pub returns-in-Ok-clause-ok : goal.returns-in-Ok-clause-ok
returns-in-Ok-clause-ok c =
    let place : IsPlaceOrGap (λ (d : Configuration). pid_cmp d (sought c.args.configuration.pid)) (Ok c.in-Ok.place) c.args.rows.now.items =
    rw (c.as_slice.ensures.value, c.as_str.ensures, c.in_ok-pid.ensures) at c.in-Ok.ensures.place in
    ap (set c.args.rows.now.items c.in-Ok.place) c.replace.ensures.after ∙ put_there c.args.configuration c.in-Ok.place c.args.rows.now.items c.requires place

pub returns-in-Ok-clause-order : goal.returns-in-Ok-clause-order
returns-in-Ok-clause-order c = subst AreByPid (sym (returns-in-Ok-clause-ok c)) (by_pid_with c.args.configuration c.args.rows.now.items c.requires)

pub returns-in_ok-insert-in-Err-clause-overwritten : goal.returns-in_ok-insert-in-Err-clause-overwritten
returns-in_ok-insert-in-Err-clause-overwritten c =
    let place : IsPlaceOrGap (λ (d : Configuration). pid_cmp d (sought c.args.configuration.pid)) (Err c.in-Err.gap) c.args.rows.now.items =
    rw (c.as_slice.ensures.value, c.as_str.ensures, c.in_ok-pid.ensures) at c.in-Err.ensures.place in
    overwrites c.args.configuration.pid c.in_ok-pid.pid None c.args.rows.now.items c.in_ok-pid.ensures
    (sym (of_pid_nowhere c.args.configuration.pid c.in-Err.gap c.args.rows.now.items place c.requires))

pub returns-in_ok-insert-in-Err-clause-ok : goal.returns-in_ok-insert-in-Err-clause-ok
returns-in_ok-insert-in-Err-clause-ok c =
    let place : IsPlaceOrGap (λ (d : Configuration). pid_cmp d (sought c.args.configuration.pid)) (Err c.in-Err.gap) c.args.rows.now.items =
    rw (c.as_slice.ensures.value, c.as_str.ensures, c.in_ok-pid.ensures) at c.in-Err.ensures.place in
    c.in_ok-insert-in-Err.ensures.items ∙ put_new c.args.configuration c.in-Err.gap c.args.rows.now.items place

pub returns-in_ok-insert-in-Err-clause-order : goal.returns-in_ok-insert-in-Err-clause-order
returns-in_ok-insert-in-Err-clause-order c =
    subst AreByPid (sym (returns-in_ok-insert-in-Err-clause-ok c)) (by_pid_with c.args.configuration c.args.rows.now.items c.requires)
