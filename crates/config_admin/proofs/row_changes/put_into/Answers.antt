-- A configuration in the place of the one of its PID, or in the gap.
use Rattle.std.proofs.Common.{subst, sym, ◌∙◌, Ok, Err}
use Rattle.row_places.specs.RowPlaces.{IsPlaceOrGap}
use Rattle.config_admin.specs.declared.configuration.Configuration.{Configuration}
use Rattle.config_admin.specs.Orders.{AreByPid, pid_cmp}
use Rattle.config_admin.proofs.PidRows.{by_pid_with, put_new, put_there, sought}
use Rattle.config_admin.proofs.row_changes.put_into.Goals as goal

pub returns-in-Ok-clause-now : goal.returns-in-Ok-clause-now
returns-in-Ok-clause-now c =
    let place : IsPlaceOrGap (λ (d : Configuration). pid_cmp d (sought c.args.configuration.pid)) (Ok c.in-Ok.place) c.args.rows.now.items =
    rw (c.as_slice.ensures.value, c.as_str.ensures) at c.in-Ok.ensures.place in
    put_there c.args.configuration c.in-Ok.place c.args.rows.now.items c.requires.order place

pub returns-in-Ok-clause-order : goal.returns-in-Ok-clause-order
returns-in-Ok-clause-order c = subst AreByPid (sym (returns-in-Ok-clause-now c)) (by_pid_with c.args.configuration c.args.rows.now.items c.requires.order)

pub returns-in-Err-clause-now : goal.returns-in-Err-clause-now
returns-in-Err-clause-now c =
    let place : IsPlaceOrGap (λ (d : Configuration). pid_cmp d (sought c.args.configuration.pid)) (Err c.in-Err.gap) c.args.rows.now.items =
    rw (c.as_slice.ensures.value, c.as_str.ensures) at c.in-Err.ensures.place in
    c.insert.ensures ∙ put_new c.args.configuration c.in-Err.gap c.args.rows.now.items place

pub returns-in-Err-clause-order : goal.returns-in-Err-clause-order
returns-in-Err-clause-order c = subst AreByPid (sym (returns-in-Err-clause-now c)) (by_pid_with c.args.configuration c.args.rows.now.items c.requires.order)
