-- A configuration in the place of the one of its PID.
use Rattle.std.proofs.Common.{subst, sym, Ok, Err}
use Rattle.row_places.specs.RowPlaces.{IsPlaceOrGap}
use Rattle.config_admin.specs.declared.configuration.Configuration.{Configuration}
use Rattle.config_admin.specs.Orders.{AreByPid, pid_cmp}
use Rattle.config_admin.proofs.PidRows.{sought}
use Rattle.config_admin.proofs.Undone.{by_pid_exchanged, exchanged_nowhere, exchanged_there}
use Rattle.config_admin.proofs.row_changes.exchange.Goals as goal

pub returns-in-Ok-clause-now : goal.returns-in-Ok-clause-now
returns-in-Ok-clause-now c =
    let place : IsPlaceOrGap (λ (d : Configuration). pid_cmp d (sought c.args.configuration.pid)) (Ok c.in-Ok.place) c.args.rows.now.items =
    rw (c.as_slice.ensures.value, c.as_str.ensures) at c.in-Ok.ensures.place in
    exchanged_there c.args.configuration c.in-Ok.place c.args.rows.now.items c.requires place

pub returns-in-Ok-clause-order : goal.returns-in-Ok-clause-order
returns-in-Ok-clause-order c = subst AreByPid (sym (returns-in-Ok-clause-now c)) (by_pid_exchanged c.args.configuration c.args.rows.now.items c.requires)

pub returns-in_default-clause-now : goal.returns-in_default-clause-now
returns-in_default-clause-now c =
    let place : IsPlaceOrGap (λ (d : Configuration). pid_cmp d (sought c.args.configuration.pid)) (Err c.in_default.field-0) c.args.rows.now.items =
    rw (c.as_slice.ensures.value, c.as_str.ensures) at c.in_default.ensures.place in
    exchanged_nowhere c.args.configuration c.in_default.field-0 c.args.rows.now.items c.requires place
