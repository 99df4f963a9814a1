-- What is left without the configuration at the place of a PID is the filter that leaves it out.
use Rattle.std.proofs.Common.{ap, sym, ◌∙◌, Option, Some, Ok, Err}
use Rattle.std.specs.Option.{is_none}
use Rattle.row_places.specs.RowPlaces.{IsPlaceOrGap}
use Rattle.config_admin.specs.declared.config_fault.ConfigFault.TheVariants.{NoConfiguration}
use Rattle.config_admin.specs.declared.configuration.Configuration.{Configuration}
use Rattle.config_admin.specs.Orders.{pid_cmp}
use Rattle.config_admin.specs.Refusals.{refuse_if}
use Rattle.config_admin.proofs.PidRows.{of_pid_nowhere, of_pid_there, removed, sought}
use Rattle.config_admin.proofs.Undone.{pid_of, removed_nowhere}
use Rattle.config_admin.proofs.row_changes.take_out.Goals as goal

pub returns-in-Ok-clause-configuration : goal.returns-in-Ok-clause-configuration
returns-in-Ok-clause-configuration c =
    let place : IsPlaceOrGap (λ (d : Configuration). pid_cmp d (sought c.args.pid.now)) (Ok c.in-Ok.place) c.args.rows.now.items =
    rw c.as_slice.ensures.value at c.in-Ok.ensures.place in
    of_pid_there c.args.pid.now c.in-Ok.place c.args.rows.now.items c.remove.result place ∙ ap (λ (d : Configuration). Some d) (sym c.remove.ensures.value)

pub returns-in-Ok-clause-pid : goal.returns-in-Ok-clause-pid
returns-in-Ok-clause-pid c = pid_of c.args.pid.now c.args.rows.now.items c.remove.result c.requires (returns-in-Ok-clause-configuration c)

pub returns-in-Ok-clause-refused : goal.returns-in-Ok-clause-refused
returns-in-Ok-clause-refused c = ap (λ (o : Option Configuration). refuse_if (is_none o) NoConfiguration) (returns-in-Ok-clause-configuration c)

pub returns-in-Ok-clause-now : goal.returns-in-Ok-clause-now
returns-in-Ok-clause-now c =
    let place : IsPlaceOrGap (λ (d : Configuration). pid_cmp d (sought c.args.pid.now)) (Ok c.in-Ok.place) c.args.rows.now.items =
    rw c.as_slice.ensures.value at c.in-Ok.ensures.place in
    c.remove.ensures.items ∙ removed c.args.pid.now c.in-Ok.place c.args.rows.now.items place

pub returns-in-Err-clause-refused : goal.returns-in-Err-clause-refused
returns-in-Err-clause-refused c =
    let place : IsPlaceOrGap (λ (d : Configuration). pid_cmp d (sought c.args.pid.now)) (Err c.in-Err.field-0) c.args.rows.now.items =
    rw c.as_slice.ensures.value at c.in-Err.ensures.place in
    ap (λ (o : Option Configuration). refuse_if (is_none o) NoConfiguration) (of_pid_nowhere c.args.pid.now c.in-Err.field-0 c.args.rows.now.items place c.requires)

pub returns-in-Err-clause-now : goal.returns-in-Err-clause-now
returns-in-Err-clause-now c =
    let place : IsPlaceOrGap (λ (d : Configuration). pid_cmp d (sought c.args.pid.now)) (Err c.in-Err.field-0) c.args.rows.now.items =
    rw c.as_slice.ensures.value at c.in-Err.ensures.place in
    removed_nowhere c.args.pid.now c.in-Err.field-0 c.args.rows.now.items place
