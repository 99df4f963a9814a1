use Rattle.std.proofs.Common.{ap, sym, ◌∙◌, Some}
use Rattle.config_admin.specs.declared.configuration.Configuration.{Configuration}
use Rattle.config_admin.proofs.PidRows.{of_pid_nowhere, of_pid_there}
use Rattle.config_admin.proofs.rows.of_pid.Goals as goal

pub returns-in-Ok : goal.returns-in-Ok
returns-in-Ok c = ap (λ (d : Configuration). Some d) c.index-rows-place.is ∙ sym (of_pid_there c.args.pid.now c.in-Ok.place c.args.rows.now c.index-rows-place.result c.in-Ok.ensures.place)

pub returns-in-Err : goal.returns-in-Err
returns-in-Err c = sym (of_pid_nowhere c.args.pid.now c.in-Err.field-0 c.args.rows.now c.in-Err.ensures.place c.requires)
