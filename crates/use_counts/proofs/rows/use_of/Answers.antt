use Rattle.std.proofs.Common.{sym, ◌∙◌}
use Rattle.use_counts.proofs.UseRows.{use_nowhere, use_there}
use Rattle.use_counts.proofs.rows.use_of.Goals as goal

pub returns-in-Ok : goal.returns-in-Ok
returns-in-Ok c = sym (use_there c.args.bundle c.args.service c.in-Ok.place c.args.rows.now (record { service = 0; bundle = 0; shell = 0; tokens = 0 }) c.in-Ok.ensures.place)

pub returns-in-Err : goal.returns-in-Err
returns-in-Err c = c.no_use.ensures ∙ sym (use_nowhere c.args.bundle c.args.service c.in-Err.field-0 c.args.rows.now c.requires c.in-Err.ensures.place)
