use Rattle.std.proofs.Common.{sym, ◌∙◌}
use Rattle.use_counts.proofs.Undone.{filter_nowhere, filter_there, if_ok}
use Rattle.use_counts.proofs.rows.row_of.Goals as goal

pub returns-in-Ok : goal.returns-in-Ok
returns-in-Ok c = if_ok c.one_row.result c.one_row.ensures (λ uses is.
    is ∙ sym (filter_there c.args.bundle c.args.service c.in-Ok.place c.args.rows.now (record { service = 0; bundle = 0; shell = 0; tokens = 0 }) c.in-Ok.ensures.place))

pub returns-in-Err : goal.returns-in-Err
returns-in-Err c = c.new.ensures.items ∙ sym (filter_nowhere c.args.bundle c.args.service c.in-Err.field-0 c.args.rows.now c.in-Err.ensures.place)
