use Rattle.std.proofs.Common.{List, ◌++◌, ◌∙◌, ap}
use Rattle.service_registry.specs.declared.row.ServiceRow.{ServiceRow}
use Rattle.std.specs.Prelude.{filter}
use Rattle.component_state.specs.Rows.{rows_of}
use Rattle.scr_consequences.specs.Lefts.{has_left}
use Rattle.scr_consequences.proofs.LeftLemmas.{left_are}
use Rattle.scr_consequences.proofs.left_services.left_between.Goals as goal

pub returns : goal.returns
returns c =
    λ was e f.
    let p = has_left c.args.now.now in
    c.of.ensures ∙ c.in_ok-add_left_of_periods.ensures
    ∙ ap (λ (l : List ServiceRow). l ++ filter p (rows_of c.args.was_periods.now))
    (c.in_ok-add_left_of_rows.ensures ∙ ap (λ (l : List ServiceRow). l ++ filter p c.args.was_rows.now) c.new-left.ensures.items)
    ∙ left_are was c.args.now.now c.args.was_rows.now c.args.was_periods.now e f
