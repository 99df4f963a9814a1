use Rattle.std.proofs.Common.{ap, filter, ◌∙◌}
use Rattle.wb_routes.specs.Servlets.{faulty_in, is_pattern, patterns_in, select_by, servlet_with}
use Rattle.wb_routes.proofs.servlet.servlet_of.Goals as goal

pub returns : goal.returns
returns c =
    c.servlet_with.ensures
    ∙ (λ i. servlet_with c.args.row.now ((c.in_ok-select.ensures ∙ ap select_by c.get-3.ensures) i)
    ((c.in_ok-patterns.ensures ∙ ap (filter is_pattern) (c.as_slice.ensures ∙ c.in_ok-texts.ensures ∙ ap patterns_in c.get.ensures)) i)
    ((c.in_ok-faulty.ensures ∙ ap faulty_in c.get-2.ensures) i))
