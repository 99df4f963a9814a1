use Rattle.std.proofs.Common.{ap, ◌∙◌}
use Rattle.event_handlers.specs.Kept.{admission_by, handler_with, patterns_in}
use Rattle.event_handlers.proofs.handler.handler_of.Goals as goal

pub returns : goal.returns
returns c =
    c.handler_with.ensures
    ∙ (λ i. handler_with c.args.row.now ((c.in_ok-patterns.ensures ∙ ap patterns_in c.get.ensures) i) ((c.in_ok-admission.ensures ∙ ap admission_by c.get-2.ensures) i))
