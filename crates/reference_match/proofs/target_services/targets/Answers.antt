use Rattle.std.proofs.Common.{◌++◌, ap, ◌∙◌, filter, map}
use Rattle.service_registry.specs.Services.{ranked}
use Rattle.reference_match.specs.Targets.{meets}
use Rattle.reference_match.proofs.Found.{best_found}
use Rattle.reference_match.proofs.target_services.targets.Goals as goal

pub returns : goal.returns
returns c =
    c.in_ok-numbers.ensures
    ∙ best_found c.args.need.now c.args.rows.now c.add_meeting.new.found.items
    (c.in_ok-add_meeting.ensures ∙ ap (λ l. l ++ map ranked (filter (meets c.args.need.now) c.args.rows.now)) c.new-found.ensures.items)
