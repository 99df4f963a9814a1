use Rattle.std.proofs.Common.{◌++◌, ap, ◌∙◌, filter, map}
use Rattle.service_registry.specs.Services.{ranked}
use Rattle.reference_match.specs.Standing.{is_registered}
use Rattle.reference_match.specs.Targets.{meets}
use Rattle.reference_match.proofs.Found.{both_found}
use Rattle.reference_match.proofs.target_services.standing_targets.Goals as goal

pub returns : goal.returns
returns g c =
    c.in_ok-numbers.ensures
    ∙ both_found c.args.need.now c.args.direct.now (map g.R.HasRow.row_of c.args.opened.now) c.add_registered.new.found.items
    (c.in_ok-add_registered.ensures
    ∙ ap (λ l. l ++ map ranked (filter (meets c.args.need.now) (filter is_registered (map g.R.HasRow.row_of c.args.opened.now))))
    (c.in_ok-add_meeting.ensures ∙ ap (λ l. l ++ map ranked (filter (meets c.args.need.now) c.args.direct.now)) c.new-found.ensures.items))
