use Rattle.std.proofs.Common.{◌≡◌, ◌∙◌, ap, cond}
use Rattle.std.specs.Str.{bytes_eq}
use Rattle.std.proofs.lemmas.Result.{IfOk-weaker}
use Rattle.told_revisions.specs.Services.{services_in, without_service}
use Rattle.told_revisions.proofs.LatestLemmas.{ordered_without, revisions_without}
use Rattle.told_revisions.proofs.latest.without_row.Goals as goal

pub returns-clause-order : goal.returns-clause-order
returns-clause-order c =
    let services : c.in_ok-shared.field-0 ≡ without_service c.args.service (services_in c.args.reference.now c.args.latest.now) =
    c.in_ok-shared.ensures ∙ c.in_ok-services.ensures ∙ ap (without_service c.args.service) c.services_of.ensures in
    IfOk-weaker c.with_services.result _ _
    (λ changed replaced. ordered_without c.args.reference.now c.args.latest.now changed c.requires c.args.service
    (λ name. replaced name ∙ ap (λ rows. cond (bytes_eq c.args.reference.now name) rows (services_in name c.args.latest.now)) services))
    c.with_services.ensures

pub returns-clause-revisions : goal.returns-clause-revisions
returns-clause-revisions c =
    let services : c.in_ok-shared.field-0 ≡ without_service c.args.service (services_in c.args.reference.now c.args.latest.now) =
    c.in_ok-shared.ensures ∙ c.in_ok-services.ensures ∙ ap (without_service c.args.service) c.services_of.ensures in
    IfOk-weaker c.with_services.result _ _
    (λ changed replaced. revisions_without c.args.reference.now c.args.latest.now changed c.requires c.args.service
    (λ name. replaced name ∙ ap (λ rows. cond (bytes_eq c.args.reference.now name) rows (services_in name c.args.latest.now)) services))
    c.with_services.ensures
