use Rattle.std.proofs.Common.{◌≡◌, ◌∙◌, ap, cond}
use Rattle.std.specs.Str.{bytes_eq}
use Rattle.std.proofs.lemmas.Result.{IfOk-weaker}
use Rattle.told_revisions.specs.Services.{services_in, with_service}
use Rattle.told_revisions.proofs.LatestLemmas.{ordered_with, revisions_with}
use Rattle.told_revisions.proofs.latest.with_row.Goals as goal

pub returns-clause-order : goal.returns-clause-order
returns-clause-order c =
    let services : c.in_ok-shared.field-0 ≡ with_service c.args.row (services_in c.args.reference.now c.args.latest.now) =
    c.in_ok-shared.ensures ∙ c.in_ok-services.ensures ∙ ap (with_service c.args.row) c.services_of.ensures in
    IfOk-weaker c.with_services.result _ _
    (λ changed replaced. ordered_with c.args.reference.now c.args.latest.now changed c.requires c.args.row
    (λ name. replaced name ∙ ap (λ rows. cond (bytes_eq c.args.reference.now name) rows (services_in name c.args.latest.now)) services))
    c.with_services.ensures

pub returns-clause-revisions : goal.returns-clause-revisions
returns-clause-revisions c =
    let services : c.in_ok-shared.field-0 ≡ with_service c.args.row (services_in c.args.reference.now c.args.latest.now) =
    c.in_ok-shared.ensures ∙ c.in_ok-services.ensures ∙ ap (with_service c.args.row) c.services_of.ensures in
    IfOk-weaker c.with_services.result _ _
    (λ changed replaced. revisions_with c.args.reference.now c.args.latest.now changed c.requires c.args.row
    (λ name. replaced name ∙ ap (λ rows. cond (bytes_eq c.args.reference.now name) rows (services_in name c.args.latest.now)) services))
    c.with_services.ensures
