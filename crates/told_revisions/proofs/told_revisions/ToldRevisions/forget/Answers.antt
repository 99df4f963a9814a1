use Rattle.std.proofs.Common.{◌∙◌, [], ap, subst, sym}
use Rattle.told_revisions.specs.Services.{AreLatest}
use Rattle.told_revisions.specs.Tellings.{told_after}
use Rattle.told_revisions.specs.Told.{without_told}
use Rattle.told_revisions.proofs.ToldLemmas.{latest_without, told_onto}
use Rattle.told_revisions.proofs.told_revisions.ToldRevisions.forget.Goals as goal

pub invariant_of-self-2 : goal.invariant_of-self-2
invariant_of-self-2 c =
    subst (AreLatest c.in_ok-latest.latest) (sym (ap (told_after []) c.in_ok-push.ensures.ok ∙ told_onto [] c.self.inside.tellings _))
    (latest_without c.args.reference c.args.service c.self.inside.latest c.in_ok-latest.latest (told_after [] c.self.inside.tellings) c.self.invariant
    c.in_ok-latest.ensures.order c.in_ok-latest.ensures.revisions)

pub returns-clause-ok : goal.returns-clause-ok
returns-clause-ok c =
    ap (told_after []) c.in_ok-push.ensures.ok ∙ told_onto [] c.self.inside.tellings _ ∙ ap (without_told c.args.reference c.args.service) c.self.view_is
