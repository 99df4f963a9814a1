use Rattle.told_revisions.proofs.ServiceLemmas.{no_revision, revision_there}
use Rattle.told_revisions.proofs.services.revision_of.Goals as goal

pub returns-in-Ok : goal.returns-in-Ok
returns-in-Ok c = revision_there c.args.service c.in-Ok.place c.args.rows.now _ c.in-Ok.ensures.place

pub returns-in-Err : goal.returns-in-Err
returns-in-Err c = no_revision c.args.service c.in-Err.field-0 c.args.rows.now c.in-Err.ensures.place
