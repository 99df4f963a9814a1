use Rattle.scr_laws.proofs.Failures.{failed_from, failed_to}
use Rattle.scr_laws.proofs.journals.note_failed.Goals as goal

pub returns-clause-marked : goal.returns-clause-marked
returns-clause-marked c = failed_from

pub returns-clause-since : goal.returns-clause-since
returns-clause-since c = failed_to
