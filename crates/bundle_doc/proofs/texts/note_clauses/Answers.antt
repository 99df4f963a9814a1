use Rattle.bundle_doc.proofs.Machines.{clauses_law}
use Rattle.bundle_doc.proofs.texts.note_clauses.Goals as goal

pub returns : goal.returns
returns c = clauses_law
