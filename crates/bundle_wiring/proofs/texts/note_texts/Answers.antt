use Rattle.bundle_wiring.proofs.Machines.{clauses_law, range_law, version_law}
use Rattle.bundle_wiring.proofs.texts.note_texts.Goals as goal

pub returns : goal.returns
returns c = record { versions = version_law; ranges = range_law; clauses = clauses_law }
