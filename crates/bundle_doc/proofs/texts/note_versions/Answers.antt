use Rattle.bundle_doc.proofs.Machines.{version_law}
use Rattle.bundle_doc.proofs.texts.note_versions.Goals as goal

pub returns : goal.returns
returns c = version_law
