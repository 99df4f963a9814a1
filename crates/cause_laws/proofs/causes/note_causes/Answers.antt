use Rattle.cause_laws.proofs.LegalCauses.{legal_tells_why}
use Rattle.cause_laws.proofs.causes.note_causes.Goals as goal

pub returns : goal.returns
returns c = legal_tells_why
