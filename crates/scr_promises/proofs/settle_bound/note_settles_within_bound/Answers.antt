use Rattle.scr_promises.proofs.NoneDue.{none_due_at_bound}
use Rattle.scr_promises.proofs.WithinBound.{settles_within_bound}
use Rattle.scr_promises.proofs.settle_bound.note_settles_within_bound.Goals as goal

pub returns-clause-within : goal.returns-clause-within
returns-clause-within c = settles_within_bound

pub returns-clause-idle : goal.returns-clause-idle
returns-clause-idle c = none_due_at_bound
