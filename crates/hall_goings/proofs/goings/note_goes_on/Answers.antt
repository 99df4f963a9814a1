use Rattle.hall_goings.proofs.Chains.{went_nowhere, went_on}
use Rattle.hall_goings.proofs.goings.note_goes_on.Goals as goal

pub returns-clause-nowhere : goal.returns-clause-nowhere
returns-clause-nowhere g c = λ pass. went_nowhere pass

pub returns-clause-joins : goal.returns-clause-joins
returns-clause-joins g c = λ first second third xs ys f h. went_on first second third xs ys f h
