use Rattle.call_moves.proofs.Steps.{goes_back, is_done, is_taken_up, is_too_much, reaches_nobody, starts}
use Rattle.call_moves.proofs.laws.note_steps.Goals as goal

pub returns-clause-starts : goal.returns-clause-starts
returns-clause-starts c = starts

pub returns-clause-nobody : goal.returns-clause-nobody
returns-clause-nobody c = reaches_nobody

pub returns-clause-taken : goal.returns-clause-taken
returns-clause-taken c = is_taken_up

pub returns-clause-back : goal.returns-clause-back
returns-clause-back c = goes_back

pub returns-clause-done : goal.returns-clause-done
returns-clause-done c = is_done

pub returns-clause-too_long : goal.returns-clause-too_long
returns-clause-too_long c = is_too_much
