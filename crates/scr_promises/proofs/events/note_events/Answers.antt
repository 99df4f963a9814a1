use Rattle.scr_promises.proofs.EventLaws.{told_all, told_between, told_first, told_truth}
use Rattle.scr_promises.proofs.events.note_events.Goals as goal

pub returns-clause-between : goal.returns-clause-between
returns-clause-between c = told_between

pub returns-clause-all : goal.returns-clause-all
returns-clause-all c = told_all

pub returns-clause-first : goal.returns-clause-first
returns-clause-first c = told_first

pub returns-clause-truth : goal.returns-clause-truth
returns-clause-truth c = told_truth
