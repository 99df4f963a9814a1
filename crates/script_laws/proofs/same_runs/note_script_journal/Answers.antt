use Rattle.std.proofs.Common.{[]}
use Rattle.script_laws.proofs.SameRuns.{same_runs}
use Rattle.script_laws.proofs.same_runs.note_script_journal.Goals as goal

pub returns-clause-legal : goal.returns-clause-legal
returns-clause-legal c = λ refuses next words bytes before one other legal run run' own own'. same_runs refuses next words bytes before one other legal run run' own own'

pub returns-clause-new : goal.returns-clause-new
returns-clause-new c = λ refuses next words bytes limits one other run run' own own'. same_runs refuses next words bytes (record { limits = limits; journal = [] }) one other tt run run' own own'
