use Rattle.scr_laws.proofs.StandingGets.{tokens_left, tokens_stand, uses_left, uses_stand}
use Rattle.scr_laws.proofs.reserving.note_gets_stand.Goals as goal

pub returns-clause-uses : goal.returns-clause-uses
returns-clause-uses c = uses_stand

pub returns-clause-tokens : goal.returns-clause-tokens
returns-clause-tokens c = tokens_stand

pub returns-clause-uses_left : goal.returns-clause-uses_left
returns-clause-uses_left c = uses_left

pub returns-clause-tokens_left : goal.returns-clause-tokens_left
returns-clause-tokens_left c = tokens_left
