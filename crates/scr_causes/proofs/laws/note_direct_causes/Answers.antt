use Rattle.scr_causes.proofs.CauseLaws.{are_below, lack_configurations, tell_why}
use Rattle.scr_causes.proofs.laws.note_direct_causes.Goals as goal

pub returns-clause-why : goal.returns-clause-why
returns-clause-why c = tell_why

pub returns-clause-below : goal.returns-clause-below
returns-clause-below c = are_below

pub returns-clause-lack : goal.returns-clause-lack
returns-clause-lack c = lack_configurations
