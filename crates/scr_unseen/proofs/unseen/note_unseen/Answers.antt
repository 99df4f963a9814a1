use Rattle.scr_unseen.proofs.UnseenEntries.{no_lists, open_stays, same_satisfied}
use Rattle.scr_unseen.proofs.unseen.note_unseen.Goals as goal

pub returns-clause-lists : goal.returns-clause-lists
returns-clause-lists c = no_lists

pub returns-clause-open : goal.returns-clause-open
returns-clause-open c = open_stays

pub returns-clause-satisfied : goal.returns-clause-satisfied
returns-clause-satisfied c = same_satisfied
