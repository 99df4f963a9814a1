use Rattle.wb_filters.proofs.FilterLemmas.{behind_next, first_next}
use Rattle.wb_filters.proofs.filters.next_of.Goals as goal

pub returns-in-None : goal.returns-in-None
returns-in-None c = first_next _ _ _ c.in-None.is c.first.ensures

pub returns-in-Some : goal.returns-in-Some
returns-in-Some c = behind_next _ _ _ _ c.in-Some.is c.behind.ensures
