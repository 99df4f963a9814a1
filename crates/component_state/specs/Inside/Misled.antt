-- Three of the reasons to close in one, as a look at each living instance finds them. For code and proofs; our own.
use Rattle.std.specs.Prelude.{ℕ, ◌&&◌, ◌||◌, List, Bool}
use Rattle.reference_match.specs.declared.need.Need.{Need}
use Rattle.service_registry.specs.declared.row.ServiceRow.{ServiceRow}
use Rattle.component_state.specs.declared.component.Component.{Component}
use Rattle.component_state.specs.declared.origin.Origin.{Origin}
use Rattle.component_state.specs.declared.open_period.OpenPeriod.{OpenPeriod}
use Rattle.component_state.specs.Periods.{is_current}
use Rattle.component_state.specs.Reasons.{has_lost, is_of, has_untold_change, some_choice, would_choose}

-- a choice isn't right any more
abbrev pub is_outdated : Need → List ℕ → List ℕ → Bool
is_outdated n choice services = has_lost n choice services || would_choose n choice services

-- a life's choice for a static reference is outdated
abbrev pub chose_outdated : List ServiceRow → Component → Origin → Bool
chose_outdated rows c o = some_choice is_outdated rows c o

-- a living instance is misled: the properties changed that it was made with, or it is of the period before the entry and chose what is outdated
abbrev pub is_misled : ℕ → List OpenPeriod → List ServiceRow → Component → Origin → Bool
is_misled place open_before rows c o = is_of c o && (has_untold_change place c || (is_current open_before o && chose_outdated rows c o))
