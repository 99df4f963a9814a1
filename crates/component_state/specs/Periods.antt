-- Open periods of component configurations: from an entry that opens one to the next that closes it. Our own word for the stretch in which a
-- component configuration is satisfied and may be activated, OSGi Compendium 8, chapter 112, "Satisfied".
use Rattle.std.specs.Prelude.{ℕ, ◌==◌, ◌&&◌, List, ◌++◌, map, Bool, not, nat_lt, filter}
use Rattle.std.specs.List.{list_any}
use Rattle.journal_core.specs.declared.entry.Opened.{Opened}
use Rattle.prop_map.specs.Words.{has}
use Rattle.component_state.specs.declared.component.Component.{Component}
use Rattle.component_state.specs.declared.origin.Origin.{Origin}
use Rattle.component_state.specs.declared.open_period.OpenPeriod.{OpenPeriod}
use Rattle.component_state.specs.Rows.{row_in}

-- the component configuration of a number is open
abbrev pub is_open : List OpenPeriod → ℕ → Bool
is_open open_now number = list_any (λ (p : OpenPeriod). p.configuration == number) open_now

-- the period in which an instance was made hasn't ended
abbrev pub is_current : List OpenPeriod → Origin → Bool
is_current open_now o = list_any (λ (p : OpenPeriod). (p.configuration == o.configuration) && nat_lt p.opened o.created) open_now

-- the period that an entry at a place opens
abbrev pub opened_at : ℕ → List Component → Opened → OpenPeriod
opened_at place cs o = record { configuration = o.configuration; opened = place; row = row_in cs o.configuration o.service 0 }

-- what is open after an entry at a place that closes and opens these, in the order of the openings
abbrev pub open_after : ℕ → List Component → List ℕ → List Opened → List OpenPeriod → List OpenPeriod
open_after place cs closed opened open_before = filter (λ (p : OpenPeriod). not (has closed p.configuration)) open_before ++ map (opened_at place cs) opened
