-- The satisfied component configurations, evaluated from scratch, level by level. OSGi Compendium 8, chapter 112, "Satisfied"; levels are our own.
use Rattle.std.specs.Prelude.{ℕ, zero, suc, ◌&&◌, List, [], ◌++◌, map, Bool, not, filter}
use Rattle.std.specs.List.{list_all}
use Rattle.component_dto.specs.declared.description.Description.{Description}
use Rattle.prop_map.specs.Words.{has}
use Rattle.reference_match.specs.Targets.{is_met}
use Rattle.service_registry.specs.declared.row.ServiceRow.{ServiceRow}
use Rattle.component_state.specs.declared.component.Component.{Component}
use Rattle.component_state.specs.declared.open_period.OpenPeriod.{OpenPeriod}
use Rattle.component_state.specs.Components.{needs_of, lacks_configuration, existing, of_level, numbers_of, level_count}
use Rattle.component_state.specs.Rows.{row_by, service_in}

-- it has the configuration that its policy asks for, and each reference, the implicit one too, has its minimum of targets among these services
abbrev pub is_satisfied : List ServiceRow → Component → Bool
is_satisfied rows c = not (lacks_configuration c) && list_all (is_met rows) (needs_of c)

-- those that offer their services: the ones that aren't left out
abbrev pub offering : List ℕ → List Component → List Component
offering left_out cs = filter (λ (c : Component). not (has left_out c.number)) cs

-- a service with the number that it has where these are open
abbrev pub offered : List OpenPeriod → Component → ServiceRow
offered open_now c = row_by c (service_in open_now c.number) 0

-- the satisfied ones of the levels below this one, by level, then by number, where those in `left_out` offer nothing
abbrev pub satisfied_below : List Description → List ℕ → List ServiceRow → List OpenPeriod → List Component → List ℕ → ℕ → List Component
satisfied_below ds levels direct open_now cs left_out zero = []
satisfied_below ds levels direct open_now cs left_out (suc n) =
    let below = satisfied_below ds levels direct open_now cs left_out n in
    below ++ filter (is_satisfied (direct ++ map (offered open_now) (offering left_out below))) (of_level ds levels cs n)

-- the satisfied component configurations
abbrev pub satisfied : List Description → List ℕ → List ServiceRow → List OpenPeriod → List Component → List ℕ → List Component
satisfied ds levels direct open_now cs left_out = satisfied_below ds levels direct open_now (existing cs) left_out (suc (level_count levels))

-- the satisfied ones that aren't left out
abbrev pub open_from_scratch : List Description → List ℕ → List ServiceRow → List OpenPeriod → List Component → List ℕ → List ℕ
open_from_scratch ds levels direct open_now cs left_out = numbers_of (offering left_out (satisfied ds levels direct open_now cs left_out))
