-- The pass after an entry's step: what closes, what opens, what is open and satisfied then. OSGi Compendium 8, chapter 112, "Satisfied"; the order is our own.
use Rattle.std.specs.Prelude.{◌≡◌, ℕ, ◌+◌, ◌&&◌, List, [], ◌∷◌, ◌++◌, not, filter, if◌then◌else◌}
use Rattle.component_dto.specs.declared.description.Description.{Description}
use Rattle.journal_core.specs.declared.entry.Opened.{Opened}
use Rattle.prop_map.specs.Words.{has}
use Rattle.service_registry.specs.declared.row.ServiceRow.{ServiceRow}
use Rattle.component_state.specs.declared.component.Component.{Component}
use Rattle.component_state.specs.declared.origin.Origin.{Origin}
use Rattle.component_state.specs.declared.open_period.OpenPeriod.{OpenPeriod}
use Rattle.component_state.specs.declared.pass.Passed.{Passed}
use Rattle.component_state.specs.Components.{numbers_of, provides_no_service, pass_order}
use Rattle.component_state.specs.Periods.{is_open, open_after}
use Rattle.component_state.specs.Rows.{rows_of}
use Rattle.component_state.specs.Scratch.{satisfied}
use Rattle.component_state.specs.Marks.{held_back}
use Rattle.component_state.specs.Reasons.{has_reason}

-- what stands when the pass of an entry begins: the entry's place, the number of the next service, the descriptions of all installed bundles
-- with their levels, the direct services, the component configurations, what was open before the entry with the properties that it has now,
-- the living instances, the component configurations that are failed after it, and those whose creation or activation ended in it without success
pub record Stage : Type 0 where
  pub place : ℕ
  pub next : ℕ
  pub descriptions : List Description
  pub levels : List ℕ
  pub direct : List ServiceRow
  pub components : List Component
  pub open_before : List OpenPeriod
  pub origins : List Origin
  pub failed : List ℕ
  pub failing : List ℕ

abbrev pub pass_order_of : Stage → List Component
pass_order_of s = pass_order s.descriptions s.levels s.components

-- the services where these are open
abbrev pub services_in : Stage → List OpenPeriod → List ServiceRow
services_in s now = s.direct ++ rows_of now

-- held back where these are open
abbrev pub held_back_in : Stage → List OpenPeriod → List ℕ
held_back_in s now = held_back s.failed now s.origins

-- the satisfied ones where these are open
abbrev pub satisfied_where : Stage → List OpenPeriod → List ℕ
satisfied_where s now = numbers_of (satisfied s.descriptions s.levels s.direct now s.components (held_back_in s now))

-- what closes: what was open and has a reason
abbrev pub closing : Stage → List OpenPeriod → List ℕ
closing s now =
    let rows = services_in s now in let met = satisfied_where s now in
    numbers_of (filter (λ (c : Component). is_open s.open_before c.number && has_reason s.place s.open_before rows met s.origins s.failing c) (pass_order_of s))

-- what opens: what is satisfied, isn't held back and wasn't open
abbrev pub opening : Stage → List OpenPeriod → List Component
opening s now =
    let out = held_back_in s now in let met = satisfied_where s now in
    filter (λ (c : Component). has met c.number && (not (has out c.number) && not (is_open s.open_before c.number))) (pass_order_of s)

-- what opens with the next service number: its service has that number, or 0 where it registers none
abbrev pub opened_one : ℕ → Component → Opened
opened_one next c = record { configuration = c.number; service = if provides_no_service c then 0 else next }

abbrev pub next_after : ℕ → Component → ℕ
next_after next c = if provides_no_service c then next else next + 1

-- new services are numbered on
abbrev pub opened_from : ℕ → List Component → List Opened
opened_from next [] = []
opened_from next (c ∷ cs) = opened_one next c ∷ opened_from (next_after next c) cs

-- the number of the next service after these opened
abbrev pub next_from : ℕ → List Component → ℕ
next_from next [] = next
next_from next (c ∷ cs) = next_from (next_after next c) cs

-- a pass: what closes and opens is judged by what is open and satisfied after it, and then just the satisfied ones that aren't held back are open
pub record HasPassed (s : Stage) (p : Passed) : Type 0 where
  pub closed : p.closed ≡ closing s p.open_now
  pub opened : p.opened ≡ opened_from s.next (opening s p.open_now)
  pub open_now : p.open_now ≡ open_after s.place s.components p.closed p.opened s.open_before
  pub satisfied : p.satisfied ≡ satisfied_where s p.open_now
  pub next : p.next_service ≡ next_from s.next (opening s p.open_now)
  pub scratch : (number : ℕ) → is_open p.open_now number ≡ (has p.satisfied number && not (has (held_back_in s p.open_now) number))
