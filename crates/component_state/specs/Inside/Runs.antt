-- The pass as its code goes, one component configuration after the other, each judged by what is open so far. Our own.
use Rattle.std.specs.Prelude.{ℕ, ◌==◌, ◌&&◌, ◌||◌, List, [], ◌∷◌, ◌++◌, Bool, not, filter, fold, if◌then◌else◌}
use Rattle.std.specs.List.{list_any}
use Rattle.prop_map.specs.Words.{has}
use Rattle.service_registry.specs.declared.row.ServiceRow.{ServiceRow}
use Rattle.component_state.specs.declared.component.Component.{Component}
use Rattle.component_state.specs.declared.origin.Origin.{Origin}
use Rattle.component_state.specs.declared.open_period.OpenPeriod.{OpenPeriod}
use Rattle.component_state.specs.declared.pass.Passed.{Passed}
use Rattle.component_state.specs.Inside.Misled.{is_misled}
use Rattle.component_state.specs.Passes.{Stage, pass_order_of, opened_one, next_after, services_in}
use Rattle.component_state.specs.Periods.{is_open, opened_at}
use Rattle.component_state.specs.Scratch.{is_satisfied}

-- it hasn't ceased, and is satisfied by these services
abbrev pub exists_satisfied : List ServiceRow → Component → Bool
exists_satisfied rows c = c.exists && is_satisfied rows c

-- what was open has to close
abbrev pub must_close : Stage → List ServiceRow → Component → Bool
must_close s rows c = not (exists_satisfied rows c) || has s.failing c.number || list_any (is_misled s.place s.open_before rows c) s.origins

abbrev pub has_life : List Origin → ℕ → Bool
has_life origins number = list_any (λ (l : Origin). l.configuration == number) origins

-- what wasn't open may open
abbrev pub may_open : Stage → List ServiceRow → Component → Bool
may_open s rows c = exists_satisfied rows c && (not (has s.failed c.number) && not (has_life s.origins c.number))

abbrev pub nothing_passed : ℕ → List OpenPeriod → Passed
nothing_passed next open_before = record { closed = []; opened = []; open_now = open_before; satisfied = []; next_service = next }

abbrev pub noted : List ServiceRow → Component → Passed → Passed
noted rows c p = record p { satisfied = if exists_satisfied rows c then p.satisfied ++ c.number ∷ [] else p.satisfied }

abbrev pub with_closed : ℕ → Passed → Passed
with_closed number p = record p { closed = p.closed ++ number ∷ []; open_now = filter (λ (o : OpenPeriod). not (o.configuration == number)) p.open_now }

abbrev pub with_opened : ℕ → List Component → Component → Passed → Passed
with_opened place cs c p = record p {
  opened = p.opened ++ opened_one p.next_service c ∷ [];
  open_now = p.open_now ++ opened_at place cs (opened_one p.next_service c) ∷ [];
  next_service = next_after p.next_service c;
}

abbrev pub closing_step : Stage → Component → Passed → Passed
closing_step s c p = let rows = services_in s p.open_now in if must_close s rows c then with_closed c.number (noted rows c p) else noted rows c p

abbrev pub opening_step : Stage → Component → Passed → Passed
opening_step s c p = let rows = services_in s p.open_now in if may_open s rows c then with_opened s.place s.components c (noted rows c p) else noted rows c p

-- one component configuration: it is noted where it stands, and closes or opens where it has to
abbrev pub passed_one : Stage → Passed → Component → Passed
passed_one s p c = if is_open s.open_before c.number then closing_step s c p else opening_step s c p

-- the whole pass
abbrev pub passed_all : Stage → Passed
passed_all s = fold (passed_one s) (nothing_passed s.next s.open_before) (pass_order_of s)
