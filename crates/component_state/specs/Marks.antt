-- Component configurations that failed, and those that are held back. Our own; OSGi Compendium 8, chapter 112, leaves open when a failed activation is tried again.
use Rattle.std.specs.Prelude.{ℕ, ◌==◌, ◌&&◌, List, ◌++◌, map, Bool, not, filter}
use Rattle.std.specs.List.{list_any}
use Rattle.prop_map.specs.Words.{has}
use Rattle.component_state.specs.declared.component.Component.{Component}
use Rattle.component_state.specs.declared.origin.Origin.{Origin}
use Rattle.component_state.specs.declared.open_period.OpenPeriod.{OpenPeriod}
use Rattle.component_state.specs.Components.{exists, is_changed_at}
use Rattle.component_state.specs.Periods.{is_current}

-- it hasn't ceased, and the entry at this place didn't change its properties
abbrev pub exists_unchanged : ℕ → List Component → ℕ → Bool
exists_unchanged place cs number = list_any (λ (c : Component). (c.number == number) && (c.exists && not (is_changed_at place c))) cs

-- the failed ones after the entry at a place: those that were failed and satisfied before it and live with equal properties, and those whose
-- creation or activation ended in it without success, which closes their open period
abbrev pub failed_after : ℕ → List ℕ → List Component → List ℕ → List ℕ → List ℕ
failed_after place satisfied cs failing failed = filter (λ n. has satisfied n && exists_unchanged place cs n) failed ++ filter (exists cs) failing

-- those with a living instance of a period that has ended
abbrev pub with_leaving : List OpenPeriod → List Origin → List ℕ
with_leaving open_now origins = map (λ (o : Origin). o.configuration) (filter (λ o. not (is_current open_now o)) origins)

-- held back are the failed ones, and those with a living instance of a period that has ended
abbrev pub held_back : List ℕ → List OpenPeriod → List Origin → List ℕ
held_back failed open_now origins = failed ++ with_leaving open_now origins
