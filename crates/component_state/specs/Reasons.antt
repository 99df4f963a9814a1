-- Why an open component configuration closes. OSGi Compendium 8, chapter 112, "Satisfied", "Modification", "Reference Policy", "Reference Policy Option"; that a failed
-- creation or activation closes is our own.
use Rattle.std.specs.Prelude.{ℕ, ◌==◌, ◌&&◌, ◌||◌, List, [], Bool, not, find, is_none}
use Rattle.std.specs.List.{list_any, list_all}
use Rattle.std.specs.Option.{option_map_or}
use Rattle.component_dto.specs.declared.description.Reference.{Reference}
use Rattle.prop_map.specs.Words.{has, same_set, with_places}
use Rattle.reference_match.specs.declared.need.Need.{Need}
use Rattle.reference_match.specs.Needs.{need_of}
use Rattle.reference_match.specs.Targets.{targets, chosen, is_static, is_greedy}
use Rattle.service_registry.specs.declared.row.ServiceRow.{ServiceRow}
use Rattle.component_state.specs.declared.component.Component.{Component}
use Rattle.component_state.specs.declared.origin.Choice.{Choice}
use Rattle.component_state.specs.declared.origin.Origin.{Origin}
use Rattle.component_state.specs.declared.open_period.OpenPeriod.{OpenPeriod}
use Rattle.component_state.specs.Components.{is_changed_at}
use Rattle.component_state.specs.Periods.{is_current}

-- the services that were chosen for the reference at an index
abbrev pub choice_at : List Choice → ℕ → List ℕ
choice_at choices index = option_map_or (λ (c : Choice). c.services) (find (λ (c : Choice). c.reference == index) choices) []

-- some static reference's choice, with the services that it can take now, passes a test
abbrev pub some_choice : (Need → List ℕ → List ℕ → Bool) → List ServiceRow → Component → Origin → Bool
some_choice test rows c o =
    list_any (λ (r : ℕ × Reference). is_static r.1.policy && (let n = need_of c.properties r.1 in test n (choice_at o.chosen r.0) (targets n rows))) (with_places 0 c.description.references)

-- a chosen service is no target
abbrev pub has_lost : Need → List ℕ → List ℕ → Bool
has_lost n choice services = not (list_all (has services) choice)

abbrev pub lost_a_choice : List ServiceRow → Component → Origin → Bool
lost_a_choice rows c o = some_choice has_lost rows c o

-- the reference is greedy and would choose others now
abbrev pub would_choose : Need → List ℕ → List ℕ → Bool
would_choose n choice services = is_greedy n.option && not (same_set choice (chosen n services))

abbrev pub would_choose_others : List ServiceRow → Component → Origin → Bool
would_choose_others rows c o = some_choice would_choose rows c o

-- its properties changed in the entry at a place, and it names no callback that is told of it
abbrev pub has_untold_change : ℕ → Component → Bool
has_untold_change place c = is_changed_at place c && is_none c.description.modified

-- a living instance is of the component configuration
abbrev pub is_of : Component → Origin → Bool
is_of c o = o.configuration == c.number

-- and of its open period
abbrev pub is_of_open : List OpenPeriod → Component → Origin → Bool
is_of_open open_before c o = is_of c o && is_current open_before o

-- a component configuration that was open before the entry at a place has a reason to close in it: it has ceased; it isn't satisfied; its properties
-- changed, an instance was made with the old ones, and it names no callback that is told of it; an instance of its open period chose a service that
-- is no target, or it would choose others now for a greedy reference; or its creation or activation ended without success
abbrev pub has_reason : ℕ → List OpenPeriod → List ServiceRow → List ℕ → List Origin → List ℕ → Component → Bool
has_reason place open_before rows satisfied origins failing c =
    not c.exists
    || not (has satisfied c.number)
    || (has_untold_change place c && list_any (is_of c) origins)
    || list_any (λ o. is_of_open open_before c o && lost_a_choice rows c o) origins
    || list_any (λ o. is_of_open open_before c o && would_choose_others rows c o) origins
    || has failing c.number
