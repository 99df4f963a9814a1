-- Target services of a reference, and the services that it chooses and desires.
use Rattle.std.specs.Prelude.{ℕ, ◌&&◌, ◌||◌, List, Bool, true, false, not, filter, take, nat_le, length, if◌then◌else◌}
use Rattle.std.specs.Option.{option_map_or}
use Rattle.prop_map.specs.declared.reference_words.Cardinality.{Cardinality}
use Rattle.prop_map.specs.declared.reference_words.Cardinality.TheVariants.{ZeroOrOne, One, ZeroOrMore, OneOrMore}
use Rattle.prop_map.specs.declared.reference_words.Policy.{Policy}
use Rattle.prop_map.specs.declared.reference_words.Policy.TheVariants.{Static, Dynamic}
use Rattle.prop_map.specs.declared.reference_words.PolicyOption.{PolicyOption}
use Rattle.prop_map.specs.declared.reference_words.PolicyOption.TheVariants.{Reluctant, Greedy}
use Rattle.prop_map.specs.Words.{has, is_empty}
use Rattle.ldap_filter.specs.Matching.{matches}
use Rattle.service_registry.specs.declared.row.ServiceRow.{ServiceRow}
use Rattle.service_registry.specs.Services.{best_first, has_interface, ids}
use Rattle.reference_match.specs.declared.need.Need.{Need}

-- Target services: OSGi Compendium 8, chapter 112, target services and reference cardinality.

-- a service meets a need: it has the interface and matches the filter, if there is one
abbrev pub meets : Need → ServiceRow → Bool
meets n s = has_interface n.interface s && ((not n.direct_only || s.direct) && (not n.none && option_map_or (λ tree. matches tree s.properties) n.filter true))

-- the services that a need can take, best first
abbrev pub targets : Need → List ServiceRow → List ℕ
targets n rows = ids (best_first (filter (meets n) rows))

-- it has its minimum of targets
abbrev pub is_met : List ServiceRow → Need → Bool
is_met rows n = nat_le n.minimum (length (filter (meets n) rows))

-- Choices: OSGi Compendium 8, chapter 112, reference cardinality, reference policy, reference policy option and bound service replacement.

abbrev pub is_multiple : Cardinality → Bool
is_multiple ZeroOrOne = false
is_multiple One = false
is_multiple ZeroOrMore = true
is_multiple OneOrMore = true

abbrev pub is_static : Policy → Bool
is_static Static = true
is_static Dynamic = false

abbrev pub is_greedy : PolicyOption → Bool
is_greedy Reluctant = false
is_greedy Greedy = true

-- of a list, best first: the whole where the cardinality is multiple, else its best one
abbrev pub chosen : Need → List ℕ → List ℕ
chosen n services = if is_multiple n.cardinality then services else take 1 services

-- the best held target, else the best target
abbrev pub best_held_or_best : List ℕ → List ℕ → List ℕ
best_held_or_best held services = if is_empty (filter (has held) services) then take 1 services else take 1 (filter (has held) services)

abbrev pub desired_by : Policy → PolicyOption → Bool → List ℕ → List ℕ → List ℕ → List ℕ
desired_by Static option multiple choice held services = choice
desired_by Dynamic option true choice held services = services
desired_by Dynamic Greedy false choice held services = take 1 services
desired_by Dynamic Reluctant false choice held services = best_held_or_best held services

-- the services that a reference desires, best first, where it chose, holds and can take these: the choice where it is static, else as its
-- cardinality and option say
abbrev pub desired : Need → List ℕ → List ℕ → List ℕ → List ℕ
desired n choice held services = desired_by n.policy n.option (is_multiple n.cardinality) choice held services
