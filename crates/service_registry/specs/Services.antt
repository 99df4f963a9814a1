-- What a service is: its interfaces, its properties, and which of two services is the better one.
use Rattle.std.specs.Prelude.{ℕ, ◌==◌, ◌&&◌, ◌||◌, List, [], ◌∷◌, map, Bool, false, not, nat_lt, if◌then◌else◌, Option, Some, None, ℤ, pos, neg_ℤ, int_lt, int_le, codes, filter}
use Rattle.std.specs.List.{list_any}
use Rattle.std.specs.Ordering.{int_eq}
use Rattle.std.specs.Str.{bytes_eq}
use Rattle.prop_map.specs.declared.value.Value.{Value}
use Rattle.prop_map.specs.declared.value.Value.TheVariants.{Text, Whole, Texts}
use Rattle.prop_map.specs.declared.properties.Property.{Property}
use Rattle.prop_map.specs.Maps.{get, put}
use Rattle.prop_map.specs.Words.{in_order}
use Rattle.service_registry.specs.declared.best_first.Ranked.{Ranked}
use Rattle.service_registry.specs.declared.row.ServiceRow.{ServiceRow}

-- Ranking: OSGi Core 8, section 5.2.5 (service properties), `service.ranking`, and the order of `ServiceReference.compareTo`. An `Integer` of
-- the standard is a whole number of 32 bits here.

-- the ranking that a value is: a whole number of 32 bits with a sign, else 0
abbrev pub ranking_in : Option Value → ℤ
ranking_in (Some (Whole n)) = if int_le (neg_ℤ (pos 2147483648)) n && int_le n (pos 2147483647) then n else pos 0
ranking_in _ = pos 0

abbrev pub ranking : List Property → ℤ
ranking properties = ranking_in (get properties (codes "service.ranking"))

-- of two services with rankings x and y and numbers a and b the first is better: its ranking is higher, or both are equal and its number is lower
abbrev pub ranks_before : ℤ → ℕ → ℤ → ℕ → Bool
ranks_before x a y b = int_lt y x || (int_eq x y && nat_lt a b)

abbrev pub better : ServiceRow → ServiceRow → Bool
better a b = ranks_before (ranking a.properties) a.id (ranking b.properties) b.id

-- what says how good a service is, and the same test on it
abbrev pub ranked : ServiceRow → Ranked
ranked r = record { ranking = ranking r.properties; id = r.id }

abbrev pub ranked_before : Ranked → Ranked → Bool
ranked_before a b = ranks_before a.ranking a.id b.ranking b.id

abbrev pub best_first : List ServiceRow → List ServiceRow
best_first rows = in_order better rows

abbrev pub first_of : List ServiceRow → Option ServiceRow
first_of [] = None
first_of (r ∷ rows) = Some r

-- the best one
abbrev pub best_of : List ServiceRow → Option ServiceRow
best_of rows = first_of (best_first rows)

-- the better of a service and another one, if there is one
abbrev pub better_one : ServiceRow → Option ServiceRow → ServiceRow
better_one r None = r
better_one r (Some other) = if better r other then r else other

abbrev pub ids : List ServiceRow → List ℕ
ids rows = map (λ (r : ServiceRow). r.id) rows

-- Interfaces: OSGi Core 8, section 5.2.2 (service interfaces).

-- the service has an interface
abbrev pub has_interface : List ℕ → ServiceRow → Bool
has_interface interface r = list_any (λ i. bytes_eq i interface) r.interfaces

-- Properties: OSGi Core 8, section 5.2.5 (service properties): `objectClass`, `service.id`, `service.bundleid` and `service.scope` are the
-- platform's own, in whatever case they were given.

-- the properties of a service: the platform's four over those that were given
abbrev pub with_service_properties : ℕ → ℕ → List (List ℕ) → List ℕ → List Property → List Property
with_service_properties service bundle interfaces scope given =
    put (put (put (put given (codes "objectClass") (Texts interfaces)) (codes "service.id") (Whole (pos service))) (codes "service.bundleid") (Whole (pos bundle))) (codes "service.scope") (Text scope)

-- the scope that properties tell; where they tell none it is the standard's usual one
abbrev pub scope_in : Option Value → List ℕ
scope_in (Some (Text scope)) = scope
scope_in _ = codes "singleton"

abbrev pub scope_of : List Property → List ℕ
scope_of properties = scope_in (get properties (codes "service.scope"))

-- Properties of a component that its service doesn't show: OSGi Compendium 8, chapter 112, component properties (a name that begins with a dot).

abbrev pub is_private : List ℕ → Bool
is_private [] = false
is_private (b ∷ bs) = b == 46

abbrev pub published : List Property → List Property
published properties = filter (λ (p : Property). not (is_private p.key)) properties
