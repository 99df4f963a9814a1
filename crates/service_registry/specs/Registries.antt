-- The table of services: OSGi Core 8, section 5.2 (services), registering, changing and unregistering. That numbers are given upward from 1 and
-- never again is the standard's (`service.id`); that a bundle changes its own services alone is our own.
use Rattle.std.specs.Prelude.{◌≡◌, ◌<◌, ℕ, ◌+◌, ◌==◌, ◌≤◌, List, [], ◌∷◌, ◌++◌, map, Bool, not, filter, find, Option, Some, None, if◌then◌else◌}
use Rattle.std.specs.List.{All, AllPairs}
use Rattle.std.specs.declared.result.Result.{Result}
use Rattle.std.specs.declared.result.Result.TheVariants.{Ok, Err}
use Rattle.prop_map.specs.declared.properties.Property.{Property}
use Rattle.service_registry.specs.declared.fault.RegistryFault.{RegistryFault}
use Rattle.service_registry.specs.declared.fault.RegistryFault.TheVariants.{NoService, NotOwner, OutOfMemory}
use Rattle.service_registry.specs.declared.row.ServiceRow.{ServiceRow}
use Rattle.service_registry.specs.Services.{scope_of, with_service_properties}

-- the services that are registered, by number, and how many numbers were given
pub record Registered : Type 0 where
  pub rows : List ServiceRow
  pub numbered : ℕ

-- each service has a lower number than those behind it, and all of their numbers were given
abbrev pub IsNumbered : Registered → Type 0
IsNumbered t = AllPairs (λ (a b : ServiceRow). a.id < b.id) t.rows × All (λ (r : ServiceRow). r.id ≤ t.numbered) t.rows

abbrev pub none_registered : Registered
none_registered = record { rows = []; numbered = 0 }

abbrev pub has_number : ℕ → ServiceRow → Bool
has_number service r = r.id == service

-- the service of a number, if it is registered
abbrev pub row_of : List ServiceRow → ℕ → Option ServiceRow
row_of rows service = find (has_number service) rows

-- the service that a bundle registers under a number
abbrev pub new_row : ℕ → ℕ → List (List ℕ) → List ℕ → List Property → Bool → ServiceRow
new_row service bundle interfaces scope given direct = record {
  id = service;
  bundle = bundle;
  interfaces = interfaces;
  properties = with_service_properties service bundle interfaces scope given;
  revision = 0;
  direct = direct;
}

-- one more service, with the next number
abbrev pub registered : ℕ → List (List ℕ) → List ℕ → List Property → Bool → Registered → Registered
registered bundle interfaces scope given direct t = record {
  rows = t.rows ++ new_row (t.numbered + 1) bundle interfaces scope given direct ∷ [];
  numbered = t.numbered + 1;
}

-- without a service
abbrev pub unregistered : ℕ → Registered → Registered
unregistered service t = record t { rows = filter (λ (r : ServiceRow). not (has_number service r)) t.rows }

-- a service with other properties: those given, and the platform's own over them, its scope as it was; its revision rises
abbrev pub set_row : List Property → ServiceRow → ServiceRow
set_row given r = record r { properties = with_service_properties r.id r.bundle r.interfaces (scope_of r.properties) given; revision = r.revision + 1 }

abbrev pub with_properties : ℕ → List Property → Registered → Registered
with_properties service given t = record t { rows = map (λ (r : ServiceRow). if has_number service r then set_row given r else r) t.rows }

-- A bundle changes and unregisters its own services alone.

-- why a bundle can't change a service: it isn't registered, or it is another bundle's
abbrev pub refusal_for : ℕ → ℕ → Option ServiceRow → Option RegistryFault
refusal_for bundle service None = Some (NoService service)
refusal_for bundle service (Some r) = if r.bundle == bundle then None else Some (NotOwner r.bundle)

abbrev pub refusal : ℕ → ℕ → Registered → Option RegistryFault
refusal bundle service t = refusal_for bundle service (row_of t.rows service)

-- a call is refused where this refusal is due, and else for want of memory alone
abbrev pub IsRefusedBy : {A : Type 0} → Option RegistryFault → Result A RegistryFault → Type 0
IsRefusedBy refusal (Ok x) = refusal ≡ None
IsRefusedBy None (Err fault) = fault ≡ OutOfMemory
IsRefusedBy (Some due) (Err fault) = fault ≡ due

-- What a bundle's stop leaves.

-- without the services of a bundle
abbrev pub without_bundle : ℕ → Registered → Registered
without_bundle bundle t = record t { rows = filter (λ (r : ServiceRow). not (r.bundle == bundle)) t.rows }

-- so many numbers more, given to services whose rows stand elsewhere
abbrev pub with_numbers_given : ℕ → Registered → Registered
with_numbers_given more t = record t { numbered = t.numbered + more }
