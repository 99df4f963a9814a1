-- The revisions that were told last, by service and by reference. Our own.
use Rattle.std.specs.Prelude.{◌≡◌, ◌<◌, ◌==◌, ℕ, List, [], Bool, filter, find, not, unwrap_or}
use Rattle.std.specs.List.{AllPairs}
use Rattle.std.specs.Option.{option_map_or}
use Rattle.std.specs.Ordering.{is_lt, nat_cmp}
use Rattle.prop_map.specs.Words.{insert_by}
use Rattle.shared_map.specs.Rows.{value_of}
use Rattle.shared_map.specs.declared.rows.Row.{Row}
use Rattle.told_revisions.specs.declared.services.ServiceRevision.{ServiceRevision}
use Rattle.told_revisions.specs.declared.tellings.ToldRevision.{ToldRevision}
use Rattle.told_revisions.specs.Told.{revision_told}

-- the rows stand by ascending service
abbrev pub AreByService : List ServiceRevision → Type 0
AreByService rows = AllPairs (λ (r s : ServiceRevision). r.service < s.service) rows

-- whether a row is of a service
abbrev pub has_service : ℕ → ServiceRevision → Bool
has_service service r = r.service == service

-- the revision of a service's row, 0 where it has none
abbrev pub revision_of : List ServiceRevision → ℕ → ℕ
revision_of rows service = option_map_or (λ (r : ServiceRevision). r.revision) (find (has_service service) rows) 0

-- the rows without a service's
abbrev pub without_service : ℕ → List ServiceRevision → List ServiceRevision
without_service service rows = filter (λ (r : ServiceRevision). not (has_service service r)) rows

abbrev pub goes_before : ServiceRevision → ServiceRevision → Bool
goes_before r s = is_lt (nat_cmp r.service s.service)

-- the rows with one of a service, in the order of their services
abbrev pub with_service : ServiceRevision → List ServiceRevision → List ServiceRevision
with_service row rows = insert_by goes_before row (without_service row.service rows)

-- the rows of a reference, none where it has none
abbrev pub services_in : List ℕ → List (Row (List ServiceRevision)) → List ServiceRevision
services_in reference latest = unwrap_or (value_of reference latest) []

-- for each reference the rows stand by service
abbrev pub AreOrdered : List (Row (List ServiceRevision)) → Type 0
AreOrdered latest = (reference : List ℕ) → AreByService (services_in reference latest)

-- the rows say of each service what was told last
pub record AreLatest (latest : List (Row (List ServiceRevision))) (told : List ToldRevision) : Type 0 where
  pub order : AreOrdered latest
  pub revisions : (reference : List ℕ) (service : ℕ) → revision_of (services_in reference latest) service ≡ revision_told told reference service
