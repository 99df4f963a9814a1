-- Chains and pages of some services, computed.
use Rattle.std.proofs.Common.{◌≡◌, ℕ, List, [], ◌∷◌, false, codes, Some, None, pos, refl}
use Rattle.prop_map.specs.declared.properties.Property.{Property}
use Rattle.prop_map.specs.declared.value.Value.{Value}
use Rattle.prop_map.specs.declared.value.Value.TheVariants.{Text, Texts, Whole}
use Rattle.service_registry.specs.declared.row.ServiceRow.{ServiceRow}
use Rattle.wb_filters.specs.Chains.{chain_of, next_in}
use Rattle.wb_filters.specs.Pages.{page_of}

abbrev property : List ℕ → Value → Property
property key value = record { key = key; value = value }

abbrev service_row : ℕ → List Property → ServiceRow
service_row id properties = record { id = id; bundle = 1; interfaces = []; properties = properties; revision = 0; direct = false }

abbrev ranked : ℕ → Property
ranked n = property (codes "service.ranking") (Whole (pos n))

abbrev servlets : List ServiceRow
servlets =
    service_row 1 (property (codes "osgi.http.whiteboard.servlet.pattern") (Text (codes "/s")) ∷ [])
    ∷ service_row 2 (property (codes "osgi.http.whiteboard.servlet.pattern") (Text (codes "/t")) ∷ []) ∷ []

abbrev filters : List ServiceRow
filters =
    service_row 3 (property (codes "osgi.http.whiteboard.filter.pattern") (Text (codes "/*")) ∷ [])
    ∷ service_row 4 (property (codes "osgi.http.whiteboard.filter.pattern") (Text (codes "/t")) ∷ ranked 1 ∷ []) ∷ []

abbrev pages : List ServiceRow
pages = service_row 5 (property (codes "osgi.http.whiteboard.servlet.errorPage") (Texts (codes "404" ∷ codes "5xx" ∷ [])) ∷ []) ∷ []

abbrev more_pages : List ServiceRow
more_pages = service_row 6 (property (codes "osgi.http.whiteboard.servlet.errorPage") (Text (codes "4xx")) ∷ ranked 9 ∷ []) ∷ pages

-- a filter's path above is on the way of each servlet, and the better filter stands first
pub of_one : chain_of [] servlets filters (codes "/s") ≡ 3 ∷ []
of_one = refl

pub of_two : chain_of [] servlets filters (codes "/t") ≡ 4 ∷ 3 ∷ []
of_two = refl

pub of_none : chain_of [] servlets filters (codes "/u") ≡ []
of_none = refl

pub behind_the_better : next_in (chain_of [] servlets filters (codes "/t")) (Some 4) ≡ Some 3
behind_the_better = refl

pub behind_a_missing_one : next_in (chain_of [] servlets filters (codes "/s")) (Some 4) ≡ None
behind_a_missing_one = refl

-- a page by its status goes before a better one by its class
pub not_found : page_of [] pages (codes "/u") 404 ≡ Some 5
not_found = refl

pub broken : page_of [] pages (codes "/u") 503 ≡ Some 5
broken = refl

pub forbidden : page_of [] pages (codes "/u") 403 ≡ None
forbidden = refl

pub by_its_status : page_of [] more_pages (codes "/u") 404 ≡ Some 5
by_its_status = refl

pub by_its_class : page_of [] more_pages (codes "/u") 403 ≡ Some 6
by_its_class = refl

-- a number is no text, and no text names a status without three digits
abbrev amiss : List ServiceRow
amiss =
    service_row 7 (property (codes "osgi.http.whiteboard.servlet.errorPage") (Whole (pos 404)) ∷ [])
    ∷ service_row 8 (property (codes "osgi.http.whiteboard.servlet.errorPage") (Texts (codes "000" ∷ codes "1000" ∷ codes ":00" ∷ codes "0xx" ∷ [])) ∷ []) ∷ []

pub by_a_number : page_of [] amiss (codes "/u") 404 ≡ None
by_a_number = refl

pub status_0 : page_of [] amiss (codes "/u") 0 ≡ None
status_0 = refl

pub status_1000 : page_of [] amiss (codes "/u") 1000 ≡ None
status_1000 = refl
