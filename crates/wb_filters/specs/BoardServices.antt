-- What the whiteboard takes from the service of a filter or of an error page (OSGi Compendium 8, sections 140.4 and 140.5): the contexts that
-- it selects, and the texts of its property.
use Rattle.std.specs.Prelude.{ℕ, List, [], ◌∷◌, Bool, not, codes, map, Option, Some, None}
use Rattle.prop_map.specs.declared.value.Value.{Value}
use Rattle.prop_map.specs.declared.value.Value.TheVariants.{Text, Texts}
use Rattle.prop_map.specs.Maps.{get}
use Rattle.prop_map.specs.Words.{in_order}
use Rattle.service_registry.specs.declared.row.ServiceRow.{ServiceRow}
use Rattle.service_registry.specs.Services.{ranking, ranks_before}
use Rattle.wb_routes.specs.declared.select.Select.{Select}
use Rattle.wb_routes.specs.Servlets.{select_by, select_key}
use Rattle.wb_filters.specs.declared.board_service.BoardService.{BoardService}

abbrev pub filter_key : List ℕ
filter_key = codes "osgi.http.whiteboard.filter.pattern"

abbrev pub page_key : List ℕ
page_key = codes "osgi.http.whiteboard.servlet.errorPage"

-- a text, or each of several; what is neither has none
abbrev pub texts_in : Option Value → List (List ℕ)
texts_in (Some (Text text)) = text ∷ []
texts_in (Some (Texts texts)) = texts
texts_in _ = []

abbrev pub service_with : ServiceRow → Select → List (List ℕ) → BoardService
service_with r select texts = record { service = r.id; ranking = ranking r.properties; select = select; texts = texts }

-- what a service is by its property of a key
abbrev pub service_by : List ℕ → ServiceRow → BoardService
service_by key r = service_with r (select_by (get r.properties select_key)) (texts_in (get r.properties key))

abbrev pub is_better : BoardService → BoardService → Bool
is_better a b = ranks_before a.ranking a.service b.ranking b.service

-- the services, the best first; two that no test tells apart stay as they came
abbrev pub best_by : List ℕ → List ServiceRow → List BoardService
best_by key rows = in_order (λ (a b : BoardService). not (is_better b a)) (map (service_by key) rows)
