-- What the whiteboard takes from a servlet's service (OSGi Compendium 8, section 140.4): its patterns, and the contexts that it selects.
use Rattle.std.specs.Prelude.{ℕ, List, [], ◌∷◌, Bool, false, not, codes, filter, map, is_some, Option, Some, None}
use Rattle.std.specs.Option.{option_map_or}
use Rattle.std.specs.Str.{bytes_eq}
use Rattle.ldap_filter.specs.Matching.{matches}
use Rattle.ldap_filter.specs.Texts.{filter_of}
use Rattle.prop_map.specs.declared.value.Value.{Value}
use Rattle.prop_map.specs.declared.value.Value.TheVariants.{Text, Texts}
use Rattle.prop_map.specs.Maps.{get}
use Rattle.prop_map.specs.Words.{in_order}
use Rattle.service_registry.specs.declared.row.ServiceRow.{ServiceRow}
use Rattle.service_registry.specs.Services.{ranking, ranks_before}
use Rattle.wb_context.specs.declared.context.Context.{Context}
use Rattle.wb_context.specs.Contexts.{default_name}
use Rattle.wb_context.specs.Firsts.{first_of_each}
use Rattle.wb_pattern.specs.Patterns.{pattern_of}
use Rattle.wb_routes.specs.declared.select.Select.{Select}
use Rattle.wb_routes.specs.declared.select.Select.TheVariants.{ByDefault, ByFilter, Never}
use Rattle.wb_routes.specs.declared.servlet.Servlet.{Servlet}

abbrev pub pattern_key : List ℕ
pattern_key = codes "osgi.http.whiteboard.servlet.pattern"

abbrev pub select_key : List ℕ
select_key = codes "osgi.http.whiteboard.context.select"

-- which contexts a servlet selects: by a filter, or the one of the name `default`; a text that is no filter, and what is no text, selects none
abbrev pub select_by : Option Value → Select
select_by None = ByDefault
select_by (Some (Text text)) = option_map_or ByFilter (filter_of text) Never
select_by (Some _) = Never

abbrev pub selects : Select → Context → Bool
selects ByDefault c = bytes_eq c.name default_name
selects (ByFilter tree) c = matches tree c.properties
selects Never c = false

-- the text spells a pattern
abbrev pub is_pattern : List ℕ → Bool
is_pattern text = is_some (pattern_of text)

abbrev pub each_once : List (List ℕ) → List (List ℕ)
each_once texts = first_of_each (λ (t : List ℕ). t) texts

-- the texts of a servlet's patterns, each once
abbrev pub patterns_in : Option Value → List (List ℕ)
patterns_in (Some (Text text)) = text ∷ []
patterns_in (Some (Texts texts)) = each_once texts
patterns_in _ = []

-- the texts that are no patterns; the empty one stands for a property that is neither a text nor texts
abbrev pub faulty_in : Option Value → List (List ℕ)
faulty_in (Some (Text text)) = filter (λ t. not (is_pattern t)) (text ∷ [])
faulty_in (Some (Texts texts)) = filter (λ t. not (is_pattern t)) (each_once texts)
faulty_in _ = [] ∷ []

abbrev pub servlet_with : ServiceRow → Select → List (List ℕ) → List (List ℕ) → Servlet
servlet_with r select patterns faulty = record { service = r.id; ranking = ranking r.properties; select = select; patterns = patterns; faulty = faulty }

-- the servlet that a service is
abbrev pub servlet_of : ServiceRow → Servlet
servlet_of r = servlet_with r (select_by (get r.properties select_key)) (filter is_pattern (patterns_in (get r.properties pattern_key))) (faulty_in (get r.properties pattern_key))

abbrev pub is_better : Servlet → Servlet → Bool
is_better a b = ranks_before a.ranking a.service b.ranking b.service

-- the servlets of services, the best first; two that no test tells apart stay as they came
abbrev pub servlets_of : List ServiceRow → List Servlet
servlets_of rows = in_order (λ (a b : Servlet). not (is_better b a)) (map servlet_of rows)
