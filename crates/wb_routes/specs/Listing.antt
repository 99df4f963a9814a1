-- The routes that are in effect, and what isn't and why (our own form).
use Rattle.std.specs.Prelude.{ℕ, ◌==◌, ◌||◌, ◌&&◌, List, [], ◌∷◌, ◌++◌, Bool, false, not, map, flat_map, nat_lt, Option, Some, None, Result, Ok, Err, if◌then◌else◌}
use Rattle.std.specs.List.{list_any}
use Rattle.prop_map.specs.Words.{in_order, is_empty, text_before}
use Rattle.service_registry.specs.declared.row.ServiceRow.{ServiceRow}
use Rattle.wb_context.specs.declared.context.Context.{Context}
use Rattle.wb_context.specs.declared.context_fault.ContextFault.{ContextFault}
use Rattle.wb_context.specs.Contexts.{context_of}
use Rattle.wb_context.specs.ContextOrder.{contexts_in_order}
use Rattle.wb_context.specs.Firsts.{first_of_each}
use Rattle.wb_routes.specs.declared.route_row.RouteRow.{RouteRow}
use Rattle.wb_routes.specs.declared.route_failure.RouteFailure.{RouteFailure}
use Rattle.wb_routes.specs.declared.route_failure.RouteCause.{RouteCause}
use Rattle.wb_routes.specs.declared.route_failure.RouteCause.TheVariants.{NoContext, Shadowed, BadPattern, BadContext}
use Rattle.wb_routes.specs.declared.servlet.Servlet.{Servlet}
use Rattle.wb_routes.specs.declared.table.Table.{Table}
use Rattle.wb_routes.specs.Choices.{owner_in}
use Rattle.wb_routes.specs.Servlets.{selects, servlets_of}

abbrev pub as_context : Result Context ContextFault → List Context
as_context (Ok c) = c ∷ []
as_context (Err fault) = []

-- the contexts of services that are some
abbrev pub read_contexts : List ServiceRow → List Context
read_contexts rows = flat_map (λ r. as_context (context_of r)) rows

-- the patterns of a servlet in a context
abbrev pub row_of : Context → Servlet → List ℕ → RouteRow
row_of c s text = record { path = c.path; pattern = text; service = s.service }

abbrev pub rows_of : Context → Servlet → List RouteRow
rows_of c s = if selects s.select c then map (row_of c s) s.patterns else []

-- the patterns of a context, each with its best servlet, in byte order
abbrev pub by_pattern : List RouteRow → List RouteRow
by_pattern rows = in_order (λ (a b : RouteRow). not (text_before b.pattern a.pattern)) rows

abbrev pub rows_in : List Servlet → Context → List RouteRow
rows_in servlets c = by_pattern (first_of_each (λ (r : RouteRow). r.pattern) (flat_map (rows_of c) servlets))

abbrev pub table_of : List Servlet → Context → Table
table_of servlets c = record { context = c; rows = rows_in servlets c }

abbrev pub tables_of : List ServiceRow → List ServiceRow → List Table
tables_of contexts servlets = map (table_of (servlets_of servlets)) (contexts_in_order (read_contexts contexts))

abbrev pub all_rows : List Table → List RouteRow
all_rows tables = flat_map (λ (t : Table). t.rows) tables

-- ---- failures

abbrev pub bad_context : ServiceRow → List RouteFailure
bad_context r = if is_empty (as_context (context_of r)) then record { service = r.id; pattern = []; cause = BadContext } ∷ [] else []

abbrev pub bad_pattern : Servlet → List ℕ → RouteFailure
bad_pattern s text = record { service = s.service; pattern = text; cause = BadPattern }

-- the pattern belongs to this servlet in a context that the servlet selects
abbrev pub is_owner : ℕ → Option ℕ → Bool
is_owner service None = false
is_owner service (Some owner) = owner == service

abbrev pub owns : Servlet → List ℕ → Table → Bool
owns s text t = selects s.select t.context && is_owner s.service (owner_in t.rows text)

abbrev pub is_selected : Servlet → Table → Bool
is_selected s t = selects s.select t.context

-- why a good pattern is nowhere in effect
abbrev pub cause_of : List Table → Servlet → RouteCause
cause_of tables s = if list_any (is_selected s) tables then Shadowed else NoContext

abbrev pub failure_of : List Table → Servlet → List ℕ → List RouteFailure
failure_of tables s text = if list_any (owns s text) tables then [] else record { service = s.service; pattern = text; cause = cause_of tables s } ∷ []

abbrev pub failures_of : List Table → Servlet → List RouteFailure
failures_of tables s = map (bad_pattern s) s.faulty ++ flat_map (failure_of tables s) s.patterns

abbrev pub fails_before : RouteFailure → RouteFailure → Bool
fails_before a b = nat_lt a.service b.service || ((a.service == b.service) && text_before a.pattern b.pattern)

-- by service, then by pattern; of one service and pattern a context's comes first
abbrev pub failures_among : List ServiceRow → List Servlet → List Table → List RouteFailure
failures_among contexts servlets tables = in_order (λ (a b : RouteFailure). not (fails_before b a)) (flat_map bad_context contexts ++ flat_map (failures_of tables) servlets)

-- what routes are: the tables of the contexts in order, and the failures
pub record Routing : Type 0 where
  pub tables : List Table
  pub failures : List RouteFailure

abbrev pub routing_of : List ServiceRow → List ServiceRow → Routing
routing_of contexts servlets = record {
  tables = tables_of contexts servlets;
  failures = failures_among contexts (servlets_of servlets) (tables_of contexts servlets);
}
