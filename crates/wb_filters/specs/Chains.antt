-- The filters that a request's path goes through (OSGi Compendium 8, section 140.5; Java Servlet 3.1, section 6.2.4. That they go best first, and
-- that the context is that of the servlet, is our own).
use Rattle.std.specs.Prelude.{ℕ, ◌==◌, ◌&&◌, List, [], ◌∷◌, Bool, false, filter, map, is_some, Option, Some, None, if◌then◌else◌}
use Rattle.std.specs.List.{list_any}
use Rattle.std.specs.Option.{option_map_or}
use Rattle.service_registry.specs.declared.row.ServiceRow.{ServiceRow}
use Rattle.wb_context.specs.declared.context.Context.{Context}
use Rattle.wb_context.specs.ContextOrder.{contexts_in_order, rest_in}
use Rattle.wb_pattern.specs.Patterns.{Form, pattern_of}
use Rattle.wb_pattern.specs.Places.{place_of}
use Rattle.wb_routes.specs.Choices.{home_among}
use Rattle.wb_routes.specs.Listing.{read_contexts}
use Rattle.wb_routes.specs.Servlets.{selects, servlets_of}
use Rattle.wb_filters.specs.declared.board_service.BoardService.{BoardService}
use Rattle.wb_filters.specs.BoardServices.{best_by, filter_key}

-- the text spells a pattern that has a place for what is left of a path; one that spells none has no place
abbrev pub has_place : List ℕ → List ℕ → Bool
has_place rest text = option_map_or (λ (form : Form). is_some (place_of form rest)) (pattern_of text) false

-- a filter is on the way of a path in a context: it selects the context, and one of its patterns has a place for the rest
abbrev pub is_on_way : Context → List ℕ → BoardService → Bool
is_on_way c rest f = selects f.select c && list_any (has_place rest) f.texts

abbrev pub services : List BoardService → List ℕ
services filters = map (λ (f : BoardService). f.service) filters

-- the chain of a path in the context where its servlet takes it, of filters that stand best first; where none takes it there is none
abbrev pub chain_at : Option Context → List BoardService → List ℕ → List ℕ
chain_at None filters path = []
chain_at (Some c) filters path = services (filter (is_on_way c (rest_in c.path path)) filters)

-- the chain of a path
abbrev pub chain_of : List ServiceRow → List ServiceRow → List ServiceRow → List ℕ → List ℕ
chain_of contexts servlets filters path =
    chain_at (home_among (contexts_in_order (read_contexts contexts)) (servlets_of servlets) path) (best_by filter_key filters) path

abbrev pub first : List ℕ → Option ℕ
first [] = None
first (n ∷ ns) = Some n

-- the one behind another; behind one that isn't there stands none
abbrev pub behind : ℕ → List ℕ → Option ℕ
behind n [] = None
behind n (m ∷ ms) = if m == n then first ms else behind n ms

-- the first of a chain, or the one behind another
abbrev pub next_in : List ℕ → Option ℕ → Option ℕ
next_in chain None = first chain
next_in chain (Some n) = behind n chain
