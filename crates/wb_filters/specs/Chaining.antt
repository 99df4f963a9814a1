-- What chains are made of. Our own form.
use Rattle.std.specs.Prelude.{ℕ, List, Option}
use Rattle.service_registry.specs.declared.row.ServiceRow.{ServiceRow}
use Rattle.wb_context.specs.declared.context.Context.{Context}
use Rattle.wb_context.specs.ContextOrder.{contexts_in_order}
use Rattle.wb_routes.specs.Choices.{home_in}
use Rattle.wb_routes.specs.Listing.{Routing, read_contexts, routing_of}
use Rattle.wb_filters.specs.declared.board_service.BoardService.{BoardService}
use Rattle.wb_filters.specs.BoardServices.{best_by, filter_key, page_key}
use Rattle.wb_filters.specs.Chains.{chain_at}
use Rattle.wb_filters.specs.Pages.{first_over, page_at}

-- the routes, the contexts as a path is looked up in them, and filters and pages, the best first
pub record Chaining : Type 0 where
  pub routing : Routing
  pub contexts : List Context
  pub filters : List BoardService
  pub pages : List BoardService

abbrev pub chaining_of : List ServiceRow → List ServiceRow → List ServiceRow → List ServiceRow → Chaining
chaining_of contexts servlets filters pages = record {
  routing = routing_of contexts servlets;
  contexts = contexts_in_order (read_contexts contexts);
  filters = best_by filter_key filters;
  pages = best_by page_key pages;
}

-- the chain and the page by them
abbrev pub chain_in : Chaining → List ℕ → List ℕ
chain_in chains path = chain_at (home_in chains.routing.tables path) chains.filters path

abbrev pub page_in : Chaining → List ℕ → ℕ → Option ℕ
page_in chains path status = page_at (first_over path chains.contexts) chains.pages status
