-- Chains by what they are made of are those of the services.
use Rattle.std.proofs.Common.{◌≡◌, ℕ, List, [], ap, None}
use Rattle.service_registry.specs.declared.row.ServiceRow.{ServiceRow}
use Rattle.wb_context.specs.ContextOrder.{contexts_in_order}
use Rattle.wb_filters.specs.BoardServices.{best_by, filter_key}
use Rattle.wb_filters.specs.Chaining.{chain_in, chaining_of}
use Rattle.wb_filters.specs.Chains.{chain_at, chain_of}
use Rattle.wb_routes.proofs.HomeLemmas.{no_home, same_home}
use Rattle.wb_routes.specs.Choices.{choice_in}
use Rattle.wb_routes.specs.Listing.{read_contexts, tables_of}
use Rattle.wb_routes.specs.Servlets.{servlets_of}

pub same_chain : (contexts servlets filters pages : List ServiceRow) (path : List ℕ) → chain_in (chaining_of contexts servlets filters pages) path ≡ chain_of contexts servlets filters path
same_chain contexts servlets filters pages path =
    ap (λ home. chain_at home (best_by filter_key filters) path) (same_home (servlets_of servlets) (contexts_in_order (read_contexts contexts)) path)

pub no_chain : (contexts servlets filters pages : List ServiceRow) (path : List ℕ) → choice_in (chaining_of contexts servlets filters pages).routing.tables path ≡ None → chain_in (chaining_of contexts servlets filters pages) path ≡ []
no_chain contexts servlets filters pages path e = ap (λ home. chain_at home (best_by filter_key filters) path) (no_home (tables_of contexts servlets) path e)
