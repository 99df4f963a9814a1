-- The page that tells of a status (OSGi Compendium 8, section 140.4, error pages: `404`, and `4xx` or `5xx` for all of a class. That a page is of the first
-- context in which the path lies, and that a page by its status goes before a better one by its class, is our own).
use Rattle.std.specs.Prelude.{ℕ, ◌+◌, ◌/◌, ◌%◌, ◌&&◌, List, [], ◌∷◌, Bool, codes, find, nat_le, Option, Some, None, option_map, if◌then◌else◌}
use Rattle.std.specs.Option.{option_or}
use Rattle.service_registry.specs.declared.row.ServiceRow.{ServiceRow}
use Rattle.text_index.specs.Texts.{has_text}
use Rattle.wb_context.specs.declared.context.Context.{Context}
use Rattle.wb_context.specs.ContextOrder.{contexts_in_order, covers}
use Rattle.wb_routes.specs.Listing.{read_contexts}
use Rattle.wb_routes.specs.Servlets.{selects}
use Rattle.wb_filters.specs.declared.board_service.BoardService.{BoardService}
use Rattle.wb_filters.specs.BoardServices.{best_by, page_key}

abbrev pub is_within : ℕ → ℕ → ℕ → Bool
is_within low high n = nat_le low n && nat_le n high

-- the last digit of a number, as a byte
abbrev pub digit : ℕ → ℕ
digit n = 48 + n % 10

-- the three digits of a status, and its class
abbrev pub status_text : ℕ → List ℕ
status_text status = digit (status / 100) ∷ digit (status / 10) ∷ digit status ∷ []

abbrev pub class_text : ℕ → List ℕ
class_text status = digit (status / 100) ∷ codes "xx"

-- a page is for a context and has a text
abbrev pub is_named : List ℕ → Context → BoardService → Bool
is_named text c p = selects p.select c && has_text p.texts text

-- the best of pages that stand best first
abbrev pub best_named : List ℕ → Context → List BoardService → Option ℕ
best_named text c pages = option_map (λ (p : BoardService). p.service) (find (is_named text c) pages)

-- the best page that names a status, which has three digits; the best that names the class of an error
abbrev pub by_status : Context → List BoardService → ℕ → Option ℕ
by_status c pages status = if is_within 100 999 status then best_named (status_text status) c pages else None

abbrev pub by_class : Context → List BoardService → ℕ → Option ℕ
by_class c pages status = if is_within 400 599 status then best_named (class_text status) c pages else None

-- in a context the page by the status, else the one by its class
abbrev pub page_at : Option Context → List BoardService → ℕ → Option ℕ
page_at None pages status = None
page_at (Some c) pages status = option_or (by_status c pages status) (by_class c pages status)

-- the first of contexts in order in which a path lies
abbrev pub first_over : List ℕ → List Context → Option Context
first_over path contexts = find (λ (c : Context). covers c.path path) contexts

-- the page of a path and a status
abbrev pub page_of : List ServiceRow → List ServiceRow → List ℕ → ℕ → Option ℕ
page_of contexts pages path status = page_at (first_over path (contexts_in_order (read_contexts contexts))) (best_by page_key pages) status
