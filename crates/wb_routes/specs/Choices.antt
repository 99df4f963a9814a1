-- The servlet that takes a request's path (OSGi Compendium 8, chapter 140; Java Servlet 3.1, section 12.1).
use Rattle.std.specs.Prelude.{ℕ, ◌&&◌, List, Bool, codes, map, find, is_some, Option, Some, None, option_map, if◌then◌else◌}
use Rattle.std.specs.Option.{option_or}
use Rattle.std.specs.Str.{bytes_eq}
use Rattle.prop_map.specs.Words.{first_some}
use Rattle.text_index.specs.Texts.{has_text}
use Rattle.wb_context.specs.declared.context.Context.{Context}
use Rattle.wb_context.specs.ContextOrder.{covers, rest_in}
use Rattle.wb_routes.specs.declared.route_row.RouteRow.{RouteRow}
use Rattle.wb_routes.specs.declared.servlet.Servlet.{Servlet}
use Rattle.wb_routes.specs.declared.table.Table.{Table}
use Rattle.wb_routes.specs.Candidates.{equal_text, extension_of, texts_above, with_star}
use Rattle.wb_routes.specs.Servlets.{selects}

-- the first that a search gives for texts, in order
abbrev pub first_owner : (List ℕ → Option ℕ) → List (List ℕ) → Option ℕ
first_owner owner texts = first_some (map owner texts)

abbrev pub owner_if : (List ℕ → Option ℕ) → Option (List ℕ) → Option ℕ
owner_if owner None = None
owner_if owner (Some text) = owner text

-- who takes the rest of a path, where each pattern's text has an owner or none: the extension's owner or that of `/`; before it the owner of
-- the longest path above; before it that of the equal path
abbrev pub taker_by_end : (List ℕ → Option ℕ) → List ℕ → Option ℕ
taker_by_end owner rest = option_or (owner_if owner (with_star (extension_of rest))) (owner (codes "/"))

abbrev pub taker_behind : (List ℕ → Option ℕ) → List ℕ → Option ℕ
taker_behind owner rest = option_or (first_owner owner (texts_above rest)) (taker_by_end owner rest)

abbrev pub taker : (List ℕ → Option ℕ) → List ℕ → Option ℕ
taker owner rest = option_or (owner_if owner (equal_text rest)) (taker_behind owner rest)

-- a servlet has this pattern in a context
abbrev pub has_pattern : Context → List ℕ → Servlet → Bool
has_pattern c text s = selects s.select c && has_text s.patterns text

-- in a context a pattern belongs to its best servlet: the first, where they stand best first
abbrev pub owner_among : List Servlet → Context → List ℕ → Option ℕ
owner_among servlets c text = option_map (λ (s : Servlet). s.service) (find (has_pattern c text) servlets)

abbrev pub taker_in : Context → (List ℕ → Option ℕ) → List ℕ → Option ℕ
taker_in c owner path = if covers c.path path then taker owner (rest_in c.path path) else None

-- the first context decides in which a pattern takes the path
abbrev pub choice_among : List Context → List Servlet → List ℕ → Option ℕ
choice_among contexts servlets path = first_some (map (λ c. taker_in c (owner_among servlets c) path) contexts)

-- the context in which it takes the path: the first in which one does
abbrev pub takes : List Servlet → List ℕ → Context → Bool
takes servlets path c = is_some (taker_in c (owner_among servlets c) path)

abbrev pub home_among : List Context → List Servlet → List ℕ → Option Context
home_among contexts servlets path = find (takes servlets path) contexts

-- who takes the path in such a context
abbrev pub taker_at : List Servlet → List ℕ → Option Context → Option ℕ
taker_at servlets path None = None
taker_at servlets path (Some c) = taker_in c (owner_among servlets c) path

-- ---- the same by tables

-- the owner of a pattern in a table
abbrev pub owner_in : List RouteRow → List ℕ → Option ℕ
owner_in rows text = option_map (λ (r : RouteRow). r.service) (find (λ (r : RouteRow). bytes_eq r.pattern text) rows)

abbrev pub choice_in : List Table → List ℕ → Option ℕ
choice_in tables path = first_some (map (λ (t : Table). taker_in t.context (owner_in t.rows) path) tables)

abbrev pub takes_in : List ℕ → Table → Bool
takes_in path t = is_some (taker_in t.context (owner_in t.rows) path)

abbrev pub home_in : List Table → List ℕ → Option Context
home_in tables path = option_map (λ (t : Table). t.context) (find (takes_in path) tables)
