-- Tables of patterns in byte order, in which a pattern is found by halving.
use Rattle.std.specs.Prelude.{ℕ, suc, List, [], ◌∷◌, Bool, Option, Some, None, if◌then◌else◌}
use Rattle.std.specs.Str.{bytes_eq}
use Rattle.prop_map.specs.Words.{text_before}
use Rattle.wb_context.specs.Rising.{Rising}
use Rattle.wb_routes.specs.declared.route_row.RouteRow.{RouteRow}
use Rattle.wb_routes.specs.declared.table.Table.{Table}

abbrev pub has_less_pattern : RouteRow → RouteRow → Bool
has_less_pattern a b = text_before a.pattern b.pattern

-- the patterns stand in byte order
abbrev pub Ascends : List RouteRow → Type 0
Ascends rows = Rising has_less_pattern rows

abbrev pub AllAscend : List Table → Type 0
AllAscend [] = Unit {0}
AllAscend (t ∷ ts) = Ascends t.rows × AllAscend ts

-- how many rows have lesser patterns than a text, counted from the first
abbrev pub place_of : List ℕ → List RouteRow → ℕ
place_of text [] = 0
place_of text (r ∷ rows) = if text_before r.pattern text then suc (place_of text rows) else 0

-- the service of a row that has the text as its pattern
abbrev pub service_at : List ℕ → Option RouteRow → Option ℕ
service_at text None = None
service_at text (Some r) = if bytes_eq r.pattern text then Some r.service else None
