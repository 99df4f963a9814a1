-- Tables that are looked through in order, and that they ascend.
use Rattle.std.proofs.Common.{◌≡◌, ℕ, zero, suc, ◌+◌, ◌<◌, List, [], ◌∷◌, ap, sym, ◌∙◌, refl, arith, length, get_or, drop, Option, Some, None, add-one, drop-cons}
use Rattle.std.specs.Prelude.{flat_map, map}
use Rattle.prop_map.specs.Words.{first_some}
use Rattle.wb_context.proofs.StableOrder.{rising_order}
use Rattle.wb_context.specs.Firsts.{first_of_each}
use Rattle.wb_context.specs.declared.context.Context.{Context}
use Rattle.wb_routes.proofs.TableLemmas.{patterns_rank}
use Rattle.wb_routes.specs.Choices.{choice_in, owner_in, taker_in}
use Rattle.wb_routes.specs.Listing.{rows_of, table_of}
use Rattle.wb_routes.specs.Tables.{AllAscend, Ascends, has_less_pattern}
use Rattle.wb_routes.specs.declared.route_row.RouteRow.{RouteRow}
use Rattle.wb_routes.specs.declared.servlet.Servlet.{Servlet}
use Rattle.wb_routes.specs.declared.table.Table.{Table}

pub all_ascend : (servlets : List Servlet) (contexts : List Context) → AllAscend (map (table_of servlets) contexts)
all_ascend servlets [] = tt
all_ascend servlets (c ∷ contexts) = (rising_order has_less_pattern patterns_rank (first_of_each (λ (r : RouteRow). r.pattern) (flat_map (rows_of c) servlets)), all_ascend servlets contexts)

pub ascends_at : (tables : List Table) (k : ℕ) (d : Table) → AllAscend tables → k < length tables → Ascends (get_or tables k d).rows
ascends_at [] k d up h = absurd (omega (arith, h))
ascends_at (t ∷ tables) zero d up h = up.0
ascends_at (t ∷ tables) (suc k) d up h = ascends_at tables k d up.1 (omega (arith, h))

first_by : (o : Option ℕ) (os : List (Option ℕ)) (s : ℕ) → Some s ≡ o → Some s ≡ first_some (o ∷ os)
first_by (Some x) os s e = e
first_by None os s e = cc

later_by : (o : Option ℕ) (os : List (Option ℕ)) → None ≡ o → first_some (o ∷ os) ≡ first_some os
later_by (Some x) os e = cc
later_by None os e = refl

abbrev taker_of : List ℕ → Table → Option ℕ
taker_of path t = taker_in t.context (owner_in t.rows) path

-- the table at a place takes the path, or those behind it do
pub chosen_here : (tables : List Table) (k : ℕ) (d : Table) (path : List ℕ) (s : ℕ) → k < length tables → Some s ≡ taker_in (get_or tables k d).context (owner_in (get_or tables k d).rows) path → Some s ≡ choice_in (drop k tables) path
chosen_here tables k d path s h e = first_by (taker_of path (get_or tables k d)) (map (taker_of path) (drop (suc k) tables)) s e ∙ sym (ap (λ ts. choice_in ts path) (drop-cons tables k d h))

pub chosen_later : (tables : List Table) (k : ℕ) (d : Table) (path : List ℕ) → k < length tables → None ≡ taker_in (get_or tables k d).context (owner_in (get_or tables k d).rows) path
    → choice_in (drop k tables) path ≡ choice_in (drop (k + 1) tables) path
chosen_later tables k d path h e =
    ap (λ ts. choice_in ts path) (drop-cons tables k d h) ∙ later_by (taker_of path (get_or tables k d)) (map (taker_of path) (drop (suc k) tables)) e ∙ ap (λ n. choice_in (drop n tables) path) (sym (add-one k))
