-- Which services are registered, table by table.
use Rattle.std.proofs.Common.{◌≡◌, ℕ, Bool, true, false, List, [], ◌∷◌, ◌++◌, ◌∙◌, ap, refl, sym, cond, arith, get_or, length, ◌<◌}
use Rattle.std.specs.Prelude.{Some, ◌==◌, ◌||◌, is_some, not}
use Rattle.std.specs.List.{All, list_any}
use Rattle.std.proofs.lemmas.Bool.{eq-eqb, eqb-true, ne_eqb}
use Rattle.std.proofs.lemmas.Bool.Decides.{nat_tests}
use Rattle.std.proofs.lemmas.List.Folds.{list_any-append, list_any_at}
use Rattle.component_state.specs.Rows.{rows_of}
use Rattle.component_state.specs.declared.open_period.OpenPeriod.{OpenPeriod}
use Rattle.prop_map.specs.Words.{has}
use Rattle.scr_consequences.specs.Moves.{HasRowThere, IsThere}
use Rattle.scr_world.specs.Whiteboard.{platform_rows}
use Rattle.scr_world.specs.Worlds.{is_registered}
use Rattle.scr_world.specs.declared.world.World.{World}
use Rattle.service_registry.specs.Registries.{row_of}
use Rattle.service_registry.specs.Services.{ids}
use Rattle.service_registry.specs.declared.row.ServiceRow.{ServiceRow}

abbrev has_id : ℕ → ServiceRow → Bool
has_id service r = r.id == service

abbrev has_row_id : ℕ → OpenPeriod → Bool
has_row_id service p = p.row.id == service

pub has_ids : (rows : List ServiceRow) (service : ℕ) → has (ids rows) service ≡ list_any (λ (r : ServiceRow). r.id == service) rows
has_ids [] service = refl
has_ids (r ∷ rows) service = ap (λ b. (r.id == service) || b) (has_ids rows service)

-- a service of a list has one of its numbers
pub id_there : (rows : List ServiceRow) (i : ℕ) (d : ServiceRow) → i < length rows → has (ids rows) (get_or rows i d).id ≡ true
id_there rows i d within = has_ids rows (get_or rows i d).id ∙ list_any_at (has_id (get_or rows i d).id) rows i d within (eq-eqb (get_or rows i d).id (get_or rows i d).id refl)

-- the number of a service finds it, any other nothing
pub found_has : (rows : List ServiceRow) (service : ℕ) → has (ids rows) service ≡ is_some (row_of rows service)
found_has [] service = refl
found_has (r ∷ rows) service = by_first (r.id == service) (found_has rows service)
  where
    by_first : (b : Bool) → has (ids rows) service ≡ is_some (row_of rows service) → (b || has (ids rows) service) ≡ is_some (cond b (Some r) (row_of rows service))
    by_first true later = refl
    by_first false later = later

turned : (n : ℕ) → (0 == n) ≡ (n == 0)
turned n = grind (arith, nat_tests)

-- ---- the services of open periods

opened_has : (ps : List OpenPeriod) (n : ℕ) → (n == 0) ≡ false → list_any (has_id n) (rows_of ps) ≡ list_any (has_row_id n) ps
opened_has [] n other = refl
opened_has (p ∷ ps) n other = by_real (p.row.id == 0) refl (opened_has ps n other)
  where
    by_real : (b : Bool) → (p.row.id == 0) ≡ b → list_any (has_id n) (rows_of ps) ≡ list_any (has_row_id n) ps
        → list_any (has_id n) (cond (not b) (p.row ∷ rows_of ps) (rows_of ps)) ≡ (has_row_id n p || list_any (has_row_id n) ps)
    by_real true none later =
        let isnt : has_row_id n p ≡ false = ap (λ (m : ℕ). m == n) (eqb-true p.row.id 0 none) ∙ turned n ∙ other in
        later ∙ ap (λ b. b || list_any (has_row_id n) ps) (sym isnt)
    by_real false real later = ap (λ b. has_row_id n p || b) later

-- ---- all services

or_last : (a b : Bool) → b ≡ true → (a || b) ≡ true
or_last true b e = refl
or_last false b e = e

or_first : (a b : Bool) → a ≡ true → (a || b) ≡ true
or_first true b e = refl
or_first false b e = cc

module _ (w : World) (n : ℕ) where
  abbrev direct : Bool
  direct = has (ids w.registry.rows) n

  abbrev opened : Bool
  opened = has (ids (rows_of w.open_periods)) n

  -- by the numbers of the services of open periods
  pub registered_with : (((n == 0) || has (ids w.registry.rows) n) || has (ids (rows_of w.open_periods)) n) ≡ is_registered w n
  registered_with =
      ap (λ b. (b || direct) || opened) (sym (turned n))
      ∙ ap (λ b. ((0 == n) || b) || opened) (has_ids w.registry.rows n)
      ∙ ap (λ b. ((0 == n) || list_any (has_id n) w.registry.rows) || b) (has_ids (rows_of w.open_periods) n)
      ∙ sym (list_any-append (has_id n) (platform_rows ++ w.registry.rows) (rows_of w.open_periods))

  by_zero : (b : Bool) → (n == 0) ≡ b → ((b || direct) || list_any (has_row_id n) w.open_periods) ≡ ((b || direct) || opened)
  by_zero true e = refl
  by_zero false e = ap (λ b. direct || b) (sym (opened_has w.open_periods n e) ∙ sym (has_ids (rows_of w.open_periods) n))

  -- by the open periods
  pub registered_by : (((n == 0) || has (ids w.registry.rows) n) || list_any (λ (p : OpenPeriod). p.row.id == n) w.open_periods) ≡ is_registered w n
  registered_by = by_zero (n == 0) refl ∙ registered_with

-- one table after the other
pub zero_there : (w : World) (n : ℕ) → n ≡ 0 → true ≡ is_registered w n
zero_there w n e = sym (ap (is_registered w) e)

pub direct_there : (w : World) (n : ℕ) → has (ids w.registry.rows) n ≡ true → true ≡ is_registered w n
direct_there w n e =
    sym (or_first ((n == 0) || has (ids w.registry.rows) n) (has (ids (rows_of w.open_periods)) n) (or_last (n == 0) (has (ids w.registry.rows) n) e)) ∙ registered_with w n

neither : (a b c : Bool) → a ≡ false → b ≡ false → ((a || b) || c) ≡ c
neither a b c e f = ap (λ x. (x || b) || c) e ∙ ap (λ x. x || c) f

pub opened_there : (w : World) (n : ℕ) → (n ≡ 0 → ⊥) → has (ids w.registry.rows) n ≡ false → list_any (λ (p : OpenPeriod). p.row.id == n) w.open_periods ≡ is_registered w n
opened_there w n other none = sym (neither (n == 0) (has (ids w.registry.rows) n) (list_any (λ (p : OpenPeriod). p.row.id == n) w.open_periods) (ne_eqb n 0 other) none) ∙ registered_by w n

pub listed_there : (w : World) (n : ℕ) → (n ≡ 0 → ⊥) → has (ids w.registry.rows) n ≡ false → has (ids (rows_of w.open_periods)) n ≡ is_registered w n
listed_there w n other none = sym (neither (n == 0) (has (ids w.registry.rows) n) (has (ids (rows_of w.open_periods)) n) (ne_eqb n 0 other) none) ∙ registered_with w n

-- each of the tables' services is registered
pub rows_there : (w : World) → All (IsThere w) w.registry.rows
rows_there w k d within =
    let n = (get_or w.registry.rows k d).id in
    sym (registered_with w n)
    ∙ or_first ((n == 0) || has (ids w.registry.rows) n) (has (ids (rows_of w.open_periods)) n) (or_last (n == 0) (has (ids w.registry.rows) n) (id_there w.registry.rows k d within))

pub periods_there : (w : World) → All (HasRowThere w) w.open_periods
periods_there w k d within =
    let n = (get_or w.open_periods k d).row.id in
    sym (registered_by w n)
    ∙ or_last ((n == 0) || has (ids w.registry.rows) n) (list_any (has_row_id n) w.open_periods) (list_any_at (has_row_id n) w.open_periods k d within (eq-eqb n n refl))
