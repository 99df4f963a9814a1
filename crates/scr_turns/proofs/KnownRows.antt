-- A service among those of several lists.
use Rattle.std.proofs.Common.{◌≡◌, ◌≢◌, ◌∙◌, ℕ, List, [], ◌∷◌, ◌++◌, ap, sym, refl, cond, Bool, true, false, Some}
use Rattle.std.specs.Prelude.{◌==◌, find, not, option_map}
use Rattle.std.specs.Option.{option_map_or, option_or}
use Rattle.std.proofs.lemmas.Bool.{eqb-true}
use Rattle.component_state.specs.declared.open_period.OpenPeriod.{OpenPeriod}
use Rattle.component_state.specs.Rows.{rows_of}
use Rattle.service_registry.specs.declared.row.ServiceRow.{ServiceRow}
use Rattle.service_registry.specs.Registries.{has_number, row_of}
use Rattle.scr_world.specs.Whiteboard.{condition}
use Rattle.scr_world.specs.Worlds.{direct_services, registered_services, revision_of, row_known}
use Rattle.scr_world.specs.declared.world.World.{World}

pub find_either : {X : Type 0} (p : X → Bool) (xs ys : List X) → find p (xs ++ ys) ≡ option_or (find p xs) (find p ys)
find_either p [] ys = refl
find_either p (x ∷ xs) ys = go (find_either p xs ys) (p x)
  where
    go : find p (xs ++ ys) ≡ option_or (find p xs) (find p ys) → (b : Bool) → cond b (Some x) (find p (xs ++ ys)) ≡ option_or (cond b (Some x) (find p xs)) (find p ys)
    go later true = refl
    go later false = later

-- a service among those of open periods, where its number isn't 0
pub found_open : (ps : List OpenPeriod) (service : ℕ) → service ≢ 0 → row_of (rows_of ps) service ≡ option_map (λ (p : OpenPeriod). p.row) (find (λ (p : OpenPeriod). p.row.id == service) ps)
found_open [] service some = refl
found_open (p ∷ ps) service some = go (found_open ps service some) (p.row.id == 0) (p.row.id == service) refl refl
  where
    go : row_of (rows_of ps) service ≡ option_map (λ (q : OpenPeriod). q.row) (find (λ (q : OpenPeriod). q.row.id == service) ps)
        → (none here : Bool) → (p.row.id == 0) ≡ none → (p.row.id == service) ≡ here
        → row_of (cond (not none) (p.row ∷ rows_of ps) (rows_of ps)) service ≡ option_map (λ (q : OpenPeriod). q.row) (cond here (Some p) (find (λ (q : OpenPeriod). q.row.id == service) ps))
    go later true true zero same = absurd (some (sym (eqb-true p.row.id service same) ∙ eqb-true p.row.id 0 zero))
    go later true false zero other = later
    go later false true more same = ap (λ b. cond b (Some p.row) (row_of (rows_of ps) service)) same
    go later false false more other = ap (λ b. cond b (Some p.row) (row_of (rows_of ps) service)) other ∙ later

-- a service but the platform's own
pub known_row : (w : World) (service : ℕ) → service ≢ 0 → row_known w service ≡ option_or (option_or (row_of w.registry.rows service) (row_of (rows_of w.open_periods) service)) (row_of w.unregistered_held service)
known_row w service some =
    find_either (has_number service) (registered_services w) w.unregistered_held
    ∙ ap (λ o. option_or o (row_of w.unregistered_held service))
    (find_either (has_number service) (direct_services w) (rows_of w.open_periods) ∙ ap (λ o. option_or o (row_of (rows_of w.open_periods) service)) (behind (0 == service) refl))
  where
    behind : (b : Bool) → (0 == service) ≡ b → row_of (direct_services w) service ≡ row_of w.registry.rows service
    behind true e = absurd (some (sym (eqb-true 0 service e)))
    behind false e = ap (λ c. cond c (Some condition) (row_of w.registry.rows service)) e

-- the platform's own service has the revision 0
pub own_revision : (w : World) (service : ℕ) → service ≡ 0 → revision_of w service ≡ 0
own_revision w service zero = ap (revision_of w) zero

pub known_revision : (w : World) (service : ℕ) → service ≢ 0
    → option_map_or (λ (r : ServiceRow). r.revision) (option_or (option_or (row_of w.registry.rows service) (row_of (rows_of w.open_periods) service)) (row_of w.unregistered_held service)) 0 ≡ revision_of w service
known_revision w service some = ap (λ o. option_map_or (λ (r : ServiceRow). r.revision) o 0) (sym (known_row w service some))
