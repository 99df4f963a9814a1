-- Services but the platform's own that are registered: those that a command registered, and those of open periods.
use Rattle.std.proofs.Common.{◌≡◌, ◌≢◌, ◌∙◌, ℕ, List, [], ◌∷◌, ap, cond, refl, sym, Bool, true, false, Some}
use Rattle.std.specs.Prelude.{◌==◌, ◌||◌, find, is_some, not}
use Rattle.std.specs.List.{list_any}
use Rattle.std.proofs.lemmas.Bool.{eqb-true}
use Rattle.std.proofs.lemmas.List.Folds.{list_any-append}
use Rattle.component_state.specs.declared.open_period.OpenPeriod.{OpenPeriod}
use Rattle.component_state.specs.Rows.{rows_of}
use Rattle.scr_world.specs.Worlds.{direct_services, is_registered}
use Rattle.scr_world.specs.declared.world.World.{World}
use Rattle.service_registry.specs.declared.row.ServiceRow.{ServiceRow}
use Rattle.service_registry.specs.Registries.{has_number, row_of}

found_any : {X : Type 0} (test : X → Bool) (xs : List X) → is_some (find test xs) ≡ list_any test xs
found_any test [] = refl
found_any test (x ∷ xs) = go (found_any test xs) (test x)
  where
    go : is_some (find test xs) ≡ list_any test xs → (b : Bool) → is_some (cond b (Some x) (find test xs)) ≡ (b || list_any test xs)
    go later true = refl
    go later false = later

module _ (service : ℕ) (some : service ≢ 0) where
  abbrev is_that : ServiceRow → Bool
  is_that r = r.id == service

  abbrev is_open_with : OpenPeriod → Bool
  is_open_with p = p.row.id == service

  of_periods : (ps : List OpenPeriod) → list_any is_that (rows_of ps) ≡ list_any is_open_with ps
  of_periods [] = refl
  of_periods (p ∷ ps) = go (of_periods ps) (p.row.id == 0) (p.row.id == service) refl refl
    where
      go : list_any is_that (rows_of ps) ≡ list_any is_open_with ps → (none here : Bool) → (p.row.id == 0) ≡ none → (p.row.id == service) ≡ here
          → list_any is_that (cond (not none) (p.row ∷ rows_of ps) (rows_of ps)) ≡ (here || list_any is_open_with ps)
      go later true true zero same = absurd (some (sym (eqb-true p.row.id service same) ∙ eqb-true p.row.id 0 zero))
      go later true false zero other = later
      go later false here more is = ap (λ b. b || list_any is_that (rows_of ps)) is ∙ ap (λ b. here || b) later

  own : (0 == service) ≡ false
  own = go (0 == service) refl
    where
      go : (b : Bool) → (0 == service) ≡ b → b ≡ false
      go true zero = absurd (some (sym (eqb-true 0 service zero)))
      go false other = refl

  registered_is : (w : World) → (is_some (row_of w.registry.rows service) || list_any is_open_with w.open_periods) ≡ is_registered w service
  registered_is w =
      ap (λ b. b || list_any is_open_with w.open_periods) (found_any (has_number service) w.registry.rows ∙ ap (λ b. b || list_any is_that w.registry.rows) (sym own))
      ∙ ap (λ b. list_any is_that (direct_services w) || b) (sym (of_periods w.open_periods))
      ∙ sym (list_any-append is_that (direct_services w) (rows_of w.open_periods))

  module _ (w : World) (direct : Bool) (direct_is : direct ≡ is_some (row_of w.registry.rows service)) where
    pub by_direct : direct ≡ true → direct ≡ is_registered w service
    by_direct on = on ∙ ap (λ b. b || list_any is_open_with w.open_periods) (sym on ∙ direct_is) ∙ registered_is w

    pub by_period : (opened : Bool) → direct ≡ false → opened ≡ list_any is_open_with w.open_periods → opened ≡ is_registered w service
    by_period opened off open_is = open_is ∙ ap (λ b. b || list_any is_open_with w.open_periods) (sym off ∙ direct_is) ∙ registered_is w
