-- An open period whose component configuration is asked for anew stays that of a component configuration, with its row.
use Rattle.std.proofs.Common.{◌≡◌, ℕ, ◌+◌, List, ap, sym, ◌∙◌, refl, subst, cond, Bool, true, false, Some}
use Rattle.std.specs.List.{Contains}
use Rattle.std.specs.Option.{option_map_or}
use Rattle.component_state.specs.declared.component.Component.{Component}
use Rattle.component_state.specs.declared.open_period.OpenPeriod.{OpenPeriod}
use Rattle.component_state.specs.Components.{component_of, numbers_of}
use Rattle.component_state.specs.Inside.Ready.{IsPeriodOf}
use Rattle.component_state.specs.Rows.{no_row, published_by, with_present_properties, period_with_properties, row_with_properties, row_by, row_in}
use Rattle.prop_map.specs.declared.properties.Property.{Property}
use Rattle.prop_map.specs.Sameness.{properties_decide, same_properties}
use Rattle.prop_map.specs.Words.{has}
use Rattle.service_registry.specs.declared.row.ServiceRow.{ServiceRow}
use Rattle.component_state.specs.Inside.Ready.{are_apart}
use Rattle.component_state.proofs.Apart.{key_in}
use Rattle.component_state.proofs.Below.{number_of}
use Rattle.component_state.proofs.Numbering.{KeepsName}
use Rattle.component_state.proofs.Seen.{found_by}

-- the row of one that has changed
renewed_row_by : (c k : Component) → KeepsName c k → (id revision : ℕ) → row_with_properties (row_by c id revision) (published_by k id) ≡ row_by k id (row_with_properties (row_by c id revision) (published_by k id)).revision
renewed_row_by c k keeps id revision = go (same_properties (published_by k id) (published_by c id)) refl
  where
    go : (b : Bool) → same_properties (published_by k id) (published_by c id) ≡ b
        → cond b (row_by c id revision) (record (row_by c id revision) { properties = published_by k id; revision = revision + 1 })
        ≡ row_by k id (cond b (row_by c id revision) (record (row_by c id revision) { properties = published_by k id; revision = revision + 1 })).revision
    go true same = let is = (properties_decide (published_by k id) (published_by c id)).0 same in
        ap (λ (ps : List Property). record (row_by c id revision) { properties = ps }) (sym is)
        ∙ ap (λ n. record (row_by c id revision) { properties = published_by k id; bundle = n }) (sym keeps.bundle)
        ∙ ap (λ ns. record (row_by k id revision) { interfaces = ns }) (ap (λ d. d.service_interfaces) (sym keeps.description))
    go false other =
        ap (λ n. record (row_by c id revision) { properties = published_by k id; revision = revision + 1; bundle = n }) (sym keeps.bundle)
        ∙ ap (λ ns. record (row_by k id (revision + 1)) { interfaces = ns }) (ap (λ d. d.service_interfaces) (sym keeps.description))

renewed_row_of : (c k : Component) → KeepsName c k → (r : ServiceRow) → r ≡ row_by c r.id r.revision
    → row_with_properties r (published_by k r.id) ≡ row_by k (row_with_properties r (published_by k r.id)).id (row_with_properties r (published_by k r.id)).revision
renewed_row_of c k keeps r is =
    subst (λ (x : ServiceRow). row_with_properties x (published_by k r.id) ≡ row_by k (row_with_properties x (published_by k r.id)).id (row_with_properties x (published_by k r.id)).revision) (sym is)
    (renewed_row_by c k keeps r.id r.revision ∙ ap (λ n. row_by k n (row_with_properties (row_by c r.id r.revision) (published_by k r.id)).revision) (same_id (same_properties (published_by k r.id) (published_by c r.id))))
  where
    same_id : (b : Bool) → r.id ≡ (cond b (row_by c r.id r.revision) (record (row_by c r.id r.revision) { properties = published_by k r.id; revision = r.revision + 1 })).id
    same_id true = refl
    same_id false = refl

module _ (was now : List Component) (was_apart : are_apart (numbers_of was) ≡ true) (now_apart : are_apart (numbers_of now) ≡ true) where
  -- where the component configuration c of the period is now k
  pub renewed_of : (p : OpenPeriod) → IsPeriodOf was p → (c k : Component) → Contains was c → p.configuration ≡ c.number → Contains now k → KeepsName c k → IsPeriodOf now (with_present_properties now p)
  renewed_of p of c k old same new keeps = subst (λ (q : OpenPeriod). IsPeriodOf now q) (sym is_now) (record {
    known = ap (has (numbers_of now)) same_now ∙ key_in number_of now k new;
    row = renewed_row_of c k keeps p.row row_was ∙ sym (row_now (row_with_properties p.row (published_by k p.row.id)));
  })
    where
      same_now : p.configuration ≡ k.number
      same_now = same ∙ sym keeps.number

      found_now : component_of now p.configuration ≡ Some k
      found_now = ap (component_of now) same_now ∙ found_by number_of now now_apart k new

      row_was : p.row ≡ row_by c p.row.id p.row.revision
      row_was = of.row ∙ ap (λ j. row_in was j p.row.id p.row.revision) same ∙ ap (λ o. option_map_or (λ d. row_by d p.row.id p.row.revision) o (no_row p.row.id p.row.revision)) (found_by number_of was was_apart c old)

      is_now : with_present_properties now p ≡ period_with_properties p k
      is_now = ap (λ o. option_map_or (period_with_properties p) o p) found_now

      row_now : (r : ServiceRow) → row_in now p.configuration r.id r.revision ≡ row_by k r.id r.revision
      row_now r = ap (λ o. option_map_or (λ d. row_by d r.id r.revision) o (no_row r.id r.revision)) found_now
