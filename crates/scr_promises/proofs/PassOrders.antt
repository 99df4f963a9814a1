-- The order of a pass has each component configuration.
use Rattle.std.proofs.Common.{◌<◌, ℕ, zero, suc, List, arith, inl, inr}
use Rattle.std.specs.Prelude.{◌==◌}
use Rattle.std.specs.List.{Contains}
use Rattle.std.proofs.lemmas.Bool.{cases_eq, eq-eqb}
use Rattle.component_dto.specs.declared.description.Description.{Description}
use Rattle.component_state.specs.declared.component.Component.{Component}
use Rattle.component_state.specs.Components.{level_count, level_of, of_level, pass_order, pass_order_below}
use Rattle.component_state.proofs.Apart.{in_left, in_right, kept_from}
use Rattle.component_state.proofs.Ranks.{below_top}

module _ (ds : List Description) (levels : List ℕ) (cs : List Component) (c : Component) (here : Contains cs c) where
  in_below : (k : ℕ) → level_of ds levels c < k → Contains (pass_order_below ds levels cs k) c
  in_below zero low = absurd (omega (arith, low))
  in_below (suc k) low = elim (cases_eq (level_of ds levels c) k) [
    | inl same ↦ in_right (pass_order_below ds levels cs k) (of_level ds levels cs k) c (kept_from (λ d. level_of ds levels d == k) cs c here (eq-eqb (level_of ds levels c) k same))
    | inr other ↦ in_left (pass_order_below ds levels cs k) (of_level ds levels cs k) c (in_below k (omega (arith, low, other)))
  ]

  pub in_pass_order : Contains (pass_order ds levels cs) c
  in_pass_order = let low = below_top c.description ds levels in in_below (suc (level_count levels)) (omega (arith, low))
