-- The states of component configurations, where the satisfied ones are told in another order.
use Rattle.std.proofs.Common.{◌≡◌, ap, ◌∙◌, refl, ℕ, List, [], ◌∷◌, cond}
use Rattle.std.specs.Prelude.{◌&&◌, map, not}
use Rattle.component_state.specs.Components.{lacks_configuration}
use Rattle.component_state.specs.Periods.{is_open}
use Rattle.component_state.specs.declared.component.Component.{Component}
use Rattle.prop_map.specs.Words.{has}
use Rattle.scr_world.specs.Readers.{has_active, line_by, state_by}
use Rattle.scr_world.specs.declared.lines.ComponentLine.{ComponentLine}
use Rattle.scr_world.specs.declared.world.World.{World}

module _ (w : World) (these those : List ℕ) (same : (number : ℕ) → has these number ≡ has those number) where
  same_state : (c : Component) → state_by w these c ≡ state_by w those c
  same_state c =
      ap (λ b. cond (lacks_configuration c) 1 (cond (not b) 2 (cond (has w.failed c.number) 16 (cond (is_open w.open_periods c.number && has_active w.instances c.number) 8 4)))) (same c.number)

  same_line : (c : Component) → line_by w these c ≡ line_by w those c
  same_line c = ap (λ state. let line : ComponentLine = record { configuration = c.number; name = c.description.name; state = state } in line) (same_state c)

  pub same_lines : (cs : List Component) → map (line_by w these) cs ≡ map (line_by w those) cs
  same_lines [] = refl
  same_lines (c ∷ cs) = ap (λ l. l ∷ map (line_by w these) cs) (same_line c) ∙ ap (λ l. line_by w those c ∷ l) (same_lines cs)
