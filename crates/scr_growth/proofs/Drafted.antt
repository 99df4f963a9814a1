-- The direct services of a draft.
use Rattle.std.proofs.Common.{◌≡◌, ◌∙◌, ap, refl, sym}
use Rattle.std.specs.Option.{unwrap_or}
use Rattle.scr_state.specs.Drafts.{with_draft}
use Rattle.scr_state.specs.Keeps.{IsDraft, with_bundles_by}
use Rattle.scr_state.specs.declared.draft.Draft.{Draft}
use Rattle.scr_state.specs.declared.state.State.{State}
use Rattle.scr_world.specs.Stepping.{world_after_step}
use Rattle.scr_world.specs.Tables.{registry_by}
use Rattle.scr_world.specs.declared.step.Step.{Step}
use Rattle.scr_world.specs.declared.world.World.{World}

registry_of : (d : Draft) (w : World) → (with_draft d w).registry ≡ unwrap_or d.registry w.registry
unfolding with_draft
registry_of d w = refl

registry_after : (step : Step) (w : World) → (world_after_step step w).registry ≡ registry_by step w.registry
unfolding world_after_step
registry_after step w = refl

pub registry_drafted : (s : State) (step : Step) (d : Draft) → IsDraft s step d → unwrap_or d.registry s.world.registry ≡ registry_by step s.world.registry
registry_drafted s step d is = sym (registry_of d (with_bundles_by step s.world)) ∙ ap (λ (w : World). w.registry) is.world ∙ registry_after step s.world
