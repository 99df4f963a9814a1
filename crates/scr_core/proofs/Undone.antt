-- A draft that was swapped in and out again says what it said.
use Rattle.std.proofs.Common.{◌≡◌, ◌∙◌, ap, refl}
use Rattle.std.specs.Option.{unwrap_or}
use Rattle.scr_core.specs.Drafting.{IsAlike}
use Rattle.scr_state.specs.Drafts.{with_draft}
use Rattle.scr_state.specs.Keeps.{IsDraft, with_bundles_by}
use Rattle.scr_state.specs.declared.draft.Draft.{Draft}
use Rattle.scr_state.specs.declared.state.State.{State}
use Rattle.scr_world.specs.Tables.{bundles_by}
use Rattle.scr_world.specs.declared.step.Step.{Step}
use Rattle.scr_world.specs.declared.world.World.{World}

-- bundles are none of a draft's
beside_bundles : (d : Draft) (step : Step) (w : World) → with_draft d (with_bundles_by step w) ≡ record (with_draft d w) { bundles = bundles_by step w.bundles }
unfolding with_draft
beside_bundles d step w = refl

bundles_beside : (d : Draft) (step : Step) (w : World) → record (with_draft d w) { bundles = bundles_by step w.bundles } ≡ with_draft d (with_bundles_by step w)
unfolding with_draft
bundles_beside d step w = refl

pub drafted_alike : (s : State) (step : Step) (d e : Draft) → IsAlike d s.world e → IsDraft s step d → IsDraft s step e
drafted_alike s step d e alike is = record {
  world = beside_bundles e step s.world ∙ ap (λ (w : World). record w { bundles = bundles_by step s.world.bundles }) alike.world ∙ bundles_beside d step s.world ∙ is.world;
  descriptions = ap (λ o. unwrap_or o s.descriptions) alike.descriptions ∙ is.descriptions;
  levels = ap (λ o. unwrap_or o s.levels) alike.levels ∙ is.levels;
  room = alike.room;
}
