-- What refuses the stop of a bundle, by its state, and the tables after it.
use Rattle.std.proofs.Common.{◌≡◌, ℕ, [], ◌∷◌, ap, refl, subst, sym, Option, Some, None}
use Rattle.std.specs.Prelude.{is_none}
use Rattle.bundle_life.specs.Lives.{bundle_of, is_active}
use Rattle.bundle_life.specs.declared.bundle.BundleLife.{BundleLife}
use Rattle.bundle_life.specs.declared.bundle.BundleState.{BundleState}
use Rattle.journal_core.specs.Rooms.{JournalRows}
use Rattle.prop_map.specs.Words.{first_some}
use Rattle.scr_judgements.specs.Drafting.{AreTablesAfter, no_tables}
use Rattle.scr_judgements.specs.declared.drafting.TablesAfter.{TablesAfter}
use Rattle.scr_judgements.proofs.Drafted.{descriptions_stay, levels_stay}
use Rattle.scr_starting.proofs.BundleStates.{none_there, state_in, state_test}
use Rattle.scr_state.specs.Keeps.{Keeps}
use Rattle.scr_state.specs.declared.state.State.{State}
use Rattle.scr_world.specs.Refusals.{refusal, refuse_if}
use Rattle.scr_world.specs.Replies.{has_effect}
use Rattle.scr_world.specs.declared.command.Command.TheVariants.{Stop}
use Rattle.scr_world.specs.declared.reply.CoreFault.TheVariants.{NoBundle}
use Rattle.scr_world.specs.declared.step.Step.{Step}
use Rattle.scr_world.specs.declared.world.World.{World}
use Rattle.service_registry.specs.Registries.{Registered, without_bundle}

known : (bundle : ℕ) (state : BundleState) (o : Option BundleLife) → Some state ≡ state_in o → first_some (refuse_if (is_none o) (NoBundle bundle) ∷ []) ≡ None
known bundle state None is = absurd cc
known bundle state (Some row) is = refl

module _ (w : World) (bundle : ℕ) where
  pub unknown : None ≡ state_in (bundle_of w.bundles.rows bundle) → refusal w (Stop bundle) ≡ Some (NoBundle bundle)
  unknown is = ap (λ (o : Option BundleLife). first_some (refuse_if (is_none o) (NoBundle bundle) ∷ [])) (none_there (bundle_of w.bundles.rows bundle) is)

  pub free : (state : BundleState) → Some state ≡ state_in (bundle_of w.bundles.rows bundle) → refusal w (Stop bundle) ≡ None
  free state is = known bundle state (bundle_of w.bundles.rows bundle) is

  -- a stop changes an ACTIVE bundle
  pub effect : (state : BundleState) → Some state ≡ state_in (bundle_of w.bundles.rows bundle) → has_effect w (Stop bundle) ≡ is_active state
  effect state is = state_test is_active state (bundle_of w.bundles.rows bundle) is

pub tables : (j : JournalRows Step) (s : State) → Keeps j s → (bundle : ℕ) (registry : Registered) (t : TablesAfter) → t ≡ no_tables → registry ≡ without_bundle bundle s.world.registry
    → AreTablesAfter s (Stop bundle) (record t { registry = Some registry })
tables j s keeps bundle registry t none is = subst (λ (x : TablesAfter). AreTablesAfter s (Stop bundle) (record x { registry = Some registry })) (sym none) (record {
  documents = refl;
  registry = is;
  configurations = refl;
  uses = refl;
  descriptions = descriptions_stay j s keeps s.world.documents refl;
  levels = levels_stay j s keeps s.world.documents refl;
})
