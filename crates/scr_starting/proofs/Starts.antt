-- What refuses the start of a bundle, by its state, and the tables after it.
use Rattle.std.proofs.Common.{◌≡◌, ◌∙◌, ℕ, List, [], ◌∷◌, ap, refl, subst, sym, arith, Option, Some, None}
use Rattle.std.specs.Prelude.{is_none, map, not, option_and_then, if◌then◌else◌}
use Rattle.bundle_life.specs.Lives.{bundle_of, is_active, is_stopping}
use Rattle.bundle_life.specs.declared.bundle.BundleLife.{BundleLife}
use Rattle.bundle_life.specs.declared.bundle.BundleState.{BundleState}
use Rattle.bundle_life.specs.declared.bundle.BundleState.TheVariants.{Active, Installed, Resolved, Stopping}
use Rattle.journal_core.specs.Rooms.{JournalRows}
use Rattle.prop_map.specs.Words.{first_some}
use Rattle.scr_judgements.specs.Drafting.{AreTablesAfter, no_tables}
use Rattle.scr_judgements.specs.declared.drafting.TablesAfter.{TablesAfter}
use Rattle.scr_starting.proofs.BundleStates.{lone, none_there, state_in, state_test, state_there}
use Rattle.scr_starting.proofs.ContentsAfter.{descriptions_stay, levels_stay}
use Rattle.scr_state.specs.Keeps.{Keeps}
use Rattle.scr_state.specs.declared.state.State.{State}
use Rattle.scr_world.specs.Refusals.{components_full, lowest_keeping, refusal, refuse_if}
use Rattle.scr_world.specs.Replies.{has_effect}
use Rattle.scr_world.specs.Tables.{set_back}
use Rattle.scr_world.specs.declared.command.Command.TheVariants.{Start}
use Rattle.scr_world.specs.declared.contents.Contents.{Contents}
use Rattle.scr_world.specs.declared.reply.CoreFault.{CoreFault}
use Rattle.scr_world.specs.declared.reply.CoreFault.TheVariants.{NoBundle, Stopping as StillStopping}
use Rattle.scr_world.specs.declared.step.Step.{Step}
use Rattle.scr_world.specs.declared.world.World.{World}

-- the refusals of a start where the bundle of its number is this
module _ (bundle keeping : ℕ) (full : Option CoreFault) where
  abbrev refused : Option BundleLife → Option CoreFault
  refused o = first_some (
      refuse_if (is_none o) (NoBundle bundle)
      ∷ option_and_then (λ (b : BundleLife). if is_active b.state then None else first_some (option_and_then (λ (x : BundleLife). refuse_if (is_stopping x.state) (StillStopping keeping)) o ∷ full ∷ [])) o
      ∷ [])

  refused_active : (o : Option BundleLife) → Some Active ≡ state_in o → refused o ≡ None
  refused_active None is = absurd cc
  refused_active (Some row) is = rw (state_there row Active is) refl

  refused_stopping : (o : Option BundleLife) → Some Stopping ≡ state_in o → refused o ≡ Some (StillStopping keeping)
  refused_stopping None is = absurd cc
  refused_stopping (Some row) is = rw (state_there row Stopping is) refl

  refused_installed : (o : Option BundleLife) → Some Installed ≡ state_in o → refused o ≡ full
  refused_installed None is = absurd cc
  refused_installed (Some row) is = rw (state_there row Installed is) (lone (first_some (full ∷ [])) ∙ lone full)

  refused_resolved : (o : Option BundleLife) → Some Resolved ≡ state_in o → refused o ≡ full
  refused_resolved None is = absurd cc
  refused_resolved (Some row) is = rw (state_there row Resolved is) (lone (first_some (full ∷ [])) ∙ lone full)

module _ (w : World) (bundle : ℕ) where
  pub unknown : None ≡ state_in (bundle_of w.bundles.rows bundle) → refusal w (Start bundle) ≡ Some (NoBundle bundle)
  unknown is = ap (refused bundle (lowest_keeping w bundle) (components_full w (Start bundle))) (none_there (bundle_of w.bundles.rows bundle) is)

  pub free : Some Active ≡ state_in (bundle_of w.bundles.rows bundle) → refusal w (Start bundle) ≡ None
  free is = refused_active bundle (lowest_keeping w bundle) (components_full w (Start bundle)) (bundle_of w.bundles.rows bundle) is

  pub still_stopping : Some Stopping ≡ state_in (bundle_of w.bundles.rows bundle) → refusal w (Start bundle) ≡ Some (StillStopping (lowest_keeping w bundle))
  still_stopping is = refused_stopping bundle (lowest_keeping w bundle) (components_full w (Start bundle)) (bundle_of w.bundles.rows bundle) is

  pub installed : Some Installed ≡ state_in (bundle_of w.bundles.rows bundle) → refusal w (Start bundle) ≡ components_full w (Start bundle)
  installed is = refused_installed bundle (lowest_keeping w bundle) (components_full w (Start bundle)) (bundle_of w.bundles.rows bundle) is

  pub resolved : Some Resolved ≡ state_in (bundle_of w.bundles.rows bundle) → refusal w (Start bundle) ≡ components_full w (Start bundle)
  resolved is = refused_resolved bundle (lowest_keeping w bundle) (components_full w (Start bundle)) (bundle_of w.bundles.rows bundle) is

  -- a start changes every bundle that isn't ACTIVE
  pub effect : (state : BundleState) → Some state ≡ state_in (bundle_of w.bundles.rows bundle) → has_effect w (Start bundle) ≡ not (is_active state)
  effect state is = ap not (state_test is_active state (bundle_of w.bundles.rows bundle) is)

document_kept : (bundle : ℕ) (c : Contents) → (set_back bundle c).document ≡ c.document
document_kept bundle c = grind (arith)

pub tables : (j : JournalRows Step) (s : State) → Keeps j s → (bundle : ℕ) (documents : List Contents) (t : TablesAfter) → t ≡ no_tables → documents ≡ map (set_back bundle) s.world.documents
    → AreTablesAfter s (Start bundle) (record t { documents = Some documents })
tables j s keeps bundle documents t none are = subst (λ (x : TablesAfter). AreTablesAfter s (Start bundle) (record x { documents = Some documents })) (sym none) (record {
  documents = are;
  registry = refl;
  configurations = refl;
  uses = refl;
  descriptions = descriptions_stay j s keeps (set_back bundle) (document_kept bundle);
  levels = levels_stay j s keeps (set_back bundle) (document_kept bundle);
})
