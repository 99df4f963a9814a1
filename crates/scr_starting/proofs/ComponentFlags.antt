-- What refuses that a component is enabled or disabled, and the tables after it.
use Rattle.std.proofs.Common.{◌≡◌, ℕ, List, [], ◌∷◌, refl, subst, sym, Bool, true, false, arith, Option, Some, None}
use Rattle.std.specs.Prelude.{map}
use Rattle.journal_core.specs.Rooms.{JournalRows}
use Rattle.prop_map.specs.Words.{first_some}
use Rattle.scr_judgements.specs.Drafting.{AreTablesAfter, no_tables}
use Rattle.scr_judgements.specs.declared.drafting.TablesAfter.{TablesAfter}
use Rattle.scr_starting.proofs.BundleStates.{lone}
use Rattle.scr_starting.proofs.ContentsAfter.{descriptions_stay, levels_stay}
use Rattle.scr_state.specs.Keeps.{Keeps}
use Rattle.scr_state.specs.declared.state.State.{State}
use Rattle.scr_world.specs.Refusals.{components_full, no_bundle, no_component, not_active, refusal}
use Rattle.scr_world.specs.Tables.{flagged}
use Rattle.scr_world.specs.declared.command.Command.TheVariants.{Disable, Enable}
use Rattle.scr_world.specs.declared.contents.Contents.{Contents}
use Rattle.scr_world.specs.declared.reply.CoreFault.{CoreFault}
use Rattle.scr_world.specs.declared.step.Step.{Step}
use Rattle.scr_world.specs.declared.world.World.{World}

-- ---- three refusals, and one behind them

behind : (a b c d : Option CoreFault) → first_some (a ∷ b ∷ c ∷ []) ≡ None → first_some (a ∷ b ∷ c ∷ d ∷ []) ≡ d
behind None None None d free = lone d
behind None None (Some f) d free = absurd cc
behind None (Some f) c d free = absurd cc
behind (Some f) b c d free = absurd cc

before : (a b c d : Option CoreFault) (fault : CoreFault) → first_some (a ∷ b ∷ c ∷ []) ≡ Some fault → first_some (a ∷ b ∷ c ∷ d ∷ []) ≡ Some fault
before None None None d fault is = absurd cc
before None None (Some f) d fault is = is
before None (Some f) c d fault is = is
before (Some f) b c d fault is = is

module _ (w : World) (bundle : ℕ) (name : List ℕ) where
  pub enable_behind : first_some (no_bundle w bundle ∷ not_active w bundle ∷ no_component w bundle name ∷ []) ≡ None → refusal w (Enable bundle name) ≡ components_full w (Enable bundle name)
  enable_behind free = behind (no_bundle w bundle) (not_active w bundle) (no_component w bundle name) (components_full w (Enable bundle name)) free

  pub enable_before : (fault : CoreFault) → first_some (no_bundle w bundle ∷ not_active w bundle ∷ no_component w bundle name ∷ []) ≡ Some fault → refusal w (Enable bundle name) ≡ Some fault
  enable_before fault is = before (no_bundle w bundle) (not_active w bundle) (no_component w bundle name) (components_full w (Enable bundle name)) fault is

-- ---- the tables

document_kept : (bundle : ℕ) (name : List ℕ) (flag : Bool) (c : Contents) → (flagged bundle name flag c).document ≡ c.document
document_kept bundle name flag c = grind (arith)

pub enable_tables : (j : JournalRows Step) (s : State) → Keeps j s → (bundle : ℕ) (name : List ℕ) (t : TablesAfter) → t ≡ record no_tables { documents = Some (map (flagged bundle name true) s.world.documents) }
    → AreTablesAfter s (Enable bundle name) t
enable_tables j s keeps bundle name t is = subst (λ (x : TablesAfter). AreTablesAfter s (Enable bundle name) x) (sym is) (record {
  documents = refl;
  registry = refl;
  configurations = refl;
  uses = refl;
  descriptions = descriptions_stay j s keeps (flagged bundle name true) (document_kept bundle name true);
  levels = levels_stay j s keeps (flagged bundle name true) (document_kept bundle name true);
})

pub disable_tables : (j : JournalRows Step) (s : State) → Keeps j s → (bundle : ℕ) (name : List ℕ) (t : TablesAfter) → t ≡ record no_tables { documents = Some (map (flagged bundle name false) s.world.documents) }
    → AreTablesAfter s (Disable bundle name) t
disable_tables j s keeps bundle name t is = subst (λ (x : TablesAfter). AreTablesAfter s (Disable bundle name) x) (sym is) (record {
  documents = refl;
  registry = refl;
  configurations = refl;
  uses = refl;
  descriptions = descriptions_stay j s keeps (flagged bundle name false) (document_kept bundle name false);
  levels = levels_stay j s keeps (flagged bundle name false) (document_kept bundle name false);
})
