-- The draft of a command that changes what the bundles hold.
use Rattle.std.proofs.Common.{◌≡◌, ◌∙◌, ◌+◌, List, ap, refl, true}
use Rattle.scr_judgements.specs.Asked.{is_command}
use Rattle.scr_installing.specs.Described.{AreDescribed}
use Rattle.scr_installing.specs.Drafting.{changes_documents, is_of_documents, tables_with}
use Rattle.scr_installing.specs.declared.described.Described.{Described}
use Rattle.scr_judgements.specs.Drafting.{AreTablesAfter, AreTablesBy}
use Rattle.scr_state.specs.declared.state.State.{State}
use Rattle.scr_world.specs.Levels.{levels_of}
use Rattle.scr_world.specs.Tables.{configurations_by_command, descriptions_of, documents_by, documents_by_command, registry_by_command, uses_by_command}
use Rattle.scr_world.specs.declared.command.Command.{Command}
use Rattle.scr_world.specs.declared.command.Command.TheVariants.{Install, Update, Start, Stop, Uninstall, Enable, Disable, Register, Unregister, SetProperties, Get, Unget, Listen, Unlisten, Configure, ConfigureFactory, Unconfigure}
use Rattle.scr_world.specs.declared.contents.Contents.{Contents}
use Rattle.scr_world.specs.declared.step.Step.{Step}
use Rattle.scr_world.specs.declared.step.Step.TheVariants.{Command as Commanded, Begin, End, Drained, Got, Released}

module _ (s : State) (documents : List Contents) (described : Described) (are : AreDescribed (descriptions_of documents) described) where
  -- the tables after a command, where it leaves those of services
  after : (command : Command) → documents ≡ documents_by_command command (s.world.bundles.numbered + 1) s.world.documents
      → s.world.registry ≡ registry_by_command command s.world.registry → s.world.configurations ≡ configurations_by_command command s.world.configurations
      → s.world.uses ≡ uses_by_command command s.world.tokens s.world.uses → AreTablesAfter s command (tables_with documents described)
  after command held registry configurations uses = record {
    documents = held;
    registry = registry;
    configurations = configurations;
    uses = uses;
    descriptions = are.descriptions ∙ ap descriptions_of held;
    levels = are.levels ∙ ap (λ (cs : List Contents). levels_of (descriptions_of cs)) held;
  }

  after_command : (command : Command) → is_of_documents command ≡ true → documents ≡ documents_by_command command (s.world.bundles.numbered + 1) s.world.documents → AreTablesAfter s command (tables_with documents described)
  after_command (Install doc) is held = after (Install doc) held refl refl refl
  after_command (Update bundle doc) is held = after (Update bundle doc) held refl refl refl
  after_command (Uninstall bundle) is held = after (Uninstall bundle) held refl refl refl
  after_command (Start bundle) is held = absurd cc
  after_command (Stop bundle) is held = absurd cc
  after_command (Enable bundle name) is held = absurd cc
  after_command (Disable bundle name) is held = absurd cc
  after_command (Register bundle interfaces properties) is held = absurd cc
  after_command (Unregister bundle service) is held = absurd cc
  after_command (SetProperties bundle service properties) is held = absurd cc
  after_command (Get bundle service) is held = absurd cc
  after_command (Unget bundle service) is held = absurd cc
  after_command (Listen bundle test) is held = absurd cc
  after_command (Unlisten listener) is held = absurd cc
  after_command (Configure pid properties) is held = absurd cc
  after_command (ConfigureFactory factory name properties) is held = absurd cc
  after_command (Unconfigure pid) is held = absurd cc

  pub documents_tables : (step : Step) → changes_documents step ≡ true → documents ≡ documents_by step (s.world.bundles.numbered + 1) s.world.documents → AreTablesBy s step (tables_with documents described)
  unfolding AreTablesBy
  documents_tables (Commanded command) is held = after_command command is held
  documents_tables (Begin turn instance configuration consumer callback chosen) is held = absurd cc
  documents_tables (End turn outcome) is held = absurd cc
  documents_tables (Drained instance) is held = absurd cc
  documents_tables (Got bundle service) is held = absurd cc
  documents_tables (Released place) is held = absurd cc

pub documents_commands : (step : Step) → changes_documents step ≡ true → is_command step ≡ true
documents_commands (Commanded command) is = refl
documents_commands (Begin turn instance configuration consumer callback chosen) is = absurd cc
documents_commands (End turn outcome) is = absurd cc
documents_commands (Drained instance) is = absurd cc
documents_commands (Got bundle service) is = absurd cc
documents_commands (Released place) is = absurd cc
