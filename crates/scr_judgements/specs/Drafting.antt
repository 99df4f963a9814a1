-- The tables after a command, and its draft. Our own.
use Rattle.std.specs.Prelude.{◌≡◌, ◌+◌, Some, None}
use Rattle.std.specs.Option.{unwrap_or}
use Rattle.scr_judgements.specs.declared.asked.Asked.{Asked}
use Rattle.scr_judgements.specs.declared.drafting.TablesAfter.{TablesAfter}
use Rattle.scr_state.specs.declared.draft.Draft.{Draft}
use Rattle.scr_state.specs.declared.row_change.RowChange.TheVariants.{Same}
use Rattle.scr_state.specs.declared.state.State.{State}
use Rattle.scr_world.specs.Levels.{levels_of}
use Rattle.scr_world.specs.Tables.{configurations_by_command, descriptions_of, documents_by_command, registry_by_command, uses_by_command}
use Rattle.scr_world.specs.declared.command.Command.{Command}
use Rattle.scr_world.specs.declared.step.Step.{Step}
use Rattle.scr_world.specs.declared.step.Step.TheVariants.{Command as Commanded}
use Rattle.scr_world.specs.declared.world.World.{World}

abbrev pub no_tables : TablesAfter
no_tables = record { documents = None; registry = None; configurations = None; uses = None; descriptions = None; levels = None }

-- with these tables in their places the state has what a command makes of its tables, and what is kept with them
pub record AreTablesAfter (s : State) (command : Command) (t : TablesAfter) : Type 0 where
  pub documents : unwrap_or t.documents s.world.documents ≡ documents_by_command command (s.world.bundles.numbered + 1) s.world.documents
  pub registry : unwrap_or t.registry s.world.registry ≡ registry_by_command command s.world.registry
  pub configurations : unwrap_or t.configurations s.world.configurations ≡ configurations_by_command command s.world.configurations
  pub uses : unwrap_or t.uses s.world.uses ≡ uses_by_command command s.world.tokens s.world.uses
  pub descriptions : unwrap_or t.descriptions s.descriptions ≡ descriptions_of (documents_by_command command (s.world.bundles.numbered + 1) s.world.documents)
  pub levels : unwrap_or t.levels s.levels ≡ levels_of (descriptions_of (documents_by_command command (s.world.bundles.numbered + 1) s.world.documents))

-- the same of a step, which is then a command
unfoldable pub AreTablesBy : State → Step → TablesAfter → Type 0
AreTablesBy s (Commanded command) t = AreTablesAfter s command t
AreTablesBy s _ t = ⊥

-- the draft with the component configurations as they are asked for, and these tables
unfoldable pub command_draft : World → Asked → TablesAfter → Draft
command_draft w asked t = record {
  documents = t.documents;
  registry = t.registry;
  configurations = t.configurations;
  components = Some asked.components;
  components_numbered = asked.components_numbered;
  open_periods = Some asked.open_periods;
  failed = asked.failed;
  failures = Same;
  instances = Same;
  whiteboard = None;
  instances_numbered = w.instances_numbered;
  turns_begun = w.turns_begun;
  generations = Same;
  uses = t.uses;
  tokens = Same;
  descriptions = t.descriptions;
  levels = t.levels;
}
