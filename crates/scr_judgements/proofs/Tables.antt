-- The tables after a step.
use Rattle.std.proofs.Common.{◌≡◌, ◌+◌, refl, true}
use Rattle.std.specs.Option.{unwrap_or}
use Rattle.scr_judgements.specs.Asked.{is_command}
use Rattle.scr_judgements.specs.Changing.{AreTablesBy}
use Rattle.scr_judgements.specs.declared.drafting.TablesAfter.{TablesAfter}
use Rattle.scr_state.specs.declared.state.State.{State}
use Rattle.scr_world.specs.Tables.{configurations_by, documents_by}
use Rattle.scr_world.specs.declared.step.Step.{Step}
use Rattle.scr_world.specs.declared.step.Step.TheVariants.{Command as Commanded, Begin, End, Drained, Got, Released}

pub by_commands : (s : State) (step : Step) (tables : TablesAfter) → AreTablesBy s step tables → is_command step ≡ true
by_commands s (Commanded command) tables after = refl
by_commands s (Begin turn instance configuration consumer callback chosen) tables after = absurd after
by_commands s (End turn outcome) tables after = absurd after
by_commands s (Drained instance) tables after = absurd after
by_commands s (Got bundle service) tables after = absurd after
by_commands s (Released place) tables after = absurd after

pub documents_by_step : (s : State) (step : Step) (tables : TablesAfter) → AreTablesBy s step tables → unwrap_or tables.documents s.world.documents ≡ documents_by step (s.world.bundles.numbered + 1) s.world.documents
documents_by_step s (Commanded command) tables after = after.documents
documents_by_step s (Begin turn instance configuration consumer callback chosen) tables after = absurd after
documents_by_step s (End turn outcome) tables after = absurd after
documents_by_step s (Drained instance) tables after = absurd after
documents_by_step s (Got bundle service) tables after = absurd after
documents_by_step s (Released place) tables after = absurd after

pub configurations_by_step : (s : State) (step : Step) (tables : TablesAfter) → AreTablesBy s step tables → unwrap_or tables.configurations s.world.configurations ≡ configurations_by step s.world.configurations
configurations_by_step s (Commanded command) tables after = after.configurations
configurations_by_step s (Begin turn instance configuration consumer callback chosen) tables after = absurd after
configurations_by_step s (End turn outcome) tables after = absurd after
configurations_by_step s (Drained instance) tables after = absurd after
configurations_by_step s (Got bundle service) tables after = absurd after
configurations_by_step s (Released place) tables after = absurd after
