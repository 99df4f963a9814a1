-- The entry of a step: what its pass closed and opened, and the bundles that have stopped. Our own.
use Rattle.component_state.specs.declared.pass.Passed.{Passed}
use Rattle.journal_core.specs.declared.entry.Entry.{Entry}
use Rattle.scr_world.specs.Consequences.{stopped_by}
use Rattle.scr_world.specs.declared.step.Step.{Step}
use Rattle.scr_world.specs.declared.world.World.{World}

abbrev pub entry_of : Step → Passed → World → Entry Step
entry_of step p w = record { step = step; closed = p.closed; opened = p.opened; stopped = stopped_by step w }
