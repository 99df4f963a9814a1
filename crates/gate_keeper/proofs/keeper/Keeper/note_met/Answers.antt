use Rattle.std.proofs.Common.{subst}
use Rattle.gate_keeper.specs.Keepers.{ShutAreVisited}
use Rattle.gate_keeper.proofs.keeper.Keeper.note_met.Goals as goal

pub returns : goal.returns
returns c = subst ShutAreVisited c.self.view_is c.self.invariant.1
