use Rattle.std.proofs.Common.{subst}
use Rattle.gate_keeper.specs.Keepers.{IsOrderly}
use Rattle.gate_keeper.proofs.Keeping.{orderly}
use Rattle.gate_keeper.proofs.keeper.Keeper.note_orderly.Goals as goal

pub returns : goal.returns
returns c = subst IsOrderly c.self.view_is (orderly c.self.inside.seat c.self.inside.shelf.items _ c.self.invariant.0)
