use Rattle.std.proofs.Common.{ap, arith, length}
use Rattle.component_state.proofs.AskingLemmas.{none_left}
use Rattle.component_state.proofs.component_configurations.how_many.room_after_enabled.Goals as goal

pub returns : goal.returns
returns c = omega (arith, c.loop-index.invariant, ap length (none_left c.args.bundle.now c.args.configurations.now c.loop-index.index c.loop-index.index c.descriptions-descriptions.result.now c.enabled-enabled.result.now (omega arith)))
