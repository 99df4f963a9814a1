use Rattle.std.proofs.Common.{◌≡◌, drop}
use Rattle.callback_orders.specs.Lives.{phase_after, phase_of}
use Rattle.callback_orders.proofs.lives.phase_of.Given as goal

abbrev pub invariant-loop-called : goal.invariant-loop-called
invariant-loop-called l = phase_of l.calls ≡ phase_after l.phase (drop l.called-index l.calls)
