use Rattle.std.proofs.Common.{◌≡◌, drop}
use Rattle.callback_orders.specs.Lives.{held_after, held_for}
use Rattle.callback_orders.proofs.lives.held_for.Given as goal

abbrev pub invariant-loop-called : goal.invariant-loop-called
invariant-loop-called l = held_for l.name l.calls ≡ held_after l.name l.held.items (drop l.called-index l.calls)
