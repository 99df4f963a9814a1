use Rattle.std.proofs.Common.{◌≡◌, take}
use Rattle.callback_orders.proofs.word.WordCopies.copy.Given as goal

abbrev pub invariant-loop-called : goal.invariant-loop-called
invariant-loop-called l = l.calls.items ≡ take l.called-index l.called-items
