use Rattle.std.proofs.Common.{◌∙◌, arith}
use Rattle.callback_orders.specs.Lives.{held_by}
use Rattle.callback_orders.proofs.HeldLemmas.{held_after-next}
use Rattle.callback_orders.proofs.lives.is_held.Goals as goal

pub loop-called-preserved : goal.loop-called-preserved
loop-called-preserved c =
    let so_far = c.loop-called.invariant in
    let called = c.called-item.result in (
      held_by c.args.name.now called.callback called.outcome so_far.0,
      c.is_held_after-is_held.ensures so_far.0 so_far.1,
      so_far.2 ∙ held_after-next c.args.name.now so_far.0 c.args.calls.now c.loop-called.called-index called (omega arith) c.called-item.is,
    )
