use Rattle.std.proofs.Common.{inr, subst, Ok}
use Rattle.callback_orders.specs.declared.callback.Outcome.{Outcome}
use Rattle.platform_hall.specs.Platforms.{FinishesTurn}
use Rattle.script_shell.proofs.asked.finish.Goals as goal

pub returns-in-Ok-NoMemory : goal.returns-in-Ok-NoMemory
returns-in-Ok-NoMemory g c =
    let P : Outcome → Type 0 = λ outcome. FinishesTurn g.K.Kinds.refuses c.args.platform.now c.args.turn (Ok outcome) c.finish.new.self in
    (c.if-not-manual.false, inr (subst P c.in-Ok-NoMemory.field-0-is c.in-Ok-NoMemory.ensures.finishes))
