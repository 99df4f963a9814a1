use Rattle.std.proofs.Common.{◌≡◌, ◌∙◌, sym, subst, Option}
use Rattle.std.specs.Result.{IfOk}
use Rattle.callback_orders.specs.declared.due.DueRef.{DueRef}
use Rattle.scr_dues.proofs.DueLemmas.{key_first, some_first}
use Rattle.scr_dues.proofs.dues.first_due_in.Goals as goal

pub returns-in-Some : goal.returns-in-Some
returns-in-Some c = some_first c.args.world.now c.in-Some.due (sym c.in-Some.is ∙ c.in_ok-due.ensures)

pub returns-in-None : goal.returns-in-None
returns-in-None c = subst (λ (d : Option DueRef). IfOk c.first_create.result (λ due. due ≡ d)) (key_first c.args.world.now (sym c.in-None.is ∙ c.in_ok-due.ensures)) c.first_create.ensures
