use Rattle.std.proofs.Common.{subst, sym}
use Rattle.std.proofs.lemmas.Result.{IfOk-weaker}
use Rattle.kept_wirings.specs.WiringChanges.{IsChangeBy}
use Rattle.kept_wirings.proofs.ChangedRows.{change_of}
use Rattle.scr_world.specs.declared.step.Step.{Step}
use Rattle.kept_wirings.proofs.wiring_changes.wiring_change.Goals as goal

pub returns-in-Command : goal.returns-in-Command
returns-in-Command c =
    IfOk-weaker c.change_by_command.result _ _
    (λ change is. subst (λ (x : Step). IsChangeBy x c.args.next change) (sym c.in-Command.is) (change_of c.in-Command.command c.args.next change is))
    c.change_by_command.ensures
