use Rattle.std.proofs.Common.{◌∙◌, refl, sym}
use Rattle.std.proofs.lemmas.Result.{err_from_is_err_and}
use Rattle.scr_judgements.proofs.Changed.{of_command}
use Rattle.scr_judgements.proofs.Judged.{no_memory_refused, unchanged}
use Rattle.scr_judgements.proofs.Plain.{refused_plainly}
use Rattle.scr_world.specs.declared.command.Command.TheVariants.{Disable}
use Rattle.scr_world.specs.declared.reply.CoreFault.TheVariants.{NoComponent}
use Rattle.scr_world.specs.declared.reply.Reply.TheVariants.{Done}
use Rattle.scr_starting.proofs.enabling.judge_disable.Goals as goal

pub returns-in_err-fault : goal.returns-in_err-fault
returns-in_err-fault c =
    let p = err_from_is_err_and c.from_residual.result c.from_residual.ensures.1 in
    record { judged = rw (p.1) (no_memory_refused c.args.journal.now.limit c.args.state.now (Disable c.args.bundle c.args.name.now) (NoComponent c.args.name.now) c.in_err-fault.ensures.err refl p.0 p.2) }

pub returns-in-Some : goal.returns-in-Some
returns-in-Some c = record {
  judged = refused_plainly c.args.journal.now.limit c.args.state.now (Disable c.args.bundle c.args.name.now) refl c.in-Some.fault (sym c.in_ok-fault.ensures.ok ∙ c.in-Some.is);
}

pub returns-then-not-is_enabled : goal.returns-then-not-is_enabled
returns-then-not-is_enabled c = record {
  judged = unchanged c.args.journal.now.limit c.args.state.now (Disable c.args.bundle c.args.name.now) (sym c.in_ok-fault.ensures.ok ∙ c.in-None.is) Done
      (sym c.is_enabled.ensures ∙ c.if-not-is_enabled.true) refl;
}

pub returns-else-not-is_enabled : goal.returns-else-not-is_enabled
returns-else-not-is_enabled c = record {
  judged = of_command c.args.journal.now.limit c.args.state.now c.args.step.now (Disable c.args.bundle c.args.name.now) c.disable_enabled.result c.requires.command c.disable_enabled.ensures;
}
