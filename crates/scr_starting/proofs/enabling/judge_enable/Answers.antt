use Rattle.std.proofs.Common.{◌∙◌, refl, sym}
use Rattle.std.proofs.lemmas.Result.{err_from_is_err_and}
use Rattle.scr_judgements.proofs.Changed.{of_command}
use Rattle.scr_judgements.proofs.Judged.{no_memory_refused}
use Rattle.scr_judgements.proofs.Plain.{refused_plainly}
use Rattle.scr_starting.proofs.ComponentFlags.{enable_before, enable_behind}
use Rattle.scr_world.specs.declared.command.Command.TheVariants.{Enable}
use Rattle.scr_world.specs.declared.reply.CoreFault.TheVariants.{NoComponent}
use Rattle.scr_starting.proofs.enabling.judge_enable.Goals as goal

pub returns-in_err-fault : goal.returns-in_err-fault
returns-in_err-fault c =
    let p = err_from_is_err_and c.from_residual.result c.from_residual.ensures.1 in
    let unknown = enable_before c.args.state.now.world c.args.bundle c.args.name.now (NoComponent c.args.name.now) c.in_err-fault.ensures.err in
    record { judged = rw (p.1) (no_memory_refused c.args.journal.now.limit c.args.state.now (Enable c.args.bundle c.args.name.now) (NoComponent c.args.name.now) unknown refl p.0 p.2) }

pub returns-in-Some : goal.returns-in-Some
returns-in-Some c = record {
  judged = refused_plainly c.args.journal.now.limit c.args.state.now (Enable c.args.bundle c.args.name.now) refl c.in-Some.fault
      (enable_before c.args.state.now.world c.args.bundle c.args.name.now c.in-Some.fault (sym c.in_ok-fault.ensures.ok ∙ c.in-Some.is));
}

pub enable_known-requires : goal.enable_known-requires
enable_known-requires c = record {
  keeps = c.requires.keeps;
  command = c.requires.command;
  refused = enable_behind c.args.state.now.world c.args.bundle c.args.name.now (sym c.in_ok-fault.ensures.ok ∙ c.in-None.is);
}

pub returns-in-None : goal.returns-in-None
returns-in-None c = record {
  judged = of_command c.args.journal.now.limit c.args.state.now c.args.step.now (Enable c.args.bundle c.args.name.now) c.enable_known.result c.requires.command c.enable_known.ensures;
}
