use Rattle.std.proofs.Common.{Err, Some, refl, subst, sym}
use Rattle.scr_judgements.proofs.Changed.{of_command}
use Rattle.scr_judgements.specs.Changing.{ChangesUnlessFull}
use Rattle.scr_configuring.proofs.ConfigRefusals.{own_changes, own_refused}
use Rattle.scr_judgements.specs.Drafting.{no_tables}
use Rattle.scr_judgements.specs.Judgements.{Judges}
use Rattle.scr_world.specs.declared.command.Command.TheVariants.{Configure}
use Rattle.scr_world.specs.declared.reply.CoreFault.{CoreFault}
use Rattle.scr_world.specs.declared.reply.Reply.TheVariants.{Done}
use Rattle.scr_world.specs.declared.step.Step.{Step}
use Rattle.scr_configuring.proofs.configuring.judge_configure.Goals as goal

pub change_configurations-requires : goal.change_configurations-requires
change_configurations-requires c = record {
  keeps = c.requires.keeps;
  changes = subst (λ (x : Step). ChangesUnlessFull c.args.state.now x Done (record no_tables { configurations = Some c.in-Ok.configurations })) (sym c.requires.command)
      (own_changes c.args.journal.now c.args.state.now c.requires.keeps c.in-Ok.configurations c.args.pid.now c.args.properties.now c.in-Ok.ensures.refused c.in-Ok.ensures.after, refl);
}

pub returns-in-Ok : goal.returns-in-Ok
returns-in-Ok c = record {
  judged = of_command c.args.journal.now.limit c.args.state.now c.args.step.now (Configure c.args.pid.now c.args.properties.now) c.change_configurations.result c.requires.command c.change_configurations.ensures;
}

pub returns-in-Err : goal.returns-in-Err
returns-in-Err c = record {
  judged = subst (λ (fault : CoreFault). Judges c.args.journal.now.limit c.args.state.now (Configure c.args.pid.now c.args.properties.now) (Err fault)) (sym c.core_fault.ensures)
      (own_refused c.args.journal.now.limit c.args.state.now c.args.pid.now c.args.properties.now c.in-Err.fault c.in-Err.ensures.refused);
}
