use Rattle.std.proofs.Common.{◌∙◌, refl, sym}
use Rattle.scr_judgements.proofs.Changed.{of_command}
use Rattle.scr_judgements.proofs.Judged.{unchanged}
use Rattle.scr_judgements.proofs.Plain.{refused_plainly}
use Rattle.scr_starting.proofs.Stops.{effect, free, unknown}
use Rattle.scr_world.specs.declared.command.Command.TheVariants.{Stop}
use Rattle.scr_world.specs.declared.reply.Reply.TheVariants.{Done}
use Rattle.scr_world.specs.declared.reply.CoreFault.TheVariants.{NoBundle}
use Rattle.scr_starting.proofs.stopping.judge_stop.Goals as goal

pub returns-in-None : goal.returns-in-None
returns-in-None c = record {
  judged = refused_plainly c.args.journal.now.limit c.args.state.now (Stop c.args.bundle) refl (NoBundle c.args.bundle) (unknown c.args.state.now.world c.args.bundle c.in-None.ensures);
}

pub returns-then-not-is_active_state : goal.returns-then-not-is_active_state
returns-then-not-is_active_state c = record {
  judged = unchanged c.args.journal.now.limit c.args.state.now (Stop c.args.bundle) (free c.args.state.now.world c.args.bundle c.in-Some.now c.in-Some.ensures) Done
      (effect c.args.state.now.world c.args.bundle c.in-Some.now c.in-Some.ensures ∙ sym c.is_active_state.ensures ∙ c.if-not-is_active_state.true) refl;
}

pub stop_active-requires : goal.stop_active-requires
stop_active-requires c = record {
  keeps = c.requires.keeps;
  command = c.requires.command;
  free = free c.args.state.now.world c.args.bundle c.in-Some.now c.in-Some.ensures;
  effect = effect c.args.state.now.world c.args.bundle c.in-Some.now c.in-Some.ensures ∙ sym c.is_active_state.ensures ∙ c.if-not-is_active_state.false;
}

pub returns-else-not-is_active_state : goal.returns-else-not-is_active_state
returns-else-not-is_active_state c = record {
  judged = of_command c.args.journal.now.limit c.args.state.now c.args.step.now (Stop c.args.bundle) c.stop_active.result c.requires.command c.stop_active.ensures;
}
