use Rattle.std.proofs.Common.{◌∙◌, ap, refl, sym, Some}
use Rattle.bundle_life.specs.declared.bundle.BundleState.{BundleState}
use Rattle.bundle_life.specs.declared.bundle.BundleState.TheVariants.{Active}
use Rattle.scr_judgements.proofs.Changed.{of_command}
use Rattle.scr_judgements.proofs.Judged.{unchanged}
use Rattle.scr_judgements.proofs.Plain.{refused_plainly}
use Rattle.scr_starting.proofs.Starts.{effect, free, still_stopping, unknown}
use Rattle.scr_world.specs.declared.command.Command.TheVariants.{Start}
use Rattle.scr_world.specs.declared.reply.Reply.TheVariants.{Done}
use Rattle.scr_world.specs.declared.reply.CoreFault.TheVariants.{NoBundle, Stopping as StillStopping}
use Rattle.scr_starting.proofs.starting.judge_start.Goals as goal

pub returns-in-None : goal.returns-in-None
returns-in-None c = record {
  judged = refused_plainly c.args.journal.now.limit c.args.state.now (Start c.args.bundle) refl (NoBundle c.args.bundle) (unknown c.args.state.now.world c.args.bundle c.in-None.ensures);
}

pub returns-in-Some-Active : goal.returns-in-Some-Active
returns-in-Some-Active c =
    let state = sym (ap (λ (st : BundleState). Some st) c.in-Some-Active.field-0-is) ∙ c.in-Some-Active.ensures in record {
      judged = unchanged c.args.journal.now.limit c.args.state.now (Start c.args.bundle) (free c.args.state.now.world c.args.bundle state) Done (effect c.args.state.now.world c.args.bundle Active state) refl;
    }

pub returns-in-Some-Stopping : goal.returns-in-Some-Stopping
returns-in-Some-Stopping c =
    let state = sym (ap (λ (st : BundleState). Some st) c.in-Some-Stopping.field-0-is) ∙ c.in-Some-Stopping.ensures in record {
      judged = refused_plainly c.args.journal.now.limit c.args.state.now (Start c.args.bundle) refl (StillStopping c.lowest_keeping.result)
          (still_stopping c.args.state.now.world c.args.bundle state ∙ ap (λ n. Some (StillStopping n)) (sym c.lowest_keeping.ensures));
    }

pub returns-in-Some-Installed : goal.returns-in-Some-Installed
returns-in-Some-Installed c = record {
  judged = of_command c.args.journal.now.limit c.args.state.now c.args.step.now (Start c.args.bundle) c.start_resting.result c.requires.command c.start_resting.ensures;
}
