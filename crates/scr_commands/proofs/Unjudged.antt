-- A step that is no command is answered as want of memory.
use Rattle.std.proofs.Common.{◌≢◌, ℕ, Err, refl}
use Rattle.scr_judgements.specs.Judgements.{JudgesStep}
use Rattle.scr_state.specs.declared.state.State.{State}
use Rattle.scr_world.specs.declared.command.Command.{Command}
use Rattle.scr_world.specs.declared.reply.CoreFault.TheVariants.{OutOfMemory}
use Rattle.scr_world.specs.declared.step.Step.{Step}
use Rattle.scr_world.specs.declared.step.Step.TheVariants.{Command as Commanded, Begin, End, Drained, Got, Released}

pub no_judge : (limit : ℕ) (s : State) (step : Step) → ((command : Command) → step ≢ Commanded command) → JudgesStep limit s step (Err OutOfMemory)
unfolding JudgesStep
no_judge limit s (Commanded command) none = absurd (none command refl)
no_judge limit s (Begin t i c b callback chosen) none = refl
no_judge limit s (End t o) none = refl
no_judge limit s (Drained i) none = refl
no_judge limit s (Got b service) none = refl
no_judge limit s (Released p) none = refl
