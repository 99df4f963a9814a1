-- What is right to say of a command before it comes. Our own.
use Rattle.std.specs.Prelude.{◌≡◌, ℕ, Result, Ok, Err, true, false}
use Rattle.scr_judgements.specs.declared.judgement.Judgement.{Judgement}
use Rattle.scr_judgements.specs.declared.judgement.Judgement.TheVariants.{Unchanged, Changes}
use Rattle.scr_state.specs.Keeps.{IsDraft}
use Rattle.scr_state.specs.declared.state.State.{State}
use Rattle.scr_world.specs.Replies.{MayLackMemory, Replies, changes}
use Rattle.scr_world.specs.declared.command.Command.{Command}
use Rattle.scr_world.specs.declared.reply.CoreFault.{CoreFault}
use Rattle.scr_world.specs.declared.reply.CoreFault.TheVariants.{OutOfMemory}
use Rattle.scr_world.specs.declared.step.Step.{Step}
use Rattle.scr_world.specs.declared.step.Step.TheVariants.{Command as Commanded}

-- a refusal is the reply, and want of memory hides none but those that take memory; what isn't refused has the reply that it answers, changes something or doesn't, and then has its draft
unfoldable pub Judges : ℕ → State → Command → Result Judgement CoreFault → Type 0
Judges limit s command (Err OutOfMemory) = MayLackMemory limit s.world command
Judges limit s command (Err fault) = Replies limit s.world command (Err fault)
Judges limit s command (Ok (Unchanged reply)) = (changes limit s.world command ≡ false) × Replies limit s.world command (Ok reply)
Judges limit s command (Ok (Changes reply draft)) = (changes limit s.world command ≡ true) × (Replies limit s.world command (Ok reply) × IsDraft s (Commanded command) draft)

-- the same of a step. One that is no command is answered as want of memory
unfoldable pub JudgesStep : ℕ → State → Step → Result Judgement CoreFault → Type 0
JudgesStep limit s (Commanded command) judged = Judges limit s command judged
JudgesStep limit s _ judged = judged ≡ Err OutOfMemory
