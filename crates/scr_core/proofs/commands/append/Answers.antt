use Rattle.std.proofs.Common.{◌∙◌, Err, Ok, subst, sym}
use Rattle.journal_core.specs.Rooms.{JournalRows}
use Rattle.scr_core.proofs.Commanded.{step_changed, step_drafted, step_lacks, step_may, step_room}
use Rattle.scr_judgements.specs.Judgements.{JudgesStep}
use Rattle.scr_judgements.specs.declared.judgement.Judgement.TheVariants.{Changes}
use Rattle.scr_world.specs.Calls.{Commands}
use Rattle.scr_world.specs.declared.reply.CoreFault.TheVariants.{OutOfMemory}
use Rattle.scr_world.specs.declared.step.Step.{Step}
use Rattle.scr_core.proofs.commands.append.Goals as goal

pub returns-in-Err-clause-answer : goal.returns-in-Err-clause-answer
returns-in-Err-clause-answer c = λ command is. step_lacks c.args.journal.now c.args.state.now c.requires.keeps c.args.step command is c.args.reply c.args.draft c.requires.judged

pub grow_wired-requires-clause-may : goal.grow_wired-requires-clause-may
grow_wired-requires-clause-may c =
    let it = subst (λ (x : Step). JudgesStep c.args.journal.now.limit c.args.state.now x (Ok (Changes c.args.reply c.args.draft))) (sym c.in-Ok.ensures) c.requires.judged in
    step_may c.args.journal.now c.args.state.now c.requires.keeps c.in-Ok.step.value c.requires.command.0 (c.in-Ok.ensures ∙ c.requires.command.1) c.args.reply c.args.draft it

pub grow_wired-requires-clause-room : goal.grow_wired-requires-clause-room
grow_wired-requires-clause-room c =
    let it = subst (λ (x : Step). JudgesStep c.args.journal.now.limit c.args.state.now x (Ok (Changes c.args.reply c.args.draft))) (sym c.in-Ok.ensures) c.requires.judged in
    step_room c.args.journal.now c.args.state.now c.requires.keeps c.in-Ok.step.value c.requires.command.0 (c.in-Ok.ensures ∙ c.requires.command.1) c.args.reply c.args.draft it

pub grow_wired-requires-clause-draft : goal.grow_wired-requires-clause-draft
grow_wired-requires-clause-draft c =
    let it = subst (λ (x : Step). JudgesStep c.args.journal.now.limit c.args.state.now x (Ok (Changes c.args.reply c.args.draft))) (sym c.in-Ok.ensures) c.requires.judged in
    step_drafted c.args.journal.now c.args.state.now c.requires.keeps c.in-Ok.step.value c.requires.command.0 (c.in-Ok.ensures ∙ c.requires.command.1) c.args.reply c.args.draft it

pub returns-in-Err-grow_wired-clause-answer : goal.returns-in-Err-grow_wired-clause-answer
returns-in-Err-grow_wired-clause-answer c = λ command is.
    subst (λ (j : JournalRows Step). Commands c.args.journal.now.limit c.args.journal.now.entries command (Err OutOfMemory) j.entries) (sym c.in-Err-grow_wired.ensures.as_before)
    (step_lacks c.args.journal.now c.args.state.now c.requires.keeps c.args.step command is c.args.reply c.args.draft c.requires.judged)

pub returns-in-Ok-grow_wired-clause-answer : goal.returns-in-Ok-grow_wired-clause-answer
returns-in-Ok-grow_wired-clause-answer c = λ command is.
    let it = subst (λ (x : Step). JudgesStep c.args.journal.now.limit c.args.state.now x (Ok (Changes c.args.reply c.args.draft))) (sym c.in-Ok.ensures) c.requires.judged in
    step_changed c.args.journal.now c.args.state.now c.requires.keeps c.in-Ok.step.value command (c.in-Ok.ensures ∙ is) c.args.reply c.args.draft it
    c.in-Ok-grow_wired.shut c.grow_wired.new.journal.entries c.in-Ok-grow_wired.ensures.shut c.in-Ok-grow_wired.ensures.grown
