use Rattle.std.proofs.Common.{Err, Option, subst, sym}
use Rattle.std.specs.Option.{unwrap_or}
use Rattle.std.proofs.lemmas.Result.{err_from_is_err_and}
use Rattle.journal_core.specs.Rooms.{JournalRows}
use Rattle.scr_core.proofs.Getting.{get_may, get_room, get_unrefused}
use Rattle.scr_world.specs.Calls.{Gets}
use Rattle.scr_world.specs.declared.reply.CoreFault.{CoreFault}
use Rattle.scr_world.specs.declared.reply.CoreFault.TheVariants.{OutOfMemory}
use Rattle.scr_world.specs.declared.step.Step.{Step}
use Rattle.scr_core.proofs.uses.get.Goals as goal

pub returns-in-Some-clause-answer : goal.returns-in-Some-clause-answer
returns-in-Some-clause-answer c =
    subst (λ (o : Option CoreFault). Gets c.args.journal.now.limit c.args.journal.now.entries c.args.bundle c.args.service (Err (unwrap_or o OutOfMemory)) c.args.journal.now.entries) c.in-Some.is c.refusal_of_use.ensures.answer

pub returns-in_err-step-clause-answer : goal.returns-in_err-step-clause-answer
returns-in_err-step-clause-answer c =
    let p = err_from_is_err_and c.from_residual.result c.from_residual.ensures.1 in
    rw (p.1, p.2) (get_unrefused c.args.journal.now c.args.state.now c.requires.keeps c.args.bundle c.args.service c.refusal_of_use.result c.in_default.is c.refusal_of_use.ensures.answer)

pub returns-in-Err-clause-answer : goal.returns-in-Err-clause-answer
returns-in-Err-clause-answer c = get_unrefused c.args.journal.now c.args.state.now c.requires.keeps c.args.bundle c.args.service c.refusal_of_use.result c.in_default.is c.refusal_of_use.ensures.answer

pub grow_still-requires-clause-may : goal.grow_still-requires-clause-may
grow_still-requires-clause-may c =
    let free = get_unrefused c.args.journal.now c.args.state.now c.requires.keeps c.args.bundle c.args.service c.refusal_of_use.result c.in_default.is c.refusal_of_use.ensures.answer in
    get_may c.args.journal.now c.args.state.now c.requires.keeps c.args.bundle c.args.service free c.in_ok-step.step.value c.in_ok-step.ensures

pub grow_still-requires-clause-room : goal.grow_still-requires-clause-room
grow_still-requires-clause-room c =
    let free = get_unrefused c.args.journal.now c.args.state.now c.requires.keeps c.args.bundle c.args.service c.refusal_of_use.result c.in_default.is c.refusal_of_use.ensures.answer in
    get_room c.args.journal.now c.args.state.now c.requires.keeps c.args.bundle c.args.service free c.in_ok-step.step.value c.in_ok-step.ensures

pub returns-in_err-grow_still-clause-answer : goal.returns-in_err-grow_still-clause-answer
returns-in_err-grow_still-clause-answer c =
    let p = err_from_is_err_and c.from_residual-in_err-grow_still.result c.from_residual-in_err-grow_still.ensures.1 in
    let lacks = get_unrefused c.args.journal.now c.args.state.now c.requires.keeps c.args.bundle c.args.service c.refusal_of_use.result c.in_default.is c.refusal_of_use.ensures.answer in
    rw (p.1, p.2) (subst (λ (j : JournalRows Step). Gets c.args.journal.now.limit c.args.journal.now.entries c.args.bundle c.args.service (Err OutOfMemory) j.entries) (sym c.in_err-grow_still.ensures.as_before) lacks)
