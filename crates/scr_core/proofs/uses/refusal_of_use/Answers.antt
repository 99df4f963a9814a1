use Rattle.std.proofs.Common.{◌∙◌, sym}
use Rattle.scr_core.proofs.Getting.{get_full, get_lacks, get_refused, get_told}
use Rattle.scr_core.proofs.uses.refusal_of_use.Goals as goal

pub returns-in-Some-clause-answer : goal.returns-in-Some-clause-answer
returns-in-Some-clause-answer c = get_refused c.args.journal.now c.args.state.now c.requires.keeps c.args.bundle c.args.service c.in-Some.fault (sym c.in-Some.is ∙ c.refusal_of_get.ensures)

pub returns-in-Some-clause-told : goal.returns-in-Some-clause-told
returns-in-Some-clause-told c = get_told c.args.journal.now c.args.state.now c.requires.keeps c.args.bundle c.args.service c.in-Some.fault (sym c.in-Some.is ∙ c.refusal_of_get.ensures)

pub returns-then-not-has_room-clause-answer : goal.returns-then-not-has_room-clause-answer
returns-then-not-has_room-clause-answer c =
    get_full c.args.journal.now c.args.state.now c.requires.keeps c.args.bundle c.args.service (sym c.in_default.is ∙ c.refusal_of_get.ensures)
    (sym (c.has_room.ensures c.args.state.now c.requires.keeps) ∙ c.if-not-has_room.true)

pub returns-clause-answer : goal.returns-clause-answer
returns-clause-answer c =
    get_lacks c.args.journal.now c.args.state.now c.requires.keeps c.args.bundle c.args.service (sym c.in_default.is ∙ c.refusal_of_get.ensures)
    (sym (c.has_room.ensures c.args.state.now c.requires.keeps) ∙ c.if-not-has_room.false)
