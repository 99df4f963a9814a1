use Rattle.std.proofs.Common.{◌∙◌, sym}
use Rattle.scr_judgements.proofs.Changed.{changed, no_room}
use Rattle.scr_judgements.proofs.changing.change.Goals as goal

pub returns-then-not-has_room_for_command : goal.returns-then-not-has_room_for_command
returns-then-not-has_room_for_command c =
    no_room c.args.journal.now.limit c.args.state.now c.args.step.now c.args.reply c.args.tables c.requires.changes (sym c.has_room_for_command.ensures ∙ c.if-not-has_room_for_command.true)

pub returns : goal.returns
returns c =
    changed c.args.journal.now.limit c.args.state.now c.args.step.now c.args.reply c.args.asked c.args.tables c.command_draft-draft.result c.requires.changes c.requires.asked
    (sym c.has_room_for_command.ensures ∙ c.if-not-has_room_for_command.false) c.command_draft-draft.ensures
