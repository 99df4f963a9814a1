use Rattle.scr_judgements.proofs.CommandRoom.{room_is}
use Rattle.scr_judgements.proofs.room.has_room_for_command.Goals as goal

pub returns : goal.returns
returns c = room_is c.args.journal.now c.args.state.now c.room.result c.requires c.room.ensures
