use Rattle.scr_laws.proofs.Reserved.{first_reserved, reserved_then, room_in}
use Rattle.scr_laws.proofs.StandingGets.{none_dropped}
use Rattle.scr_laws.proofs.reserving.note_reserved_by_entries.Goals as goal

pub returns-clause-first : goal.returns-clause-first
returns-clause-first c = first_reserved

pub returns-clause-counted : goal.returns-clause-counted
returns-clause-counted c = reserved_then

pub returns-clause-room : goal.returns-clause-room
returns-clause-room c = room_in

pub returns-clause-still : goal.returns-clause-still
returns-clause-still c = none_dropped
