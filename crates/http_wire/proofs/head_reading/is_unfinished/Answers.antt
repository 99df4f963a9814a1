use Rattle.http_wire.proofs.HeadFrontLemmas.{room_goes_on}
use Rattle.http_wire.proofs.head_reading.is_unfinished.Goals as goal

pub returns-then-more : goal.returns-then-more
returns-then-more c = λ yes. let may = c.requires c.if-more.true in room_goes_on c.args.bytes.now (c.has_room.ensures yes) may.0 may.1
