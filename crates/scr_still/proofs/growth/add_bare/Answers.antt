use Rattle.std.proofs.Common.{ap, arith}
use Rattle.scr_laws.specs.Reserving.{reserved_with}
use Rattle.scr_still.proofs.growth.add_bare.Goals as goal

pub append_reserved-requires : goal.append_reserved-requires
append_reserved-requires c = c.requires.room.reserved cc

pub append_with-requires : goal.append_with-requires
append_with-requires c =
    let room = c.requires.room.beside cc in
    let same = ap reserved_with c.deref-2.ensures in
    let more = c.reserved_with-more.ensures in
    omega (arith, room, same, more)
