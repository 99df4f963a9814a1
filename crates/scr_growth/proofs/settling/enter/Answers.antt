use Rattle.std.proofs.Common.{ap, arith}
use Rattle.journal_core.specs.Rooms.{JournalRows}
use Rattle.scr_growth.specs.Growths.{entry_with}
use Rattle.scr_world.specs.declared.step.Step.{Step}
use Rattle.scr_growth.proofs.settling.enter.Goals as goal

pub take_entry-requires : goal.take_entry-requires
take_entry-requires c =
    let room = c.room-room.ensures in
    (c.args.journal.now, c.reserved-before.ensures, record { entry = entry_with c.args.step.value c.args.lists; reserved_then = c.args.reserved; is = c.in_ok-add_entry.ensures.ok; room = omega (arith, room) })

pub returns-in-Ok-clause-told : goal.returns-in-Ok-clause-told
returns-in-Ok-clause-told c = λ was before.
    c.in-Ok.ensures.ok c.args.journal.now.entries (entry_with c.args.step.value c.args.lists) was (ap (λ (j : JournalRows Step). j.entries) c.in_ok-add_entry.ensures.ok) before

pub returns-in-Err-clause-journal : goal.returns-in-Err-clause-journal
returns-in-Err-clause-journal c =
    let room = c.room-room.ensures in
    c.take_entry.ensures c.args.journal.now c.reserved-before.ensures (record { entry = entry_with c.args.step.value c.args.lists; reserved_then = c.args.reserved; is = c.in_ok-add_entry.ensures.ok; room = omega (arith, room) })
