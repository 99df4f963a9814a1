use Rattle.std.proofs.Common.{◌+◌, ◌≤◌, ◌∙◌, ap, arith, length, subst, sym, ℕ}
use Rattle.journal_core.specs.Rooms.{JournalRows}
use Rattle.scr_world.specs.declared.step.Step.{Step}
use Rattle.scr_growth.proofs.entering.take_entry.Goals as goal

pub set_reserved-requires : goal.set_reserved-requires
set_reserved-requires c =
    let before = c.requires.0 in
    let added = c.requires.2 in
    let left : JournalRows Step = record before { reserved = added.reserved_then } in
    let taken = (c.take_back-entry.ensures.taken left added.entry added.is).0 in
    let room = added.room in
    let same = c.requires.1 in
    subst (λ (j : JournalRows Step). length j.entries + c.args.reserved ≤ j.limit) (sym taken) (omega (arith, room, same))

pub returns : goal.returns
returns c = λ before same added.
    let left : JournalRows Step = record before { reserved = added.reserved_then } in
    c.set_reserved.ensures
    ∙ ap (λ (j : JournalRows Step). record j { reserved = c.args.reserved }) (c.take_back-entry.ensures.taken left added.entry added.is).0
    ∙ ap (λ (n : ℕ). record before { reserved = n }) same
