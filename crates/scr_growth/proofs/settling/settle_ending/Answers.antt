use Rattle.std.proofs.Common.{◌∙◌, ap, refl}
use Rattle.scr_growth.specs.Growths.{services_among}
use Rattle.scr_growth.proofs.SettleSteps.{before_for, numbered_for, rising_for, room_for, settled_so, state_back, stopping_for}
use Rattle.scr_state.specs.declared.state.State.{State}
use Rattle.scr_world.specs.Calls.{world_at}
use Rattle.scr_world.specs.Steps.{history_of}
use Rattle.scr_growth.proofs.settling.settle_ending.Goals as goal

pub enter-requires-clause-room : goal.enter-requires-clause-room
enter-requires-clause-room c =
    room_for c.args.journal.now c.args.step.value c.args.state.now c.args.undo.now c.args.periods.now c.args.lists c.requires.draining_ones c.requires.settling c.args.ending.rest c.args.step.value refl c.requires.rest

pub enter-requires-clause-numbered : goal.enter-requires-clause-numbered
enter-requires-clause-numbered c =
    numbered_for c.args.journal.now c.args.step.value c.args.state.now c.args.undo.now c.args.periods.now c.args.lists c.requires.draining_ones c.requires.settling c.args.ending.rest c.args.step.value refl c.requires.rest c.note_listeners.ensures

pub leave-requires-clause-stopping : goal.leave-requires-clause-stopping
leave-requires-clause-stopping c =
    let was = world_at c.args.journal.now.entries in
    let before = before_for c.args.journal.now c.args.step.value c.args.state.now c.args.undo.now c.args.periods.now c.args.lists c.requires.draining_ones c.requires.settling c.args.ending.rest c.args.step.value refl c.requires.rest
    c.services_among-given.result (c.services_among-given.ensures ∙ ap services_among c.as_slice.ensures) c.give.new.self c.in-Ok.ensures.ok in
    stopping_for c.args.journal.now c.args.step.value c.args.state.now c.args.undo.now c.args.periods.now c.args.lists c.requires.draining_ones c.requires.settling c.args.ending.rest c.args.step.value refl c.requires.rest
    c.services_among-given.result (c.services_among-given.ensures ∙ ap services_among c.as_slice.ensures) c.give.new.self c.in-Ok.ensures.ok c.enter.new.state (c.in-Ok-enter.ensures.told was before) c.args.ending.stopped c.requires.stopped
    (c.note_bundles.ensures.step c.args.step.value (world_at c.args.journal.now.entries).bundles (c.note_bundles.ensures.world (history_of c.args.journal.now.entries))).0 c.note_stops.ensures.stopping

pub leave-requires-clause-rising : goal.leave-requires-clause-rising
leave-requires-clause-rising c =
    let was = world_at c.args.journal.now.entries in
    let before = before_for c.args.journal.now c.args.step.value c.args.state.now c.args.undo.now c.args.periods.now c.args.lists c.requires.draining_ones c.requires.settling c.args.ending.rest c.args.step.value refl c.requires.rest
    c.services_among-given.result (c.services_among-given.ensures ∙ ap services_among c.as_slice.ensures) c.give.new.self c.in-Ok.ensures.ok in
    rising_for c.args.journal.now c.args.step.value c.args.state.now c.args.undo.now c.args.periods.now c.args.lists c.requires.draining_ones c.requires.settling c.args.ending.rest c.args.step.value refl c.requires.rest
    c.services_among-given.result (c.services_among-given.ensures ∙ ap services_among c.as_slice.ensures) c.give.new.self c.in-Ok.ensures.ok c.enter.new.state (c.in-Ok-enter.ensures.told was before) c.args.ending.stopped c.requires.stopped
    (c.note_bundles.ensures.step c.args.step.value (world_at c.args.journal.now.entries).bundles (c.note_bundles.ensures.world (history_of c.args.journal.now.entries))).0 c.note_stops.ensures.rising

pub returns-in-Ok-enter-clause-settled : goal.returns-in-Ok-enter-clause-settled
returns-in-Ok-enter-clause-settled c =
    let was = world_at c.args.journal.now.entries in
    let before = before_for c.args.journal.now c.args.step.value c.args.state.now c.args.undo.now c.args.periods.now c.args.lists c.requires.draining_ones c.requires.settling c.args.ending.rest c.args.step.value refl c.requires.rest
    c.services_among-given.result (c.services_among-given.ensures ∙ ap services_among c.as_slice.ensures) c.give.new.self c.in-Ok.ensures.ok in
    settled_so c.args.journal.now c.args.step.value c.args.state.now c.args.undo.now c.args.periods.now c.args.lists c.requires.draining_ones c.requires.settling c.args.ending.rest c.args.step.value refl c.requires.rest
    c.services_among-given.result (c.services_among-given.ensures ∙ ap services_among c.as_slice.ensures) c.give.new.self c.in-Ok.ensures.ok c.enter.new.state (c.in-Ok-enter.ensures.told was before) c.args.ending.stopped c.requires.stopped
    c.leave.new.world c.leave.ensures.world c.enter.new.journal c.in-Ok-enter.ensures.ok c.leave.result c.leave.ensures.shut

pub returns-in-Err-enter-clause-state : goal.returns-in-Err-enter-clause-state
returns-in-Err-enter-clause-state c =
    state_back c.args.state.now c.enter.new.state c.give.new.self c.give_back.new.self c.in-Err-enter.ensures.state
    (c.give_back.ensures.undone c.args.state.now.world.registry c.rows-rows.ensures.numbered (ap (λ (x : State). x.world.registry) c.in-Err-enter.ensures.state ∙ c.in-Ok.ensures.ok))
