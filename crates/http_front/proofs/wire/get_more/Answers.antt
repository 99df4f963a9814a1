use Rattle.std.proofs.Common.{refl}
use Rattle.http_front.proofs.FlowLemmas.{filled, nothing_left, no_room, read_failed, write_failed}
use Rattle.http_front.proofs.wire.get_more.Goals as goal

pub returns-then-not-send-clause-err : goal.returns-then-not-send-clause-err
returns-then-not-send-clause-err g c = let front = c.if-not-send.ensures.front in write_failed front.0 front.2 refl refl

pub returns-in-Filled-clause-ok : goal.returns-in-Filled-clause-ok
returns-in-Filled-clause-ok g c =
    let whole = c.if-not-send.ensures.whole in
    let step = c.in-Filled.ensures.step in
    filled step.0 whole.0 whole.1 step.1 step.2 step.3

pub returns-in-AtEnd-clause-ok : goal.returns-in-AtEnd-clause-ok
returns-in-AtEnd-clause-ok g c =
    let whole = c.if-not-send.ensures.whole in
    let step = c.in-AtEnd.ensures.step in
    nothing_left whole.0 whole.1 step.0 step.1 step.2

pub returns-in-ReadFailed-clause-err : goal.returns-in-ReadFailed-clause-err
returns-in-ReadFailed-clause-err g c =
    let whole = c.if-not-send.ensures.whole in
    let step = c.in-ReadFailed.ensures.step in
    read_failed whole.0 whole.1 step.0 step.1

pub returns-in-FillNoMemory-clause-err : goal.returns-in-FillNoMemory-clause-err
returns-in-FillNoMemory-clause-err g c =
    let whole = c.if-not-send.ensures.whole in
    let step = c.in-FillNoMemory.ensures.step in
    no_room step.0 whole.0 whole.1 step.1
