use Rattle.std.proofs.Common.{length}
use Rattle.scr_calls.specs.Evaluates.{reaching, world_up_to}
use Rattle.platform_hall.proofs.Answering.{asked_so}
use Rattle.platform_hall.proofs.call_answers.run_live.Goals as goal

pub returns : goal.returns
returns g c =
    let journal = c.args.desk.now.core.journal in
    asked_so (reaching (world_up_to journal)) g.K.Kinds.next (length journal) c.run_call.result c.in_ok-party.party.instance c.args.live.instance c.in_ok-party.party.site c.args.live.site c.in_ok-asked.asked c.args.request.now
    c.in_ok-party.ensures.number c.in_ok-party.ensures.site c.in_ok-asked.ensures c.run_call.ensures
