use Rattle.std.proofs.Common.{refl, subst, sym}
use Rattle.call_moves.specs.Evaluations.{taken_up}
use Rattle.call_runner.specs.Runs.{ComesToEnd, Outer}
use Rattle.call_runner.specs.declared.calls.Calls.{Calls}
use Rattle.call_runner.proofs.TakenUp.{begins}
use Rattle.call_runner.proofs.run.run_call.Goals as goal

pub returns : goal.returns
returns g c =
    let reaches = g.C.Callees.reaching c.args.callees.now in
    let front = g.C.Callees.journal_length c.args.callees.now in
    let outer : Outer = record { instance = c.args.party.instance; site = c.args.party.site; request = c.args.request } in
    let calls : Calls g.row.K-Work.Denot = record { waiting = c.in_ok-new.field-0; nested = c.new-2.result } in
    let at = begins reaches g.K.Kinds.next front g.K.Kinds.stands_for outer calls (taken_up outer.instance outer.site outer.request 0) c.in_ok-new.ensures.empty.0 c.in_ok-new.ensures.empty.1 c.new-2.ensures.items refl in
    subst (λ ns. ComesToEnd reaches g.K.Kinds.next front outer ns c.in_ok-end.end) (sym c.of.ensures) (c.in_ok-end.ensures outer at)
