use Rattle.std.proofs.Common.{subst, sym}
use Rattle.atomic_table.specs.Seated.{TableId}
use Rattle.gate_visits.specs.Visits.{IsLastOf}
use Rattle.gate_visits.proofs.Visiting.{last_is}
use Rattle.gate_visits.proofs.visitor.Visitor.leave.Goals as goal

pub returns-clause-last : goal.returns-clause-last
returns-clause-last c =
    subst (λ (z : TableId). IsLastOf z c.args.inside.key.slot c.leave.result) (sym c.requires.own.0)
    (last_is c.args.gate.now c.args.inside.key.slot c.leave.new.seat.knows.saw c.leave.result c.leave.ensures.last)
