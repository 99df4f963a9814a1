use Rattle.platform_hall.proofs.Commanding.{commands_alike, commands_grow}
use Rattle.platform_hall.proofs.Desks.{desk_alike}
use Rattle.platform_hall.proofs.Keeping.{fit_alike}
use Rattle.platform_hall.proofs.Seen.{kept_same}
use Rattle.platform_hall.proofs.core_desk.CoreDesk.command.Goals as goal

pub invariant_of-self : goal.invariant_of-self
invariant_of-self g c =
    let core = c.self.inside.core in
    let after = c.command-answer.new.self in
    let alike = commands_alike core.limits.journal core.journal after.journal c.args.command c.command-answer.result c.command-answer.ensures.answer in
    let grows = commands_grow core.limits.journal core.journal after.journal c.args.command c.command-answer.result c.command-answer.ensures.answer in (
      desk_alike core after c.self.inside.turns.items c.self.inside.held.items alike c.self.invariant.0,
      fit_alike core after c.self.inside.kept.items c.note_legal.ensures c.note_legal-2.ensures grows alike c.self.invariant.1,
    )

pub returns-clause-kept : goal.returns-clause-kept
returns-clause-kept g c = kept_same c.self.view_is
