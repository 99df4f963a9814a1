use Rattle.platform_hall.proofs.Desks.{desk_alike}
use Rattle.platform_hall.proofs.Keeping.{fit_alike}
use Rattle.platform_hall.proofs.Seen.{kept_same}
use Rattle.platform_hall.proofs.Using.{released_grows, released_or_not}
use Rattle.platform_hall.proofs.core_desk.CoreDesk.end_use.Goals as goal

pub invariant_of-self : goal.invariant_of-self
invariant_of-self g c =
    let core = c.self.inside.core in
    let after = c.end_use-ended.new.self in
    let alike = released_or_not core.limits.journal core.journal after.journal c.args.note c.end_use-ended.result c.end_use-ended.ensures.ok c.end_use-ended.ensures.err in
    let grows = released_grows core.limits.journal core.journal after.journal c.args.note c.end_use-ended.result c.end_use-ended.ensures.ok c.end_use-ended.ensures.err in (
      desk_alike core after c.self.inside.turns.items c.self.inside.held.items alike c.self.invariant.0,
      fit_alike core after c.self.inside.kept.items c.note_legal.ensures c.note_legal-2.ensures grows alike c.self.invariant.1,
    )

pub returns-clause-kept : goal.returns-clause-kept
returns-clause-kept g c = kept_same c.self.view_is
