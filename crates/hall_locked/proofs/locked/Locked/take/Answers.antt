use Rattle.hall_locked.proofs.Gates.{begun_gates}
use Rattle.hall_locked.proofs.Uses.{begun_uses}
use Rattle.hall_locked.proofs.locked.Locked.take.Goals as goal

pub invariant_of-self : goal.invariant_of-self
invariant_of-self g c = (
  begun_gates c.self.inside.own c.take.new.self c.take.result c.note_kept.ensures.legal c.take.ensures.answer c.take.ensures.refused c.self.inside.keeper c.self.invariant.0,
  c.self.invariant.1,
  begun_uses c.args.owner c.self.inside.own c.take.new.self c.take.ensures.appended c.self.inside.uses.items c.self.invariant.2 c.take.result c.take.ensures.answer c.take.ensures.refused,
)
