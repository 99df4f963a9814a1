use Rattle.scr_core.proofs.WiredJournals.{taken_kept}
use Rattle.scr_core.proofs.platform_core.Core.take_turn.Goals as goal

pub invariant_of-self : goal.invariant_of-self
invariant_of-self c =
    let core = c.self.inside in (
      c.take.ensures.keeps,
      c.self.invariant.1,
      c.take.ensures.far,
      taken_kept core.journal c.take.new.journal core.state c.take.new.state c.self.invariant.0.state c.take.ensures.keeps.state core.wirings c.self.invariant.3 core.limits.journal c.take.result c.take.ensures.answer,
    )
