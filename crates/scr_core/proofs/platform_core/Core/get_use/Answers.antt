use Rattle.scr_core.proofs.FarCalls.{got_all}
use Rattle.scr_core.proofs.WiredJournals.{got_kept}
use Rattle.scr_core.proofs.platform_core.Core.get_use.Goals as goal

pub invariant_of-self : goal.invariant_of-self
invariant_of-self c =
    let core = c.self.inside in
    let all = got_all core.limits.journal core.journal c.get.new.journal core.state c.get.new.state core.lines.items core.making c.self.invariant.0 c.self.invariant.2 c.get.ensures.limit c.get.ensures.keeps c.args.bundle c.args.service c.get.result c.get.ensures.answer in (
      all.0,
      c.self.invariant.1,
      all.1,
      got_kept core.journal c.get.new.journal core.state c.get.new.state c.self.invariant.0.state c.get.ensures.keeps core.wirings c.self.invariant.3 c.args.bundle c.args.service c.get.result c.get.ensures.answer,
    )
