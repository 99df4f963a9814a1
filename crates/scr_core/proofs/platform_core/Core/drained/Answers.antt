use Rattle.scr_core.proofs.FarCalls.{drained_all}
use Rattle.scr_core.proofs.WiredJournals.{drained_kept}
use Rattle.scr_core.proofs.platform_core.Core.drained.Goals as goal

pub invariant_of-self : goal.invariant_of-self
invariant_of-self c =
    let core = c.self.inside in
    let all = drained_all core.limits.journal core.journal c.drain.new.journal core.state c.drain.new.state core.lines.items core.making c.self.invariant.0 c.self.invariant.2 c.drain.ensures.limit c.drain.ensures.keeps c.drain.result c.args.key c.drain.ensures.ok c.drain.ensures.err in (
      all.0,
      c.self.invariant.1,
      all.1,
      drained_kept core.journal c.drain.new.journal core.state c.drain.new.state c.self.invariant.0.state c.drain.ensures.keeps core.wirings c.self.invariant.3 c.drain.result c.args.key c.drain.ensures.ok c.drain.ensures.err,
    )
