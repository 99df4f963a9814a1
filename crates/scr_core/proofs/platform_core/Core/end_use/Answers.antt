use Rattle.scr_core.proofs.FarCalls.{released_all}
use Rattle.scr_core.proofs.WiredJournals.{released_kept}
use Rattle.scr_core.proofs.platform_core.Core.end_use.Goals as goal

pub invariant_of-self : goal.invariant_of-self
invariant_of-self c =
    let core = c.self.inside in
    let all = released_all core.limits.journal core.journal c.release.new.journal core.state c.release.new.state core.lines.items core.making c.self.invariant.0 c.self.invariant.2 c.release.ensures.limit c.release.ensures.keeps c.release.result c.token.result.now c.release.ensures.ok c.release.ensures.err in (
      all.0,
      c.self.invariant.1,
      all.1,
      released_kept core.journal c.release.new.journal core.state c.release.new.state c.self.invariant.0.state c.release.ensures.keeps core.wirings c.self.invariant.3 c.release.result c.token.result.now c.release.ensures.ok c.release.ensures.err,
    )
