use Rattle.std.proofs.Common.{◌≡◌, ◌++◌, List, arith, drop, length, subst, sym, take}
use Rattle.std.proofs.lemmas.Grind.{common_steps}
use Rattle.scr_core.specs.Keeping.{KeepsAll}
use Rattle.scr_core.proofs.WiredJournals.{ended_kept}
use Rattle.scr_world.specs.declared.lines.TurnLine.{TurnLine}
use Rattle.scr_core.proofs.platform_core.Core.done.Goals as goal

pub invariant_of-self : goal.invariant_of-self
invariant_of-self c =
    let core = c.self.inside in
    let long : core.lines.len ≡ length c.end.new.lines = omega arith in
    let same : take core.lines.len (c.end.new.lines ++ drop (length c.end.new.lines) core.lines.items) ≡ c.end.new.lines = grind (arith, common_steps) in (
      subst (λ (lines : List TurnLine). KeepsAll core.limits.journal c.end.new.journal c.end.new.state lines) (sym same) c.end.ensures.keeps,
      c.self.invariant.1,
      c.end.ensures.far,
      ended_kept core.journal c.end.new.journal core.state c.end.new.state c.self.invariant.0.state c.end.ensures.keeps.state core.wirings c.self.invariant.3 core.limits.journal c.end.result c.number-number.result c.args.outcome
          c.end.ensures.ok
          c.end.ensures.err,
    )
