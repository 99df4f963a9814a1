use Rattle.std.proofs.Common.{◌∙◌, sym}
use Rattle.scr_turns.proofs.Places.{last_of_one}
use Rattle.scr_turns.proofs.TurnDrafted.{one_failure}
use Rattle.scr_world.specs.Stepping.{failures_by}
use Rattle.scr_turns.proofs.failing.failure_of.Goals as goal

pub returns-in-Some : goal.returns-in-Some
returns-in-Some c =
    last_of_one c.pop.new.self.items c.in-Some.failure (failures_by c.args.step.now c.args.world.now)
    (sym c.in_ok-failures_of.ensures ∙ sym c.items-failures.ensures ∙ c.in-Some.ensures.items)
    (one_failure c.args.step.now c.args.world.now c.requires.known)
