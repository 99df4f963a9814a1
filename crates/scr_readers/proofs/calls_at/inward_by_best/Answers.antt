use Rattle.std.proofs.Common.{ap, sym, ◌∙◌}
use Rattle.scr_readers.specs.Reaching.{inward_at}
use Rattle.scr_readers.proofs.FirstReached.{none_held, some_held}
use Rattle.scr_readers.proofs.calls_at.inward_by_best.Goals as goal

pub returns-in-Some : goal.returns-in-Some
returns-in-Some c = λ held e. c.inward_to.ensures ∙ ap inward_at (some_held c.args.world.now c.args.bundle c.in-Some.service held (sym c.in-Some.is ∙ e))

pub returns-in-None : goal.returns-in-None
returns-in-None c = λ held e. ap inward_at (none_held c.args.world.now c.args.bundle held (sym c.in-None.is ∙ e))
