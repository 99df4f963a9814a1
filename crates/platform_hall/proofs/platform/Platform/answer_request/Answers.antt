use Rattle.std.proofs.Common.{Option, subst, sym}
use Rattle.std.specs.Prelude.{MatchOption}
use Rattle.scr_requests.specs.declared.servlets.Servlets.{Servlets}
use Rattle.platform_hall.specs.Requests.{WereServletsOf}
use Rattle.platform_hall.proofs.platform.Platform.answer_request.Goals as goal

pub invariant_of-self : goal.invariant_of-self
invariant_of-self g c = (
  subst (λ (o : Option Servlets). MatchOption o (Unit {0}) (WereServletsOf c.self.inside.desk.core.journal)) (sym c.take-kept.ensures.after) tt,
  c.self.invariant.1,
)

pub invariant_of-self-2 : goal.invariant_of-self-2
invariant_of-self-2 g c = (c.in_ok-servlets.ensures.kept, c.self.invariant.1)
