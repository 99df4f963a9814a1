use Rattle.std.proofs.Common.{subst}
use Rattle.std.specs.Prelude.{IfOk}
use Rattle.scr_requests.specs.Cores.{CoreView}
use Rattle.scr_requests.specs.Requests.{AreServletsOf}
use Rattle.platform_hall.proofs.Growing.{made_kept}
use Rattle.platform_hall.proofs.requests.made.Goals as goal

pub returns-clause-kept : goal.returns-clause-kept
returns-clause-kept g c = made_kept c.args.desk.now.core.journal c.of.result (subst (λ (p : CoreView). IfOk c.of.result (AreServletsOf p.journal)) c.core.ensures.core c.of.ensures)
