use Rattle.std.proofs.Common.{subst, sym}
use Rattle.scr_report.specs.KeyOrder.{HasKeysInOrder}
use Rattle.scr_report.proofs.KeyOrder.{report_in_order}
use Rattle.scr_report.proofs.reports.report_of.Goals as goal

pub returns-clause-order : goal.returns-clause-order
returns-clause-order c = subst HasKeysInOrder (sym c.in_ok-value.ensures) (report_in_order c.args.id c.args.component.now)
