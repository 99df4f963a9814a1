use Rattle.std.proofs.Common.{ap, subst, Err}
use Rattle.bundle_headers.specs.Clauses.{ReadsClauses}
use Rattle.bundle_wiring.specs.Faults.{fault_at}
use Rattle.bundle_wiring.specs.declared.fault.WireFault.TheVariants.{BadClause}
use Rattle.bundle_wiring.proofs.Machines.{clauses_bad, clauses_ok}
use Rattle.bundle_wiring.proofs.texts.clauses_of.Goals as goal

pub returns-in-Ok : goal.returns-in-Ok
returns-in-Ok c = ap (fault_at BadClause) (clauses_ok c.args.text.now c.in-Ok.clauses c.in-Ok.ensures)

pub returns-in-Err-BadClause : goal.returns-in-Err-BadClause
returns-in-Err-BadClause c = λ _.
    ap (fault_at BadClause) (clauses_bad c.args.text.now c.in-Err-BadClause.at (subst (λ fault. ReadsClauses c.args.text.now (Err fault)) c.in-Err-BadClause.field-0-is c.in-Err-BadClause.ensures))
