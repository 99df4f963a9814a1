use Rattle.std.proofs.Common.{sym, subst, Err}
use Rattle.bundle_headers.specs.Clauses.{ReadsClauses}
use Rattle.bundle_doc.proofs.Machines.{clauses_bad, clauses_ok}
use Rattle.bundle_doc.proofs.texts.clauses_of.Goals as goal

pub returns-in-Ok : goal.returns-in-Ok
returns-in-Ok c = sym (clauses_ok c.args.text.now c.in-Ok.clauses c.in-Ok.ensures)

pub returns-in-Err-BadClause : goal.returns-in-Err-BadClause
returns-in-Err-BadClause c =
    sym (clauses_bad c.args.text.now c.in-Err-BadClause.field-0-0 (subst (λ fault. ReadsClauses c.args.text.now (Err fault)) c.in-Err-BadClause.field-0-is c.in-Err-BadClause.ensures))
