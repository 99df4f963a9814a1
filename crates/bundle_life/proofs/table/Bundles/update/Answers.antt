use Rattle.std.proofs.lemmas.Result.{err_from_is_err_and}
use Rattle.bundle_life.proofs.Refused.{update_refused}
use Rattle.bundle_life.proofs.table.Bundles.update.Goals as goal

pub returns-in_err-check_idle-clause-refused : goal.returns-in_err-check_idle-clause-refused
returns-in_err-check_idle-clause-refused c =
    let p = err_from_is_err_and c.from_residual.result c.from_residual.ensures.1 in
    rw (p.1, p.2) (update_refused c.args.bundle c.args.name.now c.args.version.now c.args.self.now (Unit {0}) (Unit {0}) c.in_err-check_idle.field-0.0 c.in_err-check_idle.ensures.plain c.in_err-check_idle.ensures.refused)
