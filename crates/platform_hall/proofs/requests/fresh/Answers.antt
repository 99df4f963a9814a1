use Rattle.std.proofs.Common.{length, sym, ◌∙◌}
use Rattle.std.proofs.lemmas.Bool.{eqb-true}
use Rattle.platform_hall.proofs.Growing.{kept_stand}
use Rattle.platform_hall.proofs.requests.fresh.Goals as goal

pub returns-then-are_current-clause-now : goal.returns-then-are_current-clause-now
returns-then-are_current-clause-now g c =
    let journal = c.args.desk.now.core.journal in
    kept_stand journal c.args.servlets (eqb-true c.args.servlets.made_at (length journal) (sym c.are_current.ensures ∙ c.if-are_current.true)) c.requires
