use Rattle.std.proofs.Common.{sym, ◌∙◌}
use Rattle.reference_match.proofs.Found.{enough, serving, serving_joined}
use Rattle.reference_match.proofs.minimum.missing_registered.Goals as goal

pub returns-then-left-eq0 : goal.returns-then-left-eq0
returns-then-left-eq0 g c =
    enough (serving g.R.HasRow.row_of c.args.need.now) (serving_joined g.R.HasRow.row_of c.args.need.now) c.loop-one.one-index c.args.wanted c.args.opened.now (sym c.if-left-eq0.true ∙ c.loop-one.invariant)
