use Rattle.std.proofs.Common.{map}
use Rattle.reference_match.proofs.Found.{both_met}
use Rattle.reference_match.proofs.minimum.is_met_standing.Goals as goal

pub returns : goal.returns
returns g c = both_met c.args.need.now c.args.direct.now (map g.R.HasRow.row_of c.args.opened.now) c.missing.result c.missing_registered.result c.missing.ensures c.missing_registered.ensures
