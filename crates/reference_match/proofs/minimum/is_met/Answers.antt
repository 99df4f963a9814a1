use Rattle.reference_match.proofs.Found.{met}
use Rattle.reference_match.proofs.minimum.is_met.Goals as goal

pub returns : goal.returns
returns c = met c.args.need.now c.args.rows.now c.missing.result c.missing.ensures
