use Rattle.std.proofs.Common.{◌-◌, length}
use Rattle.service_listeners.proofs.cutting.+cut_from.Given as goal

abbrev pub decreases-cut_from : goal.decreases-cut_from
decreases-cut_from l = length l.rows.now - l.at
