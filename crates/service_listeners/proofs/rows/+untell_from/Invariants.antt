use Rattle.std.proofs.Common.{◌-◌, length}
use Rattle.service_listeners.proofs.rows.+untell_from.Given as goal

abbrev pub decreases-untell_from : goal.decreases-untell_from
decreases-untell_from l = length l.rows.now - l.at
