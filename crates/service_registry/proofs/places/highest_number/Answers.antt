use Rattle.service_registry.proofs.Undone.{last_highest}
use Rattle.service_registry.proofs.places.highest_number.Goals as goal

pub returns-in-Some-clause-all : goal.returns-in-Some-clause-all
returns-in-Some-clause-all c = last_highest c.args.rows.now c.in-Some.row.now c.requires c.in-Some.ensures.value
