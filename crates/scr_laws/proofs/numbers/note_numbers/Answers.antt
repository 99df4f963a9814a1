use Rattle.scr_laws.proofs.Numbering.{bundles_numbered, instances_numbered, listeners_numbered, services_numbered, turns_numbered}
use Rattle.scr_laws.proofs.numbers.note_numbers.Goals as goal

pub returns : goal.returns
returns c = record { bundles = bundles_numbered; services = services_numbered; listeners = listeners_numbered; turns = turns_numbered; instances = instances_numbered }
