use Rattle.std.proofs.Common.{map}
use Rattle.std.specs.Borrow.{Bor}
use Rattle.service_registry.specs.declared.row.ServiceRow.{ServiceRow}
use Rattle.scr_causes.proofs.EntryLemmas.{are_of_moved}
use Rattle.scr_causes.proofs.service_table.entries_in_order.Goals as goal

pub returns-clause-of : goal.returns-clause-of
returns-clause-of c = are_of_moved (map (λ (r : Bor ServiceRow). r.now) c.args.rows.now) c.in_ok-entries.entries.items c.sort.new.entries.items c.sort.ensures.same c.in_ok-entries.ensures
