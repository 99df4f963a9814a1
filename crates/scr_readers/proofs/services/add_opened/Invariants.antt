use Rattle.std.proofs.Common.{◌≡◌, ◌++◌, filter, map, take}
use Rattle.component_state.specs.Rows.{rows_of}
use Rattle.ldap_filter.specs.Matching.{matches}
use Rattle.service_registry.specs.declared.row.ServiceRow.{ServiceRow}
use Rattle.service_registry.specs.Services.{ranked}
use Rattle.scr_readers.proofs.services.add_opened.Given as goal

abbrev pub invariant-loop-period : goal.invariant-loop-period
invariant-loop-period l = l.ranks.items ≡ l.initial.ranks.items ++ map ranked (filter (λ (r : ServiceRow). matches l.sought r.properties) (rows_of (take l.period-index l.periods)))
