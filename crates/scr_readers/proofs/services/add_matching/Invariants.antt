use Rattle.std.proofs.Common.{◌≡◌, ◌++◌, filter, map, take}
use Rattle.ldap_filter.specs.Matching.{matches}
use Rattle.service_registry.specs.declared.row.ServiceRow.{ServiceRow}
use Rattle.service_registry.specs.Services.{ranked}
use Rattle.scr_readers.proofs.services.add_matching.Given as goal

abbrev pub invariant-loop-row : goal.invariant-loop-row
invariant-loop-row l = l.ranks.items ≡ l.initial.ranks.items ++ map ranked (filter (λ (r : ServiceRow). matches l.sought r.properties) (take l.row-index l.rows))
