-- The looks at choices by needs that stand beside a component configuration, as the code goes. Our own.
use Rattle.std.specs.Prelude.{ℕ, ◌==◌, ◌&&◌, List, Bool, not}
use Rattle.std.specs.List.{list_any}
use Rattle.prop_map.specs.Words.{with_places}
use Rattle.reference_match.specs.declared.need.Need.{Need}
use Rattle.reference_match.specs.Targets.{is_static, meets, targets}
use Rattle.service_registry.specs.declared.row.ServiceRow.{ServiceRow}
use Rattle.component_state.specs.declared.open_period.OpenPeriod.{OpenPeriod}
use Rattle.component_state.specs.declared.origin.Choice.{Choice}
use Rattle.component_state.specs.Inside.Misled.{is_outdated}
use Rattle.component_state.specs.Reasons.{choice_at}

-- a choice for a static need, with the services that it can take now, is outdated
abbrev pub is_wrong : List ServiceRow → List Choice → ℕ × Need → Bool
is_wrong rows choices n = is_static n.1.policy && is_outdated n.1 (choice_at choices n.0) (targets n.1 rows)

abbrev pub chose_outdated_by : List ServiceRow → List Need → List Choice → Bool
chose_outdated_by rows needs choices = list_any (is_wrong rows choices) (with_places 0 needs)

-- an open period's service is registered and meets a need
abbrev pub serves : Need → OpenPeriod → Bool
serves n p = not (p.row.id == 0) && meets n p.row
