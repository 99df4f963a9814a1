use Rattle.std.proofs.Common.{◌≡◌}
use Rattle.std.specs.List.{flat_map}
use Rattle.scr_consequences.specs.Changes.{change_of_new}
use Rattle.service_registry.specs.Services.{ids}
use Rattle.scr_consequences.proofs.direct_changes.behind_all.Given as goal

abbrev pub invariant-loop-row : goal.invariant-loop-row
invariant-loop-row l = flat_map (change_of_new (ids l.was_rows)) l.rest ≡ flat_map (change_of_new (ids l.was_rows)) l.now_rows
