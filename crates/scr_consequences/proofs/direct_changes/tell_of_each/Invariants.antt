use Rattle.std.proofs.Common.{◌≡◌, take}
use Rattle.std.specs.List.{flat_map}
use Rattle.service_listeners.specs.Listening.{after_changes}
use Rattle.service_registry.specs.Services.{ids}
use Rattle.scr_consequences.specs.Changes.{change_of_new}
use Rattle.scr_consequences.proofs.direct_changes.tell_of_each.Given as goal

abbrev pub invariant-loop-row : goal.invariant-loop-row
invariant-loop-row l = l.listeners ≡ after_changes (flat_map (change_of_new (ids l.was_rows)) (take l.row-index l.rows)) l.initial.listeners
