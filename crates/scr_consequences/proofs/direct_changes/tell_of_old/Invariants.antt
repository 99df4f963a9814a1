use Rattle.std.proofs.Common.{◌≡◌, take}
use Rattle.std.specs.List.{All, flat_map}
use Rattle.service_listeners.specs.Listening.{after_changes}
use Rattle.scr_consequences.specs.Changes.{IsOwn, change_from}
use Rattle.scr_consequences.proofs.direct_changes.tell_of_old.Given as goal

abbrev pub invariant-loop-row : goal.invariant-loop-row
invariant-loop-row l = record {
  told : l.listeners ≡ after_changes (flat_map (change_from l.now.rows) (take l.row-index l.was_rows)) l.initial.listeners;
  own : All (IsOwn l.now.rows) l.rest;
}
