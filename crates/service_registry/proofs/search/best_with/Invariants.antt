use Rattle.std.proofs.Common.{◌≡◌, ◌≤◌, filter, length, drop}
use Rattle.service_registry.specs.Services.{best_of, has_interface}
use Rattle.std.specs.Option.{option_copied}
use Rattle.service_registry.proofs.search.best_with.Given as goal

abbrev pub invariant-loop-left : goal.invariant-loop-left
invariant-loop-left l = record { within : l.left ≤ length l.rows; best : option_copied l.best ≡ best_of (filter (has_interface l.interface) (drop l.left l.rows)) }

abbrev pub decreases-loop-left : goal.decreases-loop-left
decreases-loop-left l = l.left
