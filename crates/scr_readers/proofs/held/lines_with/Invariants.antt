use Rattle.std.proofs.Common.{◌≡◌, map, take}
use Rattle.scr_readers.proofs.held.lines_with.Given as goal

abbrev pub invariant-loop-service : goal.invariant-loop-service
invariant-loop-service l = l.lines.items ≡ map (λ s. record { instance = l.instance; reference = l.reference; service = s }) (take l.service-index l.services)
