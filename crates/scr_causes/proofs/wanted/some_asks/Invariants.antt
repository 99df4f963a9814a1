use Rattle.std.proofs.Common.{◌≡◌, drop}
use Rattle.std.specs.List.{list_any}
use Rattle.scr_causes.specs.WantedHere.{asks}
use Rattle.scr_causes.proofs.wanted.some_asks.Given as goal

-- the rest decides
abbrev pub invariant-loop-instance : goal.invariant-loop-instance
invariant-loop-instance l = list_any (asks l.world l.component l.service) l.instances ≡ list_any (asks l.world l.component l.service) (drop l.instance-index l.instances)
