use Rattle.std.proofs.Common.{◌≡◌}
use Rattle.scr_starting.specs.Enabled.{has_disabled}
use Rattle.scr_starting.proofs.enabled_flags.has_disabled.Given as goal

abbrev pub invariant-loop-description : goal.invariant-loop-description
invariant-loop-description l = has_disabled l.name l.description-iterator.a.rest.now l.description-iterator.b.rest.now ≡ has_disabled l.name l.descriptions l.enabled
