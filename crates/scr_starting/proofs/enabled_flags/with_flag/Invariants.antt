use Rattle.std.proofs.Common.{◌≡◌, ◌++◌}
use Rattle.scr_world.specs.Tables.{with_flag}
use Rattle.scr_starting.proofs.enabled_flags.with_flag.Given as goal

abbrev pub invariant-loop-description : goal.invariant-loop-description
invariant-loop-description l = l.flags.items ++ with_flag l.name l.flag l.description-iterator.a.rest.now l.description-iterator.b.rest.now ≡ with_flag l.name l.flag l.descriptions l.enabled
