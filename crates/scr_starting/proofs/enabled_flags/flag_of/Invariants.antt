use Rattle.std.proofs.Common.{◌≡◌}
use Rattle.scr_world.specs.Replies.{flag_of}
use Rattle.scr_starting.proofs.enabled_flags.flag_of.Given as goal

abbrev pub invariant-loop-description : goal.invariant-loop-description
invariant-loop-description l = flag_of l.name l.description-iterator.a.rest.now l.description-iterator.b.rest.now ≡ flag_of l.name l.descriptions l.enabled
