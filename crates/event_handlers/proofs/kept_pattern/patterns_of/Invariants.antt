use Rattle.std.proofs.Common.{◌≡◌, ◌++◌, drop}
use Rattle.event_handlers.specs.Kept.{patterns_of}
use Rattle.event_handlers.proofs.kept_pattern.patterns_of.Given as goal

abbrev pub invariant-loop-text : goal.invariant-loop-text
invariant-loop-text l = l.patterns.items ++ patterns_of (drop l.text-index l.texts) ≡ patterns_of l.texts
