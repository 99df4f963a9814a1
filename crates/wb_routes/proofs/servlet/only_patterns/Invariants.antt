use Rattle.std.proofs.Common.{◌≡◌, take, filter}
use Rattle.wb_routes.specs.Servlets.{is_pattern}
use Rattle.wb_routes.proofs.servlet.only_patterns.Given as goal

abbrev pub invariant-loop-text : goal.invariant-loop-text
invariant-loop-text l = l.patterns.items ≡ filter is_pattern (take l.text-index l.texts)
