use Rattle.std.proofs.Common.{◌≡◌, take, filter}
use Rattle.std.specs.Prelude.{not}
use Rattle.wb_routes.specs.Servlets.{is_pattern}
use Rattle.wb_routes.proofs.servlet.no_patterns.Given as goal

abbrev pub invariant-loop-text : goal.invariant-loop-text
invariant-loop-text l = l.faulty.items ≡ filter (λ t. not (is_pattern t)) (take l.text-index l.texts)
