use Rattle.std.proofs.Common.{◌≡◌, drop}
use Rattle.wb_filters.specs.Pages.{first_over}
use Rattle.wb_filters.proofs.contexts.first_over.Given as goal

abbrev pub invariant-loop-context : goal.invariant-loop-context
invariant-loop-context l = first_over l.path l.contexts ≡ first_over l.path (drop l.context-index l.contexts)
