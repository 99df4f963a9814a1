use Rattle.std.proofs.Common.{◌≡◌, drop}
use Rattle.wb_filters.specs.Pages.{best_named}
use Rattle.wb_filters.proofs.pages.best_named.Given as goal

abbrev pub invariant-loop-page : goal.invariant-loop-page
invariant-loop-page l = best_named l.text l.context l.pages ≡ best_named l.text l.context (drop l.page-index l.pages)
