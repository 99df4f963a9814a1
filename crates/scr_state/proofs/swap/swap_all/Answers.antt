use Rattle.std.proofs.Common.{rules}
use Rattle.scr_state.specs.Drafts.{with_draft}
use Rattle.scr_state.proofs.swap.swap_all.Goals as goal

pub returns-clause-world : goal.returns-clause-world
unfolding with_draft
returns-clause-world c = search rules
