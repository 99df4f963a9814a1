use Rattle.std.proofs.Common.{◌∙◌, ap}
use Rattle.scr_state.proofs.Undoing.{undone}
use Rattle.scr_state.specs.Drafts.{with_draft}
use Rattle.scr_state.proofs.swap.swap_in.Goals as goal

pub returns-clause-back : goal.returns-clause-back
returns-clause-back c =
    ap (with_draft c.swap_all.new.draft) c.swap_all.ensures.world
    ∙ undone c.args.draft.now c.args.world.now c.swap_all.new.draft c.requires.room c.swap_all.ensures.draft
