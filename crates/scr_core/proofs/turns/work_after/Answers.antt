use Rattle.std.proofs.Common.{◌∙◌, ap, subst, sym}
use Rattle.scr_state.specs.Drafts.{HasRoom, with_draft}
use Rattle.scr_world.specs.declared.world.World.{World}
use Rattle.scr_core.proofs.turns.work_after.Goals as goal

pub returns-clause-draft : goal.returns-clause-draft
returns-clause-draft c =
    let same = c.swap_in-2.ensures.world ∙ c.swap_in.ensures.back in record {
      world = ap (with_draft c.swap_in-2.new.draft) (sym same) ∙ c.swap_in-2.ensures.back ∙ c.swap_in.ensures.world;
      room = subst (λ (w : World). HasRoom c.swap_in-2.new.draft w) same c.swap_in-2.ensures.room;
      descriptions = c.swap_in-2.ensures.descriptions ∙ c.swap_in.ensures.descriptions;
      levels = c.swap_in-2.ensures.levels ∙ c.swap_in.ensures.levels;
    }
