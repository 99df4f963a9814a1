-- Drafts that say the same. Our own.
use Rattle.std.specs.Prelude.{◌≡◌}
use Rattle.scr_state.specs.Drafts.{HasRoom, with_draft}
use Rattle.scr_state.specs.declared.draft.Draft.{Draft}
use Rattle.scr_world.specs.declared.world.World.{World}

-- one draft makes of a world what another one does, and has its room there
pub record IsAlike (d : Draft) (w : World) (e : Draft) : Type 0 where
  pub world : with_draft e w ≡ with_draft d w
  pub room : HasRoom e w
  pub descriptions : e.descriptions ≡ d.descriptions
  pub levels : e.levels ≡ d.levels
