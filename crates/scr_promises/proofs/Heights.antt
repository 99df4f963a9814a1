-- Levels rise from a component configuration to those that reference an interface of it.
use Rattle.std.proofs.Common.{◌≡◌, ◌<◌, ℕ, suc, ◌+◌, arith, true}
use Rattle.std.specs.List.{Contains}
use Rattle.component_dto.specs.declared.description.Reference.{Reference}
use Rattle.component_state.specs.declared.component.Component.{Component}
use Rattle.component_state.specs.Components.{level_count, level_of}
use Rattle.component_state.proofs.Among.{contains_among}
use Rattle.component_state.proofs.Order.{among_below, consumed_lower, in_order_each, references_consume}
use Rattle.level_order.specs.Levels.{provides}
use Rattle.scr_laws.specs.Sound.{IsSound}
use Rattle.scr_world.specs.Levels.{levels_of}
use Rattle.scr_world.specs.Tables.{descriptions_of}
use Rattle.scr_world.specs.declared.world.World.{World}

-- the level of a component configuration
abbrev pub height : World → Component → ℕ
height w c = level_of (descriptions_of w.documents) (levels_of (descriptions_of w.documents)) c

abbrev pub top_of : World → ℕ
top_of w = level_count (levels_of (descriptions_of w.documents))

module _ (w : World) (sound : IsSound w) where
  pub provider_lower : (c d : Component) → Contains w.components c → Contains w.components d → (r : Reference) → Contains d.description.references r → provides c.description r.interface_name ≡ true → height w c < height w d
  provider_lower c d in_c in_d r in_r provided =
      let ds = descriptions_of w.documents in
      consumed_lower ds (levels_of ds) sound.acyclic d.description c.description (contains_among ds c.description (sound.described c in_c))
      (references_consume d.description c.description r (contains_among d.description.references r in_r) provided)

  pub height_bound : (c : Component) → Contains w.components c → height w c < top_of w + 1
  height_bound c h =
      let ds = descriptions_of w.documents in
      let low = (among_below ds (levels_of ds) w.components (suc (level_count (levels_of ds))) c (in_order_each ds (levels_of ds) w.components c (contains_among w.components c h))).1 in
      omega (arith, low)
