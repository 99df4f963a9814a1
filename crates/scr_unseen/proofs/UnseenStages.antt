-- A command that no component tells apart makes a still stage, and nothing stops.
use Rattle.std.proofs.Common.{◌≡◌, ℕ, ◌+◌, List, [], ◌++◌, refl, subst, true}
use Rattle.std.specs.List.{Contains}
use Rattle.component_state.specs.declared.component.Component.{Component}
use Rattle.component_state.specs.ComponentConfigurations.{components_after}
use Rattle.component_state.proofs.Apart.{kept_was}
use Rattle.prop_map.specs.declared.properties.Property.{Property}
use Rattle.scr_laws.specs.Askeds.{asked_in}
use Rattle.scr_laws.specs.Entries.{IsCalm}
use Rattle.scr_laws.specs.Stills.{IsStill, SeeSame}
use Rattle.scr_laws.proofs.Commands.{get_still, listen_still, unget_still, unlisten_still}
use Rattle.scr_laws.proofs.Histories.{asking_leaves}
use Rattle.scr_laws.proofs.StillEntries.{nothing_stops}
use Rattle.scr_unseen.specs.Unseen.{is_unseen}
use Rattle.scr_unseen.proofs.SeenSame.{unseen_is_still}
use Rattle.scr_unseen.proofs.UnseenRows.{see_same}
use Rattle.scr_world.specs.Consequences.{stage_in, stage_of, stopped_by, stopped_in}
use Rattle.scr_world.specs.Stepping.{counted_components, is_counted, world_after_step}
use Rattle.scr_world.specs.Tables.{registry_by}
use Rattle.scr_world.specs.Whiteboard.{platform_rows}
use Rattle.scr_world.specs.Worlds.{direct_services}
use Rattle.scr_world.specs.declared.command.Command.TheVariants.{Get, Listen, Register, SetProperties, Unget, Unlisten, Unregister}
use Rattle.scr_world.specs.declared.step.Step.{Step}
use Rattle.scr_world.specs.declared.step.Step.TheVariants.{Command as Commanded}
use Rattle.scr_world.specs.declared.world.World.{World}

module _ (w : World) (calm : IsCalm w) where
  -- a component configuration behind such a command was there before it
  asked_were : (c : Component) → Contains (components_after w.entries w.components_numbered (asked_in w) (counted_components w)) c → Contains w.components c
  asked_were c h = (kept_was (is_counted w.instances) w.components c (subst (λ (cs : List Component). Contains cs c) (asking_leaves w calm.asked w.entries w.components_numbered) h)).0

  asked_see : (step : Step) → is_unseen step w ≡ true
      → SeeSame (direct_services w) (platform_rows ++ (registry_by step w.registry).rows) (components_after w.entries w.components_numbered (asked_in w) (counted_components w))
  asked_see step is c h = see_same step w is c (asked_were c h)

  register_still : (bundle : ℕ) (interfaces : List (List ℕ)) (properties : List Property) → is_unseen (Commanded (Register bundle interfaces properties)) w ≡ true
      → IsStill (stage_of (Commanded (Register bundle interfaces properties)) w)
  unfolding stage_of stage_in world_after_step
  register_still bundle interfaces properties is =
      let step = Commanded (Register bundle interfaces properties) in
      unseen_is_still (stage_of (Commanded (Get 0 0)) w) (platform_rows ++ (registry_by step w.registry).rows) ((registry_by step w.registry).numbered + 1)
      (get_still w calm.rest calm.asked calm.renewed_all 0 0) (asked_see step is)

  unregister_still : (bundle service : ℕ) → is_unseen (Commanded (Unregister bundle service)) w ≡ true → IsStill (stage_of (Commanded (Unregister bundle service)) w)
  unfolding stage_of stage_in world_after_step
  unregister_still bundle service is =
      let step = Commanded (Unregister bundle service) in
      unseen_is_still (stage_of (Commanded (Get 0 0)) w) (platform_rows ++ (registry_by step w.registry).rows) (w.registry.numbered + 1)
      (get_still w calm.rest calm.asked calm.renewed_all 0 0) (asked_see step is)

  set_still : (bundle service : ℕ) (properties : List Property) → is_unseen (Commanded (SetProperties bundle service properties)) w ≡ true
      → IsStill (stage_of (Commanded (SetProperties bundle service properties)) w)
  unfolding stage_of stage_in world_after_step
  set_still bundle service properties is =
      let step = Commanded (SetProperties bundle service properties) in
      unseen_is_still (stage_of (Commanded (Get 0 0)) w) (platform_rows ++ (registry_by step w.registry).rows) (w.registry.numbered + 1)
      (get_still w calm.rest calm.asked calm.renewed_all 0 0) (asked_see step is)

  pub unseen_still : (step : Step) → is_unseen step w ≡ true → IsStill (stage_of step w)
  unseen_still (Commanded (Register bundle interfaces properties)) is = register_still bundle interfaces properties is
  unseen_still (Commanded (Unregister bundle service)) is = unregister_still bundle service is
  unseen_still (Commanded (SetProperties bundle service properties)) is = set_still bundle service properties is
  unseen_still (Commanded (Get bundle service)) is = get_still w calm.rest calm.asked calm.renewed_all bundle service
  unseen_still (Commanded (Unget bundle service)) is = unget_still w calm.rest calm.asked calm.renewed_all bundle service
  unseen_still (Commanded (Listen bundle filter)) is = listen_still w calm.rest calm.asked calm.renewed_all bundle filter
  unseen_still (Commanded (Unlisten listener)) is = unlisten_still w calm.rest calm.asked calm.renewed_all listener
  unseen_still step is = absurd cc

  get_stops : stopped_by (Commanded (Get 0 0)) w ≡ []
  get_stops = nothing_stops w calm (Commanded (Get 0 0)) refl

  pub none_stop : (step : Step) → is_unseen step w ≡ true → stopped_by step w ≡ []
  unfolding stopped_by stopped_in world_after_step
  none_stop (Commanded (Register bundle interfaces properties)) is = get_stops
  none_stop (Commanded (Unregister bundle service)) is = get_stops
  none_stop (Commanded (SetProperties bundle service properties)) is = get_stops
  none_stop (Commanded (Get bundle service)) is = nothing_stops w calm (Commanded (Get bundle service)) refl
  none_stop (Commanded (Unget bundle service)) is = nothing_stops w calm (Commanded (Unget bundle service)) refl
  none_stop (Commanded (Listen bundle filter)) is = nothing_stops w calm (Commanded (Listen bundle filter)) refl
  none_stop (Commanded (Unlisten listener)) is = nothing_stops w calm (Commanded (Unlisten listener)) refl
  none_stop step is = absurd cc
