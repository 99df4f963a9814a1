-- Direct causes and the satisfied component configurations. OSGi Compendium 8, chapter 112, "Satisfied".
use Rattle.std.specs.Prelude.{◌≡◌, ◌<◌, ℕ, Bool, List, true, None, is_some}
use Rattle.std.specs.List.{Contains, list_all}
use Rattle.component_causes.specs.declared.cause.Cause.TheVariants.{Pid, Reference}
use Rattle.component_causes.specs.declared.cause.ReferenceCause.{ReferenceCause}
use Rattle.component_state.specs.declared.component.Component.{Component}
use Rattle.component_state.specs.Components.{existing, is_required}
use Rattle.prop_map.specs.Words.{has, is_empty}
use Rattle.scr_world.specs.declared.world.World.{World}
use Rattle.scr_world.specs.Worlds.{satisfied_in}
use Rattle.scr_causes.specs.DirectCauses.{counting_under, direct_causes}

-- what the law rests on besides: one whose policy asks for a configuration is configured exactly where each of its PIDs has a configuration that counts
abbrev pub AreConfigured : World → Type 0
AreConfigured w =
    (c : Component) → Contains (existing w.components) c → is_required c.description.configuration_policy ≡ true
    → c.configured ≡ list_all (λ pid. is_some (counting_under w.configurations c pid)) c.description.configuration_pids

-- a component configuration that hasn't ceased has no direct cause exactly where it is satisfied
abbrev pub TellWhy : World → Type 0
TellWhy w = (c : Component) → Contains (existing w.components) c → is_empty (direct_causes w c) ≡ has (satisfied_in w) c.number

-- each reference that is told has fewer targets than its minimum
abbrev pub AreBelow : World → Component → Type 0
AreBelow w c = (r : ReferenceCause) → Contains (direct_causes w c) (Reference r) → r.targets < r.minimum

-- each PID that is told is one of those, whose policy asks for a configuration, and none counts for it
abbrev pub LackConfigurations : World → Component → Type 0
LackConfigurations w c =
    (pid : List ℕ) (factory : Bool) → Contains (direct_causes w c) (Pid pid factory)
    → (is_required c.description.configuration_policy ≡ true) × Contains c.description.configuration_pids pid × (counting_under w.configurations c pid ≡ None)
