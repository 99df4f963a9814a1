-- The services of instances. OSGi Compendium 8, chapter 112, "Service Element".
use Rattle.std.specs.Prelude.{◌≡◌, true}
use Rattle.std.specs.List.{Contains}
use Rattle.component_state.specs.Periods.{is_current}
use Rattle.component_state.specs.Rows.{service_in}
use Rattle.scr_world.specs.declared.instance.Instance.{Instance}
use Rattle.scr_world.specs.declared.world.World.{World}

-- an instance of a period that is open has the number of that period's service, 0 where it has none
abbrev pub HaveOpenServices : World → Type 0
HaveOpenServices w = (i : Instance) → Contains w.instances i → is_current w.open_periods i.origin ≡ true → i.service ≡ service_in w.open_periods i.origin.configuration
