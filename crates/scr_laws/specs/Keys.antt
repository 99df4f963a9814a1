-- The keys of living instances. OSGi Core 8, chapter 5, "Service Scope": a bundle uses one object of a service.
use Rattle.std.specs.Prelude.{◌≡◌}
use Rattle.std.specs.List.{Contains}
use Rattle.scr_world.specs.declared.instance.Instance.{Instance}
use Rattle.scr_world.specs.declared.world.World.{World}

-- no two living instances are of one component configuration and made for one bundle, or for all
abbrev pub HaveOwnKeys : World → Type 0
HaveOwnKeys w = (i j : Instance) → Contains w.instances i → Contains w.instances j → i.origin.configuration ≡ j.origin.configuration → i.consumer ≡ j.consumer → i ≡ j
