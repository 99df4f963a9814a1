-- Services that have left, and those of them that an instance holds. OSGi Core 8, chapter 5, "Unregistering Services"; OSGi Compendium 8, chapter 112, "Unbinding".
use Rattle.std.specs.Prelude.{◌&&◌, List, Bool, filter, not}
use Rattle.service_registry.specs.declared.row.ServiceRow.{ServiceRow}
use Rattle.scr_world.specs.declared.world.World.{World}
use Rattle.scr_world.specs.Lists.{is_service_held}
use Rattle.scr_world.specs.Worlds.{is_registered, registered_services}

-- a service isn't registered
abbrev pub has_left : World → ServiceRow → Bool
has_left w r = not (is_registered w r.id)

-- the services that were registered in one world and aren't in another
abbrev pub left_between : World → World → List ServiceRow
left_between was now = filter (has_left now) (registered_services was)

-- a service isn't registered, and an instance holds it
abbrev pub is_left_held : World → ServiceRow → Bool
is_left_held w r = has_left w r && is_service_held w r.id
