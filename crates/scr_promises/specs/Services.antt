-- The numbers of services. OSGi Core 8, chapter 5, "Service Properties" (`service.id`), "Registering Services".
use Rattle.std.specs.Prelude.{◌≡◌, ◌≤◌, List, ◌++◌}
use Rattle.std.specs.List.{Contains}
use Rattle.scr_laws.specs.Askeds.{HasOneOfEach}
use Rattle.scr_world.specs.Worlds.{registered_services}
use Rattle.scr_world.specs.declared.world.World.{World}
use Rattle.service_registry.specs.declared.row.ServiceRow.{ServiceRow}

-- the services that are registered, and those that were unregistered while they are held, as they were
abbrev pub known_services : World → List ServiceRow
known_services w = registered_services w ++ w.unregistered_held

-- no two services have one number, and each number was given
pub record HaveOwnNumbers (w : World) : Type 0 where
  pub one : HasOneOfEach (λ (r : ServiceRow). r.id) (known_services w)
  pub given : (r : ServiceRow) → Contains (known_services w) r → r.id ≤ w.registry.numbered

-- a service at two times: its bundle and its interfaces are the same, its revision doesn't fall, and where it stays so do its properties
pub record IsSameService (old new : ServiceRow) : Type 0 where
  pub number : new.id ≡ old.id
  pub bundle : new.bundle ≡ old.bundle
  pub interfaces : new.interfaces ≡ old.interfaces
  pub direct : new.direct ≡ old.direct
  pub later : old.revision ≤ new.revision
  pub properties : new.revision ≡ old.revision → new ≡ old

-- services of two worlds that have one number are one service
abbrev pub StayServices : World → World → Type 0
StayServices before now = (old new : ServiceRow) → Contains (known_services before) old → Contains (known_services now) new → new.id ≡ old.id → IsSameService old new
