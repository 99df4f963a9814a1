-- Whom a call reaches in a world, and what instances hold. OSGi Core 8, chapter 5, "Service Layer", and OSGi Compendium 8, chapters 112 and 140, have
-- services and their instances; calls are our own.
use Rattle.std.specs.Prelude.{ℕ, ◌<◌, ◌^◌, ◌==◌, ◌&&◌, List, [], ◌∷◌, Bool, true, false, not, Option, Some, None, find, flat_map, option_map, if◌then◌else◌}
use Rattle.std.specs.List.{Contains}
use Rattle.std.specs.Option.{option_map_or}
use Rattle.callback_orders.specs.Lives.{held_for}
use Rattle.service_registry.specs.declared.row.ServiceRow.{ServiceRow}
use Rattle.scr_world.specs.declared.instance.Instance.{Instance}
use Rattle.scr_world.specs.declared.marks.Token.{Token}
use Rattle.scr_world.specs.declared.world.World.{World}
use Rattle.scr_world.specs.Calls.{has_token}
use Rattle.scr_world.specs.Consequences.{gate_of}
use Rattle.scr_world.specs.Instances.{is_active_instance}
use Rattle.scr_world.specs.TurnSteps.{class_in}
use Rattle.scr_world.specs.Views.{bundle_of_instance, ends, serves}
use Rattle.scr_world.specs.Worlds.{all_instances, row_known, sorted}
use Rattle.scr_readers.specs.declared.live.Live.{Live}
use Rattle.scr_readers.specs.declared.live.LiveAt.{LiveAt}
use Rattle.scr_readers.specs.declared.live.Inward.{Inward}
use Rattle.scr_readers.specs.declared.live.Inward.TheVariants.{NoService, NoObject, Gone, Live as Reaches}
use Rattle.scr_readers.specs.declared.live.InwardAt.{InwardAt}
use Rattle.scr_readers.specs.declared.live.InwardAt.TheVariants.{NoService as NoServiceAt, NoObject as NoObjectAt, Gone as GoneAt, Live as ReachesAt}
use Rattle.scr_readers.specs.declared.live.Outer.{Outer}
use Rattle.scr_readers.specs.declared.live.Outer.TheVariants.{Gone as UseGone, NoObject as UseNoObject, Pending, Live as UseLive}
use Rattle.scr_readers.specs.declared.live.OuterAt.{OuterAt}
use Rattle.scr_readers.specs.declared.live.OuterAt.TheVariants.{Gone as UseGoneAt, NoObject as UseNoObjectAt, Pending as PendingAt, Live as UseLiveAt}

-- ---- instances

-- a service without an object, as it is or as it left
abbrev pub is_direct : World → ℕ → Bool
is_direct w service = option_map_or (λ (r : ServiceRow). r.direct) (row_known w service) false

-- the instance that a bundle uses of a service
abbrev pub server_of : World → ℕ → ℕ → Option Instance
server_of w bundle service = find (serves w bundle service) w.instances

abbrev pub live_of : World → Instance → Live
live_of w i = record { key = gate_of i; instance = i.number; site = record { class = class_in w i.origin.configuration; properties = i.properties } }

-- the active instance that a bundle uses of a service
abbrev pub active_for : World → ℕ → ℕ → Option Live
active_for w bundle service = option_map (live_of w) (find (λ (i : Instance). serves w bundle service i && is_active_instance i) w.instances)

-- the instance of a number
abbrev pub instance_at : World → ℕ → Option Instance
instance_at w number = find (λ (i : Instance). i.number == number) (all_instances w)

-- an instance is ending; so is one that isn't there any more, and that of the whiteboard never is
abbrev pub is_ending_at : World → ℕ → Bool
is_ending_at w number = if number == 0 then false else option_map_or (ends w) (instance_at w number) true

-- ---- what an instance holds ("Bound Services")

-- what it holds for a reference, best first
abbrev pub held_best_first : World → List ℕ → Instance → List ℕ
held_best_first w reference i = sorted w (held_for reference i.callbacks)

abbrev pub some_row : Option ServiceRow → List ServiceRow
some_row None = []
some_row (Some r) = r ∷ []

abbrev pub held_rows : World → List ℕ → Instance → List ServiceRow
held_rows w reference i = flat_map (λ s. some_row (row_known w s)) (held_best_first w reference i)

-- what the instance of a number holds, nothing where there is none
abbrev pub held_services : World → ℕ → List ℕ → List ServiceRow
held_services w number reference = option_map_or (held_rows w reference) (instance_at w number) []

-- ---- outer calls

abbrev pub outer_by : Option Live → Outer
outer_by None = Pending
outer_by (Some live) = UseLive live

-- whom a call by a get reaches: nobody where the get stands no more, where the service has no object, or where its instance isn't active
abbrev pub outer : World → Token → Outer
outer w note = if not (has_token w note) then UseGone else (if is_direct w note.service then UseNoObject else outer_by (active_for w note.bundle note.service))

-- ---- nested calls

abbrev pub inward_by : World → ℕ → Option Instance → Inward
inward_by w service None = Gone service
inward_by w service (Some j) = if ends w j then Gone service else Reaches service (live_of w j)

abbrev pub inward_to : World → ℕ → List ℕ → Inward
inward_to w bundle [] = NoService
inward_to w bundle (s ∷ ss) = if is_direct w s then NoObject s else inward_by w s (server_of w bundle s)

-- whom a nested call of an instance reaches: the instance of the best service that it holds for the reference
abbrev pub inward : World → ℕ → List ℕ → Inward
inward w number reference = option_map_or (λ (i : Instance). inward_to w (bundle_of_instance w i) (held_best_first w reference i)) (instance_at w number) NoService

-- ---- the same without what component code is told

abbrev pub live_at : Live → LiveAt
live_at live = record { key = live.key; instance = live.instance }

abbrev pub outer_at : Outer → OuterAt
outer_at UseGone = UseGoneAt
outer_at UseNoObject = UseNoObjectAt
outer_at Pending = PendingAt
outer_at (UseLive live) = UseLiveAt (live_at live)

abbrev pub inward_at : Inward → InwardAt
inward_at NoService = NoServiceAt
inward_at (NoObject service) = NoObjectAt service
inward_at (Gone service) = GoneAt service
inward_at (Reaches service live) = ReachesAt service (live_at live)
