-- The evaluation of a call in the worlds of a journal, each at a length of it. Our own.
use Rattle.std.specs.Prelude.{ℕ, ◌≤◌, List, [], ◌∷◌, take}
use Rattle.journal_core.specs.declared.entry.Entry.{Entry}
use Rattle.kind_trait.specs.declared.nested_reply.NestedReply.TheVariants.{NoService, NoObject, Gone}
use Rattle.call_moves.specs.declared.nested_call.NestedCall.{NestedCall}
use Rattle.call_moves.specs.Evaluations.{ComesTo, Ended, Instance, Meaning, Nobody, Reaching, Whom}
use Rattle.scr_world.specs.declared.step.Step.{Step}
use Rattle.scr_world.specs.declared.world.World.{World}
use Rattle.scr_world.specs.Calls.{world_at}
use Rattle.scr_readers.specs.Reaching.{inward}
use Rattle.scr_readers.specs.declared.live.Live.{Live}
use Rattle.scr_readers.specs.declared.live.Inward.{Inward}
use Rattle.scr_readers.specs.declared.live.Inward.TheVariants.{NoService as ToNone, NoObject as ToDirect, Gone as ToEnding, Live as ToLive}

-- the world of a journal's first entries, so many
abbrev pub world_up_to : List (Entry Step) → ℕ → World
world_up_to journal front = world_at (take front journal)

-- whom a nested call reaches, or the reply that it has at once: no service is held, the service has no object, or its instance is ending
abbrev pub whom : Inward → Whom
whom ToNone = Nobody 0 NoService
whom (ToDirect service) = Nobody service NoObject
whom (ToEnding service) = Nobody service Gone
whom (ToLive service live) = Instance service live.instance live.site

-- a nested call reaches whom it reaches in the world at its front
abbrev pub reaching : (ℕ → World) → Reaching
reaching world front instance reference = whom (inward (world front) instance reference)

-- a request to an instance comes to this end with these nested calls, each in the world at its front
abbrev pub Evaluates : (ℕ → World) → Meaning → Live → List ℕ → List NestedCall → Ended → Type 0
Evaluates world next live request nested end = ComesTo (reaching world) next live.instance live.site request nested end

-- fronts that never fall, from one to another
abbrev pub Rising : ℕ → List ℕ → ℕ → Type 0
Rising from [] to = from ≤ to
Rising from (front ∷ fronts) to = (from ≤ front) × Rising front fronts to
