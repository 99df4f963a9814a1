-- Whom calls reach on a desk, and what they are answered there. Our own.
use Rattle.std.specs.Prelude.{◌≡◌, ℕ, List, true, Result, Ok, Err}
use Rattle.call_moves.specs.declared.nested_call.NestedCall.{NestedCall}
use Rattle.call_runner.specs.declared.run.End.{End}
use Rattle.call_runner.specs.declared.run.End.TheVariants.{Said, Declined, TooLong}
use Rattle.scr_calls.specs.declared.call.Called.{Called}
use Rattle.scr_calls.specs.declared.call_fault.CallFault.{CallFault}
use Rattle.scr_calls.specs.declared.call_fault.CallFault.TheVariants.{Refused, CallTooLong}
use Rattle.scr_requests.specs.Cores.{CoreView}
use Rattle.scr_readers.specs.declared.live.Inward.{Inward}
use Rattle.scr_readers.specs.declared.live.Inward.TheVariants.{NoService, NoObject, Gone, Live}
use Rattle.scr_readers.specs.declared.live.Outer.{Outer}
use Rattle.scr_readers.specs.declared.live.Outer.TheVariants.{Gone as ToGone, NoObject as ToNone, Pending as ToPending, Live as ToLive}
use Rattle.platform_hall.specs.Platforms.{has_object}

-- an object is there for the instance that a nested call reaches
abbrev pub HasItsObject : CoreView → Inward → Type 0
HasItsObject p (Live service live) = has_object p live.instance ≡ true
HasItsObject p NoService = Unit {0}
HasItsObject p (NoObject service) = Unit {0}
HasItsObject p (Gone service) = Unit {0}

-- and for that which a get reaches
abbrev pub HasOuterObject : CoreView → Outer → Type 0
HasOuterObject p (ToLive live) = has_object p live.instance ≡ true
HasOuterObject p ToGone = Unit {0}
HasOuterObject p ToNone = Unit {0}
HasOuterObject p ToPending = Unit {0}

-- what a call by a get that came to this end is answered
abbrev pub answer_at : ℕ → List NestedCall → End → Result Called CallFault
answer_at front nested (Said text) = Ok (record { front = front; text = text; nested = nested })
answer_at front nested Declined = Err (Refused front nested)
answer_at front nested TooLong = Err (CallTooLong front nested)
