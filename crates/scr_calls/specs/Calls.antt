-- What a call by a get is answered in the worlds of a journal, each at a length of it. Our own.
use Rattle.std.specs.Prelude.{◌≡◌, ℕ, List, [], ◌∷◌, Result, Ok, Err}
use Rattle.call_moves.specs.declared.nested_call.NestedCall.{NestedCall}
use Rattle.call_moves.specs.Evaluations.{Declined, Ended, Meaning, Said, TooLong, fronts_of}
use Rattle.scr_world.specs.declared.marks.Token.{Token}
use Rattle.scr_world.specs.declared.world.World.{World}
use Rattle.scr_readers.specs.Reaching.{outer}
use Rattle.scr_readers.specs.declared.live.Live.{Live}
use Rattle.scr_readers.specs.declared.live.Outer.TheVariants.{Gone as ToGone, NoObject as ToDirect, Pending as ToPending, Live as ToLive}
use Rattle.scr_calls.specs.declared.call.Called.{Called}
use Rattle.scr_calls.specs.declared.call_fault.CallFault.{CallFault}
use Rattle.scr_calls.specs.declared.call_fault.CallFault.TheVariants.{Gone, NoObject, Pending, Refused, CallTooLong, Core, Settle, OutOfMemory}
use Rattle.scr_calls.specs.Evaluates.{Evaluates, Rising}

module _ (world : ℕ → World) (next : Meaning) where
  -- a call by a get reached an instance at its front and came to this end
  abbrev pub EndsCall : Token → List ℕ → ℕ → List NestedCall → Ended → Type 0
  EndsCall get request front nested end = (live : Live) × (outer (world front) get ≡ ToLive live) × Evaluates world next live request nested end

  -- what a call by a get is answered, its parts at fronts that never fall, from one to another; want of memory is free
  abbrev pub AnswersUse : Token → List ℕ → ℕ → ℕ → Result Called CallFault → Type 0
  AnswersUse get request from to (Ok called) = EndsCall get request called.front called.nested (Said called.text) × Rising from (called.front ∷ fronts_of called.nested) to
  AnswersUse get request from to (Err (Gone front)) = (outer (world front) get ≡ ToGone) × Rising from (front ∷ []) to
  AnswersUse get request from to (Err (NoObject front)) = (outer (world front) get ≡ ToDirect) × Rising from (front ∷ []) to
  AnswersUse get request from to (Err (Pending front)) = (outer (world front) get ≡ ToPending) × Rising from (front ∷ []) to
  AnswersUse get request from to (Err (Refused front nested)) = EndsCall get request front nested Declined × Rising from (front ∷ fronts_of nested) to
  AnswersUse get request from to (Err (CallTooLong front nested)) = EndsCall get request front nested TooLong × Rising from (front ∷ fronts_of nested) to
  AnswersUse get request from to (Err (Core fault)) = ⊥
  AnswersUse get request from to (Err (Settle fault)) = ⊥
  AnswersUse get request from to (Err OutOfMemory) = Unit {0}
