-- How far a call has come that is run, and what it comes to. Our own.
use Rattle.std.specs.Arc.{arc_value}
use Rattle.std.specs.Prelude.{◌≡◌, ℕ, ◌+◌, ◌-◌, ◌*◌, ◌≤◌, ◌<◌, List, [], ◌∷◌, length, map, reverse}
use Rattle.kind_trait.specs.Meanings.{Asking}
use Rattle.kind_trait.specs.Stacks.{Stack}
use Rattle.kind_trait.specs.declared.call_stack.Waiting.{Waiting}
use Rattle.turn_work.specs.declared.site.Site.{Site}
use Rattle.call_moves.specs.declared.nested_call.NestedCall.{NestedCall}
use Rattle.call_moves.specs.Evaluations.{ComesTo, Declined, Ended, Frame, Meaning, Reaching, Said, TooLong, asked_of, with_reply}
use Rattle.call_moves.specs.Progress.{HasCome}
use Rattle.call_runner.specs.declared.advance.Step.{Step}
use Rattle.call_runner.specs.declared.advance.Step.TheVariants.{Goes, Ends}
use Rattle.call_runner.specs.declared.asking.Asked.{Asked}
use Rattle.call_runner.specs.declared.asking.Asked.TheVariants.{Start, Resume}
use Rattle.call_runner.specs.declared.calls.Calls.{Calls}
use Rattle.call_runner.specs.declared.calls.Paused.{Paused}
use Rattle.call_runner.specs.declared.calls.Running.{Running}
use Rattle.call_runner.specs.declared.run.End.{End}
use Rattle.call_runner.specs.declared.run.End.TheVariants.{Said as EndSaid, Declined as EndDeclined, TooLong as EndTooLong}

-- how a call ended
abbrev pub ended_of : End → Ended
ended_of (EndSaid text) = Said text
ended_of EndDeclined = Declined
ended_of EndTooLong = TooLong

-- each nested call was decided at this front
abbrev pub AreAt : ℕ → List NestedCall → Type 0
AreAt front [] = Unit {0}
AreAt front (n ∷ ns) = (n.front ≡ front) × AreAt front ns

-- ---- the calls as frames

module _ {W : Type 0} (stands_for : W → Asking) where
  abbrev pub frame_of_paused : Paused W → Frame
  frame_of_paused paused = record { instance = paused.instance; asking = stands_for paused.work; place = paused.place }

  -- what an instance is asked, with the replies so far
  abbrev pub asking_of : {O : Type 0} → Asked O W → Asking
  asking_of (Start site object request) = asked_of site request
  asking_of (Resume work reply) = with_reply (stands_for work) reply

  abbrev pub frame_of : {O : Type 0} → Running O W → Frame
  frame_of running = record { instance = running.instance; asking = asking_of running.asked; place = running.place }

  -- those that wait, the last first
  abbrev pub frames_of : List (Waiting (Paused W)) → List Frame
  frames_of waiting = map (λ (w : Waiting (Paused W)). frame_of_paused w.work) (reverse waiting)

-- an object that is asked is its instance's own
abbrev pub IsOwnAsked : {O W : Type 0} → (O → Type 0) → Asked O W → Type 0
IsOwnAsked owns (Start site object request) = owns (arc_value object)
IsOwnAsked owns (Resume work reply) = Unit {0}

abbrev pub IsOwnRunning : {O W : Type 0} → (ℕ → O → Type 0) → Running O W → Type 0
IsOwnRunning owns running = IsOwnAsked (owns running.instance) running.asked

abbrev pub IsOwnStep : {O W : Type 0} → (ℕ → O → Type 0) → Step O W → Type 0
IsOwnStep owns (Goes running) = IsOwnRunning owns running
IsOwnStep owns (Ends end) = Unit {0}

-- ---- how far a call has come

-- a request to an instance
pub record Outer : Type 0 where
  pub instance : ℕ
  pub site : Site
  pub request : List ℕ

module _ (reaches : Reaching) (next : Meaning) (front : ℕ) where
  -- a request has come to these calls and this frame, with each nested call decided at the front
  pub record IsAt {W : Type 0} (stands_for : W → Asking) (outer : Outer) (calls : Calls W) (f : Frame) : Type 0 where
    pub come : HasCome reaches next outer.instance outer.site outer.request (frames_of stands_for calls.waiting.calls) f calls.nested.items
    pub counted : calls.waiting.nested ≡ length calls.nested.items
    pub at_front : AreAt front calls.nested.items

  -- it came to this end, with these nested calls, each decided at the front
  abbrev pub ComesToEnd : Outer → List NestedCall → End → Type 0
  ComesToEnd outer nested end = ComesTo reaches next outer.instance outer.site outer.request nested (ended_of end) × AreAt front nested

  -- it goes on, or it has come to an end
  abbrev pub HasStepped : {O W : Type 0} → (W → Asking) → Outer → Calls W → Step O W → Type 0
  HasStepped stands_for outer calls (Goes running) = IsAt stands_for outer calls (frame_of stands_for running)
  HasStepped stands_for outer calls (Ends end) = ComesToEnd outer calls.nested.items end

-- ---- how many moves are left

-- at most so many: each nested call that may still begin is two, and each call that waits is one
abbrev pub moves_left : {W : Type 0} → Stack W → ℕ
moves_left stack = 2 * (64 - stack.nested) + length stack.calls

-- a call that goes on has fewer moves left
abbrev pub HasFewer : {O W : Type 0} → Stack (Paused W) → Stack (Paused W) → Step O W → Type 0
HasFewer before after (Goes running) = (moves_left after < moves_left before) × (after.nested ≤ 64)
HasFewer before after (Ends end) = Unit {0}
