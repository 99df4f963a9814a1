-- What the parts of a move do. Our own.
use Rattle.std.specs.Prelude.{◌≡◌, ℕ, ◌+◌, List, [], ◌∷◌, ◌++◌, Bool, true, false, Some}
use Rattle.kind_trait.specs.Stacks.{IsPopped, Stack, too_long}
use Rattle.kind_trait.specs.declared.nested_reply.NestedReply.{NestedReply}
use Rattle.call_moves.specs.Evaluations.{reply_by, with_reply_at}
use Rattle.call_runner.specs.declared.advance.Step.{Step}
use Rattle.call_runner.specs.declared.advance.Step.TheVariants.{Goes, Ends}
use Rattle.call_runner.specs.declared.asking.Asked.TheVariants.{Start, Resume}
use Rattle.call_runner.specs.declared.callees.Party.{Party}
use Rattle.call_runner.specs.declared.calls.Calls.{Calls}
use Rattle.call_runner.specs.declared.calls.Paused.{Paused}
use Rattle.call_runner.specs.declared.calls.Running.{Running}
use Rattle.call_runner.specs.declared.run.End.{End}
use Rattle.call_runner.specs.Runs.{ended_of}

-- a call that waited goes on with a reply
abbrev pub resumed_by : {O W : Type 0} → Paused W → NestedReply → Running O W
resumed_by paused reply = record { service = paused.service; instance = paused.instance; place = paused.place; asked = Resume paused.work reply }

-- the instance that a nested call reaches takes it up, at this place among the nested calls
abbrev pub taken_up_by : {O W : Type 0} → ℕ → Party O → List ℕ → ℕ → Running O W
taken_up_by service party request place = record { service = service; instance = party.instance; place = place; asked = Start party.site party.object request }

-- a call waits, or that would be one too many
abbrev pub HasWaited : {W : Type 0} → Stack (Paused W) → Paused W → Bool → Stack (Paused W) → Type 0
HasWaited before paused true after = (too_long before ≡ false) × (after.calls ≡ before.calls ++ record { service = paused.service; work = paused } ∷ []) × (after.nested ≡ before.nested + 1)
HasWaited before paused false after = (too_long before ≡ true) × (after.calls ≡ before.calls) × (after.nested ≡ before.nested)

-- the call that began to wait last goes on with a reply
abbrev pub HasResumed : {O W : Type 0} → Stack (Paused W) → NestedReply → Running O W → Stack (Paused W) → Type 0
HasResumed {O} {W} before reply running after = (paused : Paused W) × IsPopped before (Some paused) after × (running ≡ resumed_by paused reply)

-- The call that runs, at this place among the nested ones, has ended: the one that waits for it goes on with the reply, which is noted, or none waits and the
-- whole is over.
abbrev pub HasEnded : {O W : Type 0} → Calls W → ℕ → End → Calls W → Step O W → Type 0
HasEnded before place end after (Goes running) =
    HasResumed before.waiting (reply_by (ended_of end)) running after.waiting × (after.nested.items ≡ with_reply_at place (reply_by (ended_of end)) before.nested.items)
HasEnded before place end after (Ends last) = (last ≡ end) × (before.waiting.calls ≡ []) × (after.waiting ≡ before.waiting) × (after.nested.items ≡ before.nested.items)
