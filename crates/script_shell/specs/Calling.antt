-- What the line `call` asks: a service is called for a bundle, and the text or the refusal is told. Our own form.
use Rattle.std.specs.Prelude.{◌≡◌, ◌⊎◌, ℕ, List, Result, Ok, Err, true, Bool}
use Rattle.call_moves.specs.Evaluations.{Meaning}
use Rattle.kind_trait.specs.Meanings.{Told}
use Rattle.prop_map.specs.declared.properties.Property.{Property}
use Rattle.scr_calls.specs.declared.call_fault.CallFault.{CallFault}
use Rattle.scr_calls.specs.declared.call_fault.CallFault.TheVariants.{Gone, NoObject, Pending, Refused as Declined, CallTooLong, Core, Settle, OutOfMemory as CallNoMemory}
use Rattle.scr_world.specs.declared.reply.CoreFault.TheVariants.{JournalFull as InCore, OutOfMemory as CoreNoMemory}
use Rattle.platform_hall.specs.Cores.{CoreView}
use Rattle.platform_hall.specs.Calls.{CallsOnOne}
use Rattle.shell_lang.specs.declared.call_refusal.CallRefusal.TheVariants.{Gone as IsGone, NoObject as HasNoObject, Pending as IsPending, Refused as IsDeclined, CallTooLong as IsTooLong}
use Rattle.shell_lang.specs.declared.shell_reply.Refusal.TheVariants.{Core as OfCore, Call as OfCall}
use Rattle.shell_lang.specs.declared.shell_reply.ShellReply.{ShellReply}
use Rattle.shell_lang.specs.declared.shell_reply.ShellReply.TheVariants.{Text, Refused}
use Rattle.turn_runner.specs.declared.settle_fault.SettleFault.{SettleFault}
use Rattle.turn_runner.specs.declared.settle_fault.SettleFault.TheVariants.{Unsettled, JournalFull, OutOfMemory}
use Rattle.script_shell.specs.Refusals.{is_told}

-- the text that a call is answered is told, or why it isn't answered, without its front and its nested calls; a full journal, a settling that is cut off and
-- want of memory end the run
abbrev pub TellsCall : Result (List ℕ) CallFault → ShellReply → Type 0
TellsCall (Ok text) reply = reply ≡ Text text
TellsCall (Err (Gone front)) reply = reply ≡ Refused (OfCall IsGone)
TellsCall (Err (NoObject front)) reply = reply ≡ Refused (OfCall HasNoObject)
TellsCall (Err (Pending front)) reply = reply ≡ Refused (OfCall IsPending)
TellsCall (Err (Declined front nested)) reply = reply ≡ Refused (OfCall IsDeclined)
TellsCall (Err (CallTooLong front nested)) reply = reply ≡ Refused (OfCall IsTooLong)
TellsCall (Err (Core fault)) reply = (is_told fault ≡ true) × (reply ≡ Refused (OfCore fault))
TellsCall (Err (Settle fault)) reply = ⊥
TellsCall (Err CallNoMemory) reply = ⊥

-- the fault of a call with which a run ends
abbrev pub EndsWith : SettleFault → CallFault → Type 0
EndsWith Unsettled fault = fault ≡ Settle Unsettled
EndsWith JournalFull fault = (fault ≡ Core InCore) ⊎ (fault ≡ Settle JournalFull)
EndsWith OutOfMemory fault = (fault ≡ CallNoMemory) ⊎ ((fault ≡ Core CoreNoMemory) ⊎ (fault ≡ Settle OutOfMemory))

-- why a call isn't answered is told, or ends the run
abbrev pub TellsUnanswered : CallFault → Result ShellReply SettleFault → Type 0
TellsUnanswered fault (Ok reply) = TellsCall (Err fault) reply
TellsUnanswered fault (Err end) = EndsWith end fault

module _ (refuses : List ℕ → List Property → Told → Bool) (next : Meaning) (bundle service : ℕ) (request : List ℕ) where
  -- a service is called for a bundle: it is got, the platform settles, the call is answered, the get is released, and drains are posted. The answer is told
  abbrev pub AsksCall : CoreView → ShellReply → CoreView → Type 0
  AsksCall before reply after = (answer : Result (List ℕ) CallFault) × CallsOnOne refuses next before bundle service request answer after × TellsCall answer reply

  -- a call is cut off: its get finds no room, or its settling is cut off; want of memory may come at each of its steps
  abbrev pub CutsCall : SettleFault → CoreView → CoreView → Type 0
  CutsCall Unsettled before after = CallsOnOne refuses next before bundle service request (Err (Settle Unsettled)) after
  CutsCall JournalFull before after =
      CallsOnOne refuses next before bundle service request (Err (Core InCore)) after ⊎ CallsOnOne refuses next before bundle service request (Err (Settle JournalFull)) after
  CutsCall OutOfMemory before after = CallsOnOne refuses next before bundle service request (Err CallNoMemory) after

  -- what a call is answered and does
  abbrev pub CarriesCall : CoreView → Result ShellReply SettleFault → CoreView → Type 0
  CarriesCall before (Ok reply) after = AsksCall before reply after
  CarriesCall before (Err fault) after = CutsCall fault before after
