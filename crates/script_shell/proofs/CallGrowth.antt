-- How a call by a get makes the journal grow, and what the line of a call comes to.
use Rattle.std.proofs.Common.{◌≡◌, ℕ, List, [], true, false, refl, ap, subst, Ok, Err, inl, inr}
use Rattle.std.specs.Prelude.{Bool, Result}
use Rattle.call_moves.specs.Evaluations.{Meaning}
use Rattle.journal_core.specs.declared.entry.Entry.{Entry}
use Rattle.kind_trait.specs.Meanings.{Told}
use Rattle.prop_map.specs.declared.properties.Property.{Property}
use Rattle.scr_calls.specs.declared.call.Called.{Called}
use Rattle.scr_calls.specs.declared.call_fault.CallFault.{CallFault}
use Rattle.scr_calls.specs.declared.call_fault.CallFault.TheVariants.{Gone, NoObject, Pending, Refused, CallTooLong, Core, Settle, OutOfMemory}
use Rattle.scr_world.specs.Calls.{EndsUse, Gets}
use Rattle.scr_world.specs.declared.marks.Token.{Token}
use Rattle.scr_world.specs.declared.reply.CoreFault.{CoreFault}
use Rattle.scr_world.specs.declared.reply.CoreFault.TheVariants.{NoBundle, NoComponent, WrongState, Stopping, SameName, Cycle, BundlesFull, ComponentsFull, ServicesFull, ConfigurationsFull, ListenersFull, NoService, NotOwner, NotUsing, NoListener, NoConfiguration, BadPid, FactoryClash, ActivationFailed, ActivationNoMemory, JournalFull as InCore, OutOfMemory as CoreNoMemory}
use Rattle.scr_world.specs.declared.step.Step.{Step}
use Rattle.scr_world.specs.declared.step.Step.TheVariants.{Got, Released}
use Rattle.platform_hall.specs.Calls.{CallsByGet, CallsOnOne, GetsUse, Releases, ReleasesUse, SettlesBehind}
use Rattle.platform_hall.specs.Cores.{CoreView}
use Rattle.shell_lang.specs.declared.shell_reply.ShellReply.{ShellReply}
use Rattle.turn_runner.specs.declared.settle_fault.SettleFault.{SettleFault}
use Rattle.turn_runner.specs.declared.settle_fault.SettleFault.TheVariants.{Unsettled, JournalFull, OutOfMemory as SettleNoMemory}
use Rattle.script_shell.specs.Calling.{CarriesCall, CutsCall, EndsWith, TellsCall, TellsUnanswered}
use Rattle.script_shell.specs.Carries.{TellsRefusal}
use Rattle.script_shell.specs.Runs.{Grew}
use Rattle.script_shell.proofs.Growth.{grew_not, grew_posts, grew_settled, grew_step, grew_trans, stays_whole}

-- a get that is refused leaves the journal
ungot : (limit : ℕ) (old new : List (Entry Step)) (bundle service : ℕ) (fault : CoreFault) → Gets limit old bundle service (Err fault) new → new ≡ old
ungot limit old new bundle service (NoBundle b) gets = gets.1
ungot limit old new bundle service (NoComponent name) gets = gets.1
ungot limit old new bundle service (WrongState state) gets = gets.1
ungot limit old new bundle service (Stopping i) gets = gets.1
ungot limit old new bundle service (SameName b) gets = gets.1
ungot limit old new bundle service (Cycle path) gets = gets.1
ungot limit old new bundle service BundlesFull gets = gets.1
ungot limit old new bundle service ComponentsFull gets = gets.1
ungot limit old new bundle service ServicesFull gets = gets.1
ungot limit old new bundle service ConfigurationsFull gets = gets.1
ungot limit old new bundle service ListenersFull gets = gets.1
ungot limit old new bundle service (NoService s) gets = gets.1
ungot limit old new bundle service (NotOwner b) gets = gets.1
ungot limit old new bundle service NotUsing gets = gets.1
ungot limit old new bundle service (NoListener l) gets = gets.1
ungot limit old new bundle service NoConfiguration gets = gets.1
ungot limit old new bundle service BadPid gets = gets.1
ungot limit old new bundle service FactoryClash gets = gets.1
ungot limit old new bundle service (ActivationFailed i) gets = gets.1
ungot limit old new bundle service (ActivationNoMemory i) gets = gets.1
ungot limit old new bundle service InCore gets = gets.2
ungot limit old new bundle service CoreNoMemory gets = gets.2

-- so it leaves the platform
pub ungot_whole : (before after : CoreView) (bundle service : ℕ) (fault : CoreFault) → GetsUse before bundle service (Err fault) after → after ≡ before
ungot_whole before after bundle service fault (same, gets) = stays_whole before after same (ungot before.limits.journal before.journal after.journal bundle service fault gets)

-- a get is an entry
pub grew_got : (before after : CoreView) (bundle service : ℕ) (note : Token) → GetsUse before bundle service (Ok note) after → Grew before after []
grew_got before after bundle service note (same, (is, grown)) = grew_step before after (Got bundle service) [] same grown refl

grew_released : (before after : CoreView) (note : Token) (stood : Bool) → after.limits ≡ before.limits → EndsUse before.limits.journal before.journal note stood after.journal → Grew before after []
grew_released before after note true same (stands, grown) = grew_step before after (Released note.place) [] same grown refl
grew_released before after note false same (stands, still) = grew_not before after (stays_whole before after same still)

-- a release, and the drains behind it
grew_releases : (before after : CoreView) (note : Token) → Releases before note after → Grew before after []
grew_releases before after note (ended, (stood, same, ends), posts) = grew_trans before ended after [] [] (grew_released before ended note stood same ends) (grew_posts ended after posts)

module _ (refuses : List ℕ → List Property → Told → Bool) (next : Meaning) (before after : CoreView) (bundle service : ℕ) where
  -- a get, and the settling behind it
  grew_ready : (note : Token) (said : Result ℕ SettleFault) (settled : CoreView) → SettlesBehind refuses before bundle service note said settled → Grew before settled []
  grew_ready note said settled ready =
      grew_trans before ready.got settled [] [] (grew_got before ready.got bundle service note ready.gets) (grew_settled refuses ready.got.limits.turns ready.got settled said ready.settles.0)

  module _ (request : List ℕ) where
    grew_by_get : (said : Result Called CallFault) → CallsByGet refuses next before bundle service request said after → Grew before after []
    grew_by_get said calls =
        grew_trans before calls.settled after [] [] (grew_ready calls.note (Ok calls.turns) calls.settled calls.ready) (grew_releases calls.settled after calls.note calls.releases)

    -- a call, however it ends
    pub grew_calls : (said : Result (List ℕ) CallFault) → CallsOnOne refuses next before bundle service request said after → Grew before after []
    grew_calls (Ok text) (called, is, calls) = grew_by_get (Ok called) calls
    grew_calls (Err (Gone front)) calls = grew_by_get (Err (Gone front)) calls
    grew_calls (Err (NoObject front)) calls = grew_by_get (Err (NoObject front)) calls
    grew_calls (Err (Pending front)) calls = grew_by_get (Err (Pending front)) calls
    grew_calls (Err (Refused front nested)) calls = grew_by_get (Err (Refused front nested)) calls
    grew_calls (Err (CallTooLong front nested)) calls = grew_by_get (Err (CallTooLong front nested)) calls
    grew_calls (Err (Core fault)) (gets, other) = grew_not before after (ungot_whole before after bundle service fault gets)
    grew_calls (Err (Settle fault)) ((note, ready), other) = grew_ready note (Err fault) after ready
    grew_calls (Err OutOfMemory) (inl gets) = grew_not before after (ungot_whole before after bundle service CoreNoMemory gets)
    grew_calls (Err OutOfMemory) (inr (inl (note, ready))) = grew_ready note (Err SettleNoMemory) after ready
    grew_calls (Err OutOfMemory) (inr (inr (note, turns, settled, ready, inl same))) =
        grew_trans before settled after [] [] (grew_ready note (Ok turns) settled ready) (grew_not settled after same)
    grew_calls (Err OutOfMemory) (inr (inr (note, turns, settled, ready, inr releases))) =
        grew_trans before settled after [] [] (grew_ready note (Ok turns) settled ready) (grew_releases settled after note releases)

    -- a call that is cut off
    pub grew_cut_call : (fault : SettleFault) → CutsCall refuses next bundle service request fault before after → Grew before after []
    grew_cut_call Unsettled cut = grew_calls (Err (Settle Unsettled)) cut
    grew_cut_call JournalFull (inl cut) = grew_calls (Err (Core InCore)) cut
    grew_cut_call JournalFull (inr cut) = grew_calls (Err (Settle JournalFull)) cut
    grew_cut_call SettleNoMemory cut = grew_calls (Err OutOfMemory) cut

    abbrev Unanswered : CallFault → Type 0
    Unanswered fault = CallsOnOne refuses next before bundle service request (Err fault) after

    -- what the line of a call comes to that isn't answered
    pub carries_unanswered : (fault : CallFault) (said : Result ShellReply SettleFault) → Unanswered fault → TellsUnanswered fault said → CarriesCall refuses next bundle service request before said after
    carries_unanswered fault (Ok reply) calls tells = (Err fault, calls, tells)
    carries_unanswered fault (Err Unsettled) calls is = subst Unanswered is calls
    carries_unanswered fault (Err JournalFull) calls (inl is) = inl (subst Unanswered is calls)
    carries_unanswered fault (Err JournalFull) calls (inr is) = inr (subst Unanswered is calls)
    carries_unanswered fault (Err SettleNoMemory) calls (inl is) = subst Unanswered is calls
    carries_unanswered fault (Err SettleNoMemory) calls (inr (inl is)) = let never : Unanswered (Core CoreNoMemory) = subst Unanswered is calls in absurd (never.1 refl)
    carries_unanswered fault (Err SettleNoMemory) calls (inr (inr is)) = let never : Unanswered (Settle SettleNoMemory) = subst Unanswered is calls in absurd (never.1 refl)

-- a refusal of the core tells what that of the call is
pub tells_core : (fault : CoreFault) (said : Result ShellReply SettleFault) → TellsRefusal fault said → TellsUnanswered (Core fault) said
tells_core fault (Ok reply) tells = tells
tells_core fault (Err Unsettled) is = absurd is
tells_core fault (Err JournalFull) is = inl (ap (λ (f : CoreFault). Core f) is)
tells_core fault (Err SettleNoMemory) is = inr (inl (ap (λ (f : CoreFault). Core f) is))

-- a settling that is cut off ends the run so
pub ends_settling : (fault : SettleFault) → EndsWith fault (Settle fault)
ends_settling Unsettled = refl
ends_settling JournalFull = inr refl
ends_settling SettleNoMemory = inr (inr refl)
