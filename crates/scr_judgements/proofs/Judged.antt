-- What is right to say of any command, by its refusal, its effect and the room.
use Rattle.std.proofs.Common.{◌≡◌, ℕ, List, [], ap, refl, subst, sym, Bool, true, false, Option, Some, None, Result, Ok, Err}
use Rattle.std.specs.Option.{option_map_or, option_or}
use Rattle.std.specs.Prelude.{◌&&◌, not, IfErr, IfSome}
use Rattle.scr_judgements.specs.Judgements.{Judges, JudgesStep}
use Rattle.scr_judgements.specs.declared.judgement.Judgement.{Judgement}
use Rattle.scr_judgements.specs.declared.judgement.Judgement.TheVariants.{Unchanged, Changes}
use Rattle.scr_state.specs.Keeps.{IsDraft}
use Rattle.scr_state.specs.declared.draft.Draft.{Draft}
use Rattle.scr_state.specs.declared.state.State.{State}
use Rattle.scr_world.specs.Refusals.{refusal, refuse_if}
use Rattle.scr_world.specs.Replies.{TellsPath, answer, has_effect, lacks_room, reply, takes_memory_to_judge, takes_memory_to_refuse}
use Rattle.scr_world.specs.Room.{has_room}
use Rattle.scr_world.specs.declared.command.Command.{Command}
use Rattle.scr_world.specs.declared.reply.CoreFault.{CoreFault}
use Rattle.scr_world.specs.declared.reply.CoreFault.TheVariants.{NoBundle, NoComponent, WrongState, Stopping, SameName, Cycle, BundlesFull, ComponentsFull, ServicesFull, ConfigurationsFull, ListenersFull, NoService, NotOwner, NotUsing, NoListener, NoConfiguration, BadPid, FactoryClash, ActivationFailed, ActivationNoMemory, JournalFull, OutOfMemory}
use Rattle.scr_world.specs.declared.reply.Reply.{Reply}
use Rattle.scr_world.specs.declared.step.Step.{Step}
use Rattle.scr_world.specs.declared.step.Step.TheVariants.{Command as Commanded}

-- a cycle is told with its path
abbrev pub is_cycle : CoreFault → Bool
is_cycle (Cycle path) = true
is_cycle _ = false

pub judged_step : (limit : ℕ) (s : State) (step : Step) (command : Command) (judged : Result Judgement CoreFault) → step ≡ Commanded command → Judges limit s command judged → JudgesStep limit s step judged
unfolding JudgesStep
judged_step limit s step command judged is judges = subst (λ (x : Step). JudgesStep limit s x judged) (sym is) judges

pub drafted_as : (s : State) (step : Step) (command : Command) (draft : Draft) → step ≡ Commanded command → IsDraft s step draft → IsDraft s (Commanded command) draft
drafted_as s step command draft is drafted = subst (λ (x : Step). IsDraft s x draft) is drafted

-- where there is room none lacks it
none_lacks : (effect room : Bool) → room ≡ true → (effect && not room) ≡ true → ⊥
none_lacks true true is lacks = cc
none_lacks true false is lacks = cc
none_lacks false room is lacks = cc

module _ (limit : ℕ) (s : State) (command : Command) where
  -- ---- want of memory

  lacks_by : (due : Option CoreFault) (full : Bool) (told : Reply) → IfSome due (λ fault. takes_memory_to_refuse command fault ≡ true) → (full ≡ true → takes_memory_to_judge command ≡ true)
      → IfErr (option_map_or (λ fault. Err fault) (option_or due (refuse_if full JournalFull)) (Ok told)) (λ fault. takes_memory_to_refuse command fault ≡ true)
  lacks_by (Some fault) full told takes late = takes
  lacks_by None true told takes late = late refl
  lacks_by None false told takes late = tt

  -- what refuses it takes memory, and so does what stands before want of room
  pub no_memory : IfSome (refusal s.world command) (λ fault. takes_memory_to_refuse command fault ≡ true) → (lacks_room limit s.world command ≡ true → takes_memory_to_judge command ≡ true)
      → (fault : CoreFault) → fault ≡ OutOfMemory → Judges limit s command (Err fault)
  unfolding Judges
  no_memory takes late fault is =
      subst (λ (f : CoreFault). Judges limit s command (Err f)) (sym is) (lacks_by (refusal s.world command) (lacks_room limit s.world command) (answer s.world command) takes late)

  -- what refuses it takes memory
  pub no_memory_refused : (due : CoreFault) → refusal s.world command ≡ Some due → takes_memory_to_refuse command due ≡ true → (fault : CoreFault) → fault ≡ OutOfMemory → Judges limit s command (Err fault)
  unfolding Judges
  no_memory_refused due refuses takes fault is = subst (λ (f : CoreFault). Judges limit s command (Err f)) (sym is) (rw refuses takes)

  -- nothing refuses it, and there is room
  pub no_memory_freely : refusal s.world command ≡ None → has_room limit s.world 1 ≡ true → (fault : CoreFault) → fault ≡ OutOfMemory → Judges limit s command (Err fault)
  no_memory_freely free room = no_memory (rw free tt) (λ lacks. absurd (none_lacks (has_effect s.world command) (has_room limit s.world 1) room lacks))

  -- it takes memory to judge, and so does what refuses it
  pub no_memory_judged : takes_memory_to_judge command ≡ true → IfSome (refusal s.world command) (λ fault. takes_memory_to_refuse command fault ≡ true)
      → (fault : CoreFault) → fault ≡ OutOfMemory → Judges limit s command (Err fault)
  no_memory_judged judges takes = no_memory takes (λ lacks. judges)

  -- ---- refused

  replied_with : (fault : CoreFault) → refusal s.world command ≡ Some fault → reply limit s.world command ≡ Err fault
  replied_with fault is = rw is refl

  by_reply : (fault : CoreFault) → is_cycle fault ≡ false → reply limit s.world command ≡ Err fault → Judges limit s command (Err fault)
  unfolding Judges
  by_reply (NoBundle bundle) plain is = is
  by_reply (NoComponent name) plain is = is
  by_reply (WrongState state) plain is = is
  by_reply (Stopping instance) plain is = is
  by_reply (SameName bundle) plain is = is
  by_reply (Cycle path) plain is = absurd cc
  by_reply BundlesFull plain is = is
  by_reply ComponentsFull plain is = is
  by_reply ServicesFull plain is = is
  by_reply ConfigurationsFull plain is = is
  by_reply ListenersFull plain is = is
  by_reply (NoService service) plain is = is
  by_reply (NotOwner owner) plain is = is
  by_reply NotUsing plain is = is
  by_reply (NoListener listener) plain is = is
  by_reply NoConfiguration plain is = is
  by_reply BadPid plain is = is
  by_reply FactoryClash plain is = is
  by_reply (ActivationFailed instance) plain is = is
  by_reply (ActivationNoMemory instance) plain is = is
  by_reply JournalFull plain is = is
  by_reply OutOfMemory plain is = rw is refl

  pub refused : (fault : CoreFault) → is_cycle fault ≡ false → refusal s.world command ≡ Some fault → Judges limit s command (Err fault)
  refused fault plain is = by_reply fault plain (replied_with fault is)

  pub cyclic : (path : List (List ℕ)) → refusal s.world command ≡ Some (Cycle []) → TellsPath s.world command path → Judges limit s command (Err (Cycle path))
  unfolding Judges
  cyclic path is tells = (replied_with (Cycle []) is, tells)

  -- ---- not refused

  module _ (free : refusal s.world command ≡ None) where
    pub no_room : has_effect s.world command ≡ true → has_room limit s.world 1 ≡ false → Judges limit s command (Err JournalFull)
    no_room effect room = by_reply JournalFull refl (rw (free, effect, room) refl)

    pub unchanged : (told : Reply) → has_effect s.world command ≡ false → told ≡ answer s.world command → Judges limit s command (Ok (Unchanged told))
    unfolding Judges
    unchanged told idle is = (rw (free, idle) refl, rw (free, idle) (ap (λ (r : Reply). Ok r) (sym is)))

    pub changed : (told : Reply) (draft : Draft) → has_effect s.world command ≡ true → has_room limit s.world 1 ≡ true → told ≡ answer s.world command → IsDraft s (Commanded command) draft
        → Judges limit s command (Ok (Changes told draft))
    unfolding Judges
    changed told draft effect room is drafted = (rw (free, effect, room) refl, (rw (free, effect, room) (ap (λ (r : Reply). Ok r) (sym is)), drafted))
