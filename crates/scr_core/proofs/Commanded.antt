-- A command that was judged.
use Rattle.std.proofs.Common.{◌≡◌, ℕ, ◌∙◌, List, [], ap, refl, sym, subst, Bool, Option, None, Some, Result, Ok, Err, true, false}
use Rattle.std.specs.Prelude.{◌&&◌, ◌==◌, IsOk, is_ok, map, not, is_none}
use Rattle.std.specs.List.{Contains, list_any}
use Rattle.std.proofs.lemmas.Bool.{and_from, and_parts, eq-eqb}
use Rattle.component_state.proofs.Apart.{any_from}
use Rattle.journal_core.specs.Rooms.{JournalRows}
use Rattle.journal_core.specs.declared.entry.Entry.{Entry}
use Rattle.journal_core.specs.declared.entry.GateKey.{GateKey}
use Rattle.scr_judgements.specs.Judgements.{Judges, JudgesStep}
use Rattle.scr_judgements.specs.declared.judgement.Judgement.{Judgement}
use Rattle.scr_judgements.specs.declared.judgement.Judgement.TheVariants.{Changes, Unchanged}
use Rattle.scr_laws.proofs.Listed.{none_kept}
use Rattle.scr_state.specs.Keeps.{IsDraft, Keeps}
use Rattle.scr_state.specs.declared.draft.Draft.{Draft}
use Rattle.scr_state.specs.declared.state.State.{State}
use Rattle.scr_world.specs.Calls.{Commands, Grown, GrownIf, world_at}
use Rattle.scr_world.specs.Consequences.{begins_draining, gate_of, is_draining, shut_between}
use Rattle.scr_world.specs.Legal.{MayCome}
use Rattle.scr_world.specs.Refusals.{refusal}
use Rattle.scr_world.specs.Replies.{MayLackMemory, Replies, changes, has_effect, reply}
use Rattle.scr_world.specs.Room.{has_room, needed_by}
use Rattle.scr_world.specs.declared.command.Command.{Command}
use Rattle.scr_world.specs.declared.instance.Instance.{Instance}
use Rattle.scr_world.specs.declared.reply.CoreFault.{CoreFault}
use Rattle.scr_world.specs.declared.reply.CoreFault.TheVariants.{NoBundle, NoComponent, WrongState, Stopping, SameName, Cycle, BundlesFull, ComponentsFull, ServicesFull, ConfigurationsFull, ListenersFull, NoService, NotOwner, NotUsing, NoListener, NoConfiguration, BadPid, FactoryClash, ActivationFailed, ActivationNoMemory, JournalFull, OutOfMemory}
use Rattle.scr_world.specs.declared.reply.Reply.{Reply}
use Rattle.scr_world.specs.declared.step.Step.{Step}
use Rattle.scr_world.specs.declared.step.Step.TheVariants.{Command as Commanded}
use Rattle.scr_world.specs.declared.world.World.{World}

-- ---- nothing is shut where nothing happens

none_begins : (w : World) (i : Instance) → Contains w.instances i → begins_draining w w i ≡ false
none_begins w i h = go (is_draining w i) refl
  where
    go : (b : Bool) → is_draining w i ≡ b → begins_draining w w i ≡ false
    go false off = ap (λ b. b && not (list_any (λ (j : Instance). (j.number == i.number) && is_draining w j) w.instances)) off
    go true on =
        let before = any_from (λ (j : Instance). (j.number == i.number) && is_draining w j) w.instances i h (and_from (i.number == i.number) (is_draining w i) (eq-eqb i.number i.number refl) on) in
        ap (λ b. b && not (list_any (λ (j : Instance). (j.number == i.number) && is_draining w j) w.instances)) on ∙ ap not before

pub none_shut : (w : World) → shut_between w w ≡ []
unfolding shut_between
none_shut w = ap (map gate_of) (none_kept (begins_draining w w) w.instances (none_begins w))

-- ---- the answer

step_judged : (limit : ℕ) (s : State) (step : Step) (command : Command) (judged : Result Judgement CoreFault) → step ≡ Commanded command → JudgesStep limit s step judged → Judges limit s command judged
unfolding JudgesStep
step_judged limit s step command judged is it = subst (λ (x : Step). JudgesStep limit s x judged) is it

module _ (j : JournalRows Step) (s : State) (keeps : Keeps j s) (command : Command) where
  replied : (answer : Result Reply CoreFault) → Replies j.limit s.world command answer → Replies j.limit (world_at j.entries) command answer
  replied answer it = subst (λ (w : World). Replies j.limit w command answer) keeps.world it

  changes_at : changes j.limit s.world command ≡ changes j.limit (world_at j.entries) command
  changes_at = ap (λ (w : World). changes j.limit w command) keeps.world

  refused_as : (fault : CoreFault) → Judges j.limit s command (Err fault) → Commands j.limit j.entries command (Err fault) j.entries
  unfolding Judges
  refused_as OutOfMemory it = (subst (λ (w : World). MayLackMemory j.limit w command) keeps.world it, refl)
  refused_as (NoBundle a) it = (replied (Err (NoBundle a)) it, refl)
  refused_as (NoComponent a) it = (replied (Err (NoComponent a)) it, refl)
  refused_as (WrongState a) it = (replied (Err (WrongState a)) it, refl)
  refused_as (Stopping a) it = (replied (Err (Stopping a)) it, refl)
  refused_as (SameName a) it = (replied (Err (SameName a)) it, refl)
  refused_as (Cycle a) it = (replied (Err (Cycle a)) it, refl)
  refused_as BundlesFull it = (replied (Err BundlesFull) it, refl)
  refused_as ComponentsFull it = (replied (Err ComponentsFull) it, refl)
  refused_as ServicesFull it = (replied (Err ServicesFull) it, refl)
  refused_as ConfigurationsFull it = (replied (Err ConfigurationsFull) it, refl)
  refused_as ListenersFull it = (replied (Err ListenersFull) it, refl)
  refused_as (NoService a) it = (replied (Err (NoService a)) it, refl)
  refused_as (NotOwner a) it = (replied (Err (NotOwner a)) it, refl)
  refused_as NotUsing it = (replied (Err NotUsing) it, refl)
  refused_as (NoListener a) it = (replied (Err (NoListener a)) it, refl)
  refused_as NoConfiguration it = (replied (Err NoConfiguration) it, refl)
  refused_as BadPid it = (replied (Err BadPid) it, refl)
  refused_as FactoryClash it = (replied (Err FactoryClash) it, refl)
  refused_as (ActivationFailed a) it = (replied (Err (ActivationFailed a)) it, refl)
  refused_as (ActivationNoMemory a) it = (replied (Err (ActivationNoMemory a)) it, refl)
  refused_as JournalFull it = (replied (Err JournalFull) it, refl)

  unchanged_as : (reply : Reply) (keys : List GateKey) → keys ≡ [] → Judges j.limit s command (Ok (Unchanged reply)) → Commands j.limit j.entries command (Ok (record { reply = reply; shut = keys })) j.entries
  unfolding Judges
  unchanged_as reply keys none (same, told) =
      (replied (Ok reply) told, none ∙ sym (none_shut (world_at j.entries)), subst (λ b. GrownIf b j.limit j.entries (Commanded command) j.entries) (sym (sym changes_at ∙ same)) refl)

  -- what isn't refused has its answer
  answered_as : (judgement : Judgement) → Judges j.limit s command (Ok judgement) → (r : Reply) × Replies j.limit s.world command (Ok r)
  unfolding Judges
  answered_as (Unchanged r) it = (r, it.1)
  answered_as (Changes r draft) it = (r, it.1.0)

  free_as : (judgement : Judgement) → Judges j.limit s command (Ok judgement) → IsOk (reply j.limit (world_at j.entries) command)
  free_as judgement it =
      let (r, told) = answered_as judgement it in
      ap is_ok (replied (Ok r) told)

  lacks_as : (judgement : Judgement) → Judges j.limit s command (Ok judgement) → Commands j.limit j.entries command (Err OutOfMemory) j.entries
  lacks_as judgement it =
      let (r, told) = answered_as judgement it in
      (rw (replied (Ok r) told) tt, refl)

  changed : (reply : Reply) (draft : Draft) → Judges j.limit s command (Ok (Changes reply draft)) → changes j.limit s.world command ≡ true
  unfolding Judges
  changed reply draft it = it.0

  drafted : (reply : Reply) (draft : Draft) → Judges j.limit s command (Ok (Changes reply draft)) → IsDraft s (Commanded command) draft
  unfolding Judges
  drafted reply draft it = it.1.1

  told : (reply : Reply) (draft : Draft) → Judges j.limit s command (Ok (Changes reply draft)) → Replies j.limit s.world command (Ok reply)
  unfolding Judges
  told reply draft it = it.1.0

  not_refused : (o : Option CoreFault) → is_none o ≡ true → o ≡ None
  not_refused None is = refl
  not_refused (Some fault) is = cc

  may_by : changes j.limit s.world command ≡ true → MayCome s.world (Commanded command)
  may_by is =
      let parts = and_parts (is_none (refusal s.world command)) (has_effect s.world command && has_room j.limit s.world 1) is in
      (not_refused (refusal s.world command) parts.0, (and_parts (has_effect s.world command) (has_room j.limit s.world 1) parts.1).0)

  room_by : changes j.limit s.world command ≡ true → has_room j.limit s.world 1 ≡ true
  room_by is =
      (and_parts (has_effect s.world command) (has_room j.limit s.world 1) (and_parts (is_none (refusal s.world command)) (has_effect s.world command && has_room j.limit s.world 1) is).1).1

  -- it may lack memory all the same
  lacks_by : changes j.limit s.world command ≡ true → MayLackMemory j.limit (world_at j.entries) command
  lacks_by is =
      let may = may_by is in
      subst (λ (w : World). MayLackMemory j.limit w command) keeps.world (rw (may.0, may.1, room_by is) tt)

  changed_as : (reply : Reply) (draft : Draft) (keys : List GateKey) (new : List (Entry Step)) → Judges j.limit s command (Ok (Changes reply draft)) → keys ≡ shut_between (world_at j.entries) (world_at new)
      → Grown j.limit j.entries (Commanded command) new → Commands j.limit j.entries command (Ok (record { reply = reply; shut = keys })) new
  changed_as reply draft keys new it shut grown =
      (replied (Ok reply) (told reply draft it), shut, subst (λ b. GrownIf b j.limit j.entries (Commanded command) new) (sym (sym changes_at ∙ changed reply draft it)) grown)

module _ (j : JournalRows Step) (s : State) (keeps : Keeps j s) (step : Step) (command : Command) (is : step ≡ Commanded command) where
  pub step_refused : (fault : CoreFault) → JudgesStep j.limit s step (Err fault) → Commands j.limit j.entries command (Err fault) j.entries
  step_refused fault it = refused_as j s keeps command fault (step_judged j.limit s step command (Err fault) is it)

  pub step_unchanged : (reply : Reply) (keys : List GateKey) → keys ≡ [] → JudgesStep j.limit s step (Ok (Unchanged reply)) → Commands j.limit j.entries command (Ok (record { reply = reply; shut = keys })) j.entries
  step_unchanged reply keys none it = unchanged_as j s keeps command reply keys none (step_judged j.limit s step command (Ok (Unchanged reply)) is it)

  -- where it is judged and not refused, nothing refuses it, and want of memory may come
  pub step_free : (judgement : Judgement) → JudgesStep j.limit s step (Ok judgement) → IsOk (reply j.limit (world_at j.entries) command)
  step_free judgement it = free_as j s keeps command judgement (step_judged j.limit s step command (Ok judgement) is it)

  pub step_lacks_too : (judgement : Judgement) → JudgesStep j.limit s step (Ok judgement) → Commands j.limit j.entries command (Err OutOfMemory) j.entries
  step_lacks_too judgement it = lacks_as j s keeps command judgement (step_judged j.limit s step command (Ok judgement) is it)

  module _ (reply : Reply) (draft : Draft) (it : JudgesStep j.limit s step (Ok (Changes reply draft))) where
    judged : Judges j.limit s command (Ok (Changes reply draft))
    judged = step_judged j.limit s step command (Ok (Changes reply draft)) is it

    pub step_may : MayCome s.world step
    step_may = subst (λ (x : Step). MayCome s.world x) (sym is) (may_by j s keeps command (changed j s keeps command reply draft judged))

    pub step_room : has_room j.limit s.world (needed_by step) ≡ true
    step_room = ap (λ (x : Step). has_room j.limit s.world (needed_by x)) is ∙ room_by j s keeps command (changed j s keeps command reply draft judged)

    pub step_drafted : IsDraft s step draft
    step_drafted = subst (λ (x : Step). IsDraft s x draft) (sym is) (drafted j s keeps command reply draft judged)

    -- want of memory comes all the same, and leaves all as it was
    pub step_lacks : Commands j.limit j.entries command (Err OutOfMemory) j.entries
    step_lacks = (lacks_by j s keeps command (changed j s keeps command reply draft judged), refl)

    pub step_changed : (keys : List GateKey) (new : List (Entry Step)) → keys ≡ shut_between (world_at j.entries) (world_at new) → Grown j.limit j.entries step new
        → Commands j.limit j.entries command (Ok (record { reply = reply; shut = keys })) new
    step_changed keys new shut grown = changed_as j s keeps command reply draft keys new judged shut (subst (λ (x : Step). Grown j.limit j.entries x new) is grown)
