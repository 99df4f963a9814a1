-- How the calls of a platform make its journal grow.
use Rattle.std.proofs.Common.{◌≡◌, ℕ, zero, suc, List, [], ◌∷◌, ◌++◌, Bool, true, false, cond, not, ◌&&◌, refl, sym, ap, ◌∙◌, subst, append_assoc, append-nil, None, Some, Ok, Err, inl, inr, is_none}
use Rattle.std.specs.Prelude.{Result}
use Rattle.std.specs.declared.option.Option.{Option}
use Rattle.std.specs.Option.{option_map_or, option_or}
use Rattle.std.proofs.lemmas.List.{reverse-append}
use Rattle.std.proofs.lemmas.Grind.{flat_map-append}
use Rattle.callback_orders.specs.declared.callback.Outcome.{Outcome}
use Rattle.journal_core.specs.declared.entry.Entry.{Entry}
use Rattle.kind_trait.specs.Meanings.{Told}
use Rattle.prop_map.specs.declared.properties.Property.{Property}
use Rattle.scr_world.specs.declared.command.Command.{Command}
use Rattle.scr_world.specs.declared.reply.CoreFault.{CoreFault}
use Rattle.scr_world.specs.declared.reply.CoreFault.TheVariants.{JournalFull as InCore, OutOfMemory as NoMemory}
use Rattle.scr_world.specs.declared.command.Limits.{Limits}
use Rattle.scr_world.specs.declared.reply.Reply.{Reply}
use Rattle.scr_world.specs.declared.step.Step.{Step}
use Rattle.scr_world.specs.declared.step.Step.TheVariants.{Command as Stepped, Begin, End, Drained as DrainStep, Got, Released}
use Rattle.scr_world.specs.Calls.{Grown, GrownIf}
use Rattle.platform_hall.specs.Cores.{CoreView}
use Rattle.scr_world.specs.Legal.{IsLegal}
use Rattle.scr_world.specs.Refusals.{refusal, refuse_if}
use Rattle.scr_world.specs.Replies.{answer, changes, has_effect, reply}
use Rattle.scr_world.specs.Room.{has_room}
use Rattle.scr_world.specs.Steps.{history_of}
use Rattle.scr_world.specs.declared.world.World.{World}
use Rattle.turn_runner.specs.declared.settle_fault.SettleFault.{SettleFault}
use Rattle.turn_runner.specs.declared.settle_fault.SettleFault.TheVariants.{Unsettled, JournalFull, OutOfMemory}
use Rattle.turn_work.specs.declared.work.TurnWork.{TurnWork}
use Rattle.turn_runner.specs.Turns.{Ends as EndsTurn, IsCutOff, Settles, Turns}
use Rattle.platform_hall.specs.Platforms.{Accepts, Begins, Drained, Ends, Posts, SettlesAs, TakesCommand, has_drain, world}
use Rattle.platform_hall.proofs.Turns.{begins_next, is_begin}
use Rattle.script_shell.specs.Asks.{changed}
use Rattle.script_shell.specs.Runs.{Grew, command_in, commands_in}
use Rattle.script_shell.proofs.Refusals.{refused_keeps}

-- a history grows at its front
history_more : (journal : List (Entry Step)) (entry : Entry Step) → history_of (journal ++ entry ∷ []) ≡ entry ∷ history_of journal
history_more journal entry = reverse-append journal (entry ∷ [])

-- nothing happened
pub grew_not : (before after : CoreView) → after ≡ before → Grew before after []
grew_not before after same = record {
  entries = [];
  grown = ap (λ (p : CoreView). p.journal) same ∙ sym (append-nil before.journal);
  told = refl;
  limits = ap (λ (p : CoreView). p.limits) same;
  legal = λ legal. (let P : CoreView → Type 0 = λ p. IsLegal p.limits.journal (history_of p.journal) in subst P (sym same) legal);
}

-- one entry
pub grew_step : (before after : CoreView) (step : Step) (commands : List Command) → after.limits ≡ before.limits → Grown before.limits.journal before.journal step after.journal
    → command_in step ≡ commands → Grew before after commands
grew_step before after step commands same (entry, is, follows, more) told = record {
  entries = entry ∷ [];
  grown = more;
  told = append-nil (command_in entry.step) ∙ ap command_in is ∙ told;
  limits = same;
  legal = λ legal.
      let P : Limits → Type 0 = λ limits. IsLegal limits.journal (history_of after.journal) in
      let Q : List (Entry Step) → Type 0 = λ h. IsLegal before.limits.journal h in
      subst P (sym same) (subst Q (sym (ap history_of more ∙ history_more before.journal entry)) (follows, legal));
}

pub grew_trans : (a b c : CoreView) (now later : List Command) → Grew a b now → Grew b c later → Grew a c (now ++ later)
grew_trans a b c now later first second = record {
  entries = first.entries ++ second.entries;
  grown = second.grown ∙ ap (λ w. w ++ second.entries) first.grown ∙ append_assoc a.journal first.entries second.entries;
  told = flat_map-append (λ (e : Entry Step). command_in e.step) first.entries second.entries ∙ ap (λ w. w ++ commands_in second.entries) first.told ∙ ap (λ w. now ++ w) second.told;
  limits = second.limits ∙ first.limits;
  legal = λ legal. second.legal (first.legal legal);
}

-- the same commands, otherwise put together
pub grew_same : (before after : CoreView) (commands commands' : List Command) → commands ≡ commands' → Grew before after commands → Grew before after commands'
grew_same before after commands commands' same grew = let P : List Command → Type 0 = λ cs. Grew before after cs in subst P same grew

-- no command behind some
grew_behind : (a b c : CoreView) (now : List Command) → Grew a b now → Grew b c [] → Grew a c now
grew_behind a b c now first second = grew_same a c (now ++ []) now (append-nil now) (grew_trans a b c now [] first second)

-- a platform with this journal
abbrev with_journal : CoreView → List (Entry Step) → CoreView
with_journal p journal = record { limits = p.limits; journal = journal }

grew_drained : (count : ℕ) (before : CoreView) (journal : List (Entry Step)) → Drained before.limits.journal count before.journal journal → Grew before (with_journal before journal) []
grew_drained zero before journal same = grew_not before (with_journal before journal) (ap (with_journal before) same)
grew_drained (suc count) before journal (between, key, next, drained, (i, found, grown)) =
    grew_behind before (with_journal before between) (with_journal before journal) [] (grew_drained count before between drained)
    (grew_step (with_journal before between) (with_journal before journal) (DrainStep i.number) [] refl grown refl)

-- drains
pub grew_posts : (before after : CoreView) → Posts before after → Grew before after []
grew_posts before after (same, count, drained) =
    let P : CoreView → Type 0 = λ p. Grew before p [] in
    subst P (sym (ap (λ (l : Limits). record { limits = l; journal = after.journal }) same)) (grew_drained count before after.journal drained)

grew_if : (change : Bool) (before after : CoreView) (command : Command) → after.limits ≡ before.limits → GrownIf change before.limits.journal before.journal (Stepped command) after.journal
    → Grew before after (cond change (command ∷ []) [])
grew_if true before after command same grown = grew_step before after (Stepped command) (command ∷ []) same grown refl
grew_if false before after command same still = grew_not before after (ap (λ (l : Limits). record { limits = l; journal = after.journal }) same ∙ ap (with_journal before) still)

-- a command that isn't refused
pub grew_accepts : (before after : CoreView) (command : Command) (said : Reply) → Accepts before command said after → Grew before after (changed before command)
grew_accepts before after command said (accepted, between, is, (same, (replies, shut, grown)), posts) =
    grew_behind before between after (changed before command) (grew_if (changes before.limits.journal (world before) command) before between command same grown) (grew_posts between after posts)

refused_by : (refused : Option CoreFault) (effect room : Bool) (said : Reply) (fault : CoreFault)
    → option_map_or (λ f. Err f) (option_or refused (refuse_if (effect && not room) InCore)) (Ok said) ≡ Err fault → (is_none refused && (effect && room)) ≡ false
refused_by (Some f) effect room said fault is = refl
refused_by None false room said fault is = refl
refused_by None true false said fault is = refl
refused_by None true true said fault is = cc

-- a command that is refused changes nothing
pub refused_changes_nothing : (limit : ℕ) (w : World) (command : Command) (fault : CoreFault) → reply limit w command ≡ Err fault → changes limit w command ≡ false
refused_changes_nothing limit w command fault is = refused_by (refusal w command) (has_effect w command) (has_room limit w 1) (answer w command) fault is

-- a platform whose limits and journal stay
pub stays_whole : (before after : CoreView) → after.limits ≡ before.limits → after.journal ≡ before.journal → after ≡ before
stays_whole before after same still = ap (λ (l : Limits). record { limits = l; journal = after.journal }) same ∙ ap (with_journal before) still

-- a command that is refused
grew_refused : (before after : CoreView) (command : Command) (fault : CoreFault) → after.limits ≡ before.limits → reply before.limits.journal (world before) command ≡ Err fault → after.journal ≡ before.journal
    → Grew before after (changed before command)
grew_refused before after command fault same is still =
    grew_same before after [] (changed before command) (sym (ap (λ (b : Bool). cond b (command ∷ []) []) (refused_changes_nothing before.limits.journal (world before) command fault is)))
    (grew_not before after (stays_whole before after same still))

-- a command that is answered
pub grew_takes : (before after : CoreView) (command : Command) (said : Result Reply CoreFault) → TakesCommand before command said after → (said ≡ Err NoMemory → ⊥) → Grew before after (changed before command)
grew_takes before after command (Ok said) (accepts, none) told = grew_accepts before after command said accepts
grew_takes before after command (Err fault) takes told =
    let refused = refused_keeps before after command fault (λ is. told (ap (λ (f : CoreFault). Err f) is)) takes in grew_refused before after command refused.0 refused.1 refused.2 refused.3

-- a step that begins a turn is no command
no_command : (step : Step) → is_begin step ≡ true → command_in step ≡ []
no_command (Stepped command) is = absurd cc
no_command (Begin turn instance configuration consumer callback chosen) is = refl
no_command (End turn outcome) is = refl
no_command (DrainStep instance) is = refl
no_command (Got bundle service) is = refl
no_command (Released place) is = refl

-- the beginning of a turn
pub grew_begins : (before after : CoreView) (work : TurnWork) → Begins before work after → Grew before after []
grew_begins before after work (same, number, (step, next, is, grown)) = grew_step before after step [] same grown (no_command step (begins_next (world before) step next))

-- its end
pub grew_ends : (before after : CoreView) (turn : ℕ) (outcome : Outcome) → Ends before turn outcome after → Grew before after []
grew_ends before after turn outcome (same, grown) = grew_step before after (End turn outcome) [] same grown refl

grew_turn : (before after : CoreView) (work : TurnWork) (outcome : Outcome) → EndsTurn Begins Ends Posts work outcome before after → Grew before after []
grew_turn before after work outcome (begun, over, begins, ends, posts) =
    grew_behind before begun after [] (grew_begins before begun work begins) (grew_behind begun over after [] (grew_ends begun over work.number outcome ends) (grew_posts over after posts))

grew_turns : (refuses : List ℕ → List Property → Told → Bool) (count : ℕ) (before after : CoreView) → Turns has_drain Begins Ends Posts refuses count before after → Grew before after []
grew_turns refuses zero before after same = grew_not before after (sym same)
grew_turns refuses (suc count) before after (between, turns, (work, turn, drain)) = grew_behind before between after [] (grew_turns refuses count before between turns) (grew_turn between after work _ turn)

grew_settles : (refuses : List ℕ → List Property → Told → Bool) (count : ℕ) (before after : CoreView) → Settles has_drain Begins Ends Posts refuses count before after → Grew before after []
grew_settles refuses count before after (start, posts, drain, turns) = grew_behind before start after [] (grew_posts before start posts) (grew_turns refuses count start after turns)

grew_cut_off : (refuses : List ℕ → List Property → Told → Bool) (before after : CoreView) → IsCutOff Begins Begins Ends Posts refuses before after → Grew before after []
grew_cut_off refuses before after (inl (work, begins)) = grew_begins before after work begins
grew_cut_off refuses before after (inr (work, outcome, is, ends)) = grew_turn before after work outcome ends

-- a settling, however it ends
pub grew_settled : (refuses : List ℕ → List Property → Told → Bool) (turns : ℕ) (before after : CoreView) (said : Result ℕ SettleFault) → SettlesAs refuses turns before said after → Grew before after []
grew_settled refuses turns before after (Ok count) (within, settles, due, drain) = grew_settles refuses count before after settles
grew_settled refuses turns before after (Err Unsettled) (settles, due, drain) = grew_settles refuses turns before after settles
grew_settled refuses turns before after (Err JournalFull) (count, below, settles, due, room, drain) = grew_settles refuses count before after settles
grew_settled refuses turns before after (Err OutOfMemory) (inl posts) = grew_posts before after posts
grew_settled refuses turns before after (Err OutOfMemory) (inr (inl (count, within, settles))) = grew_settles refuses count before after settles
grew_settled refuses turns before after (Err OutOfMemory) (inr (inr (count, between, below, settles, cut))) =
    grew_behind before between after [] (grew_settles refuses count before between settles) (grew_cut_off refuses between after cut)
