-- A command, and a drain, in one turn at the lock.
use Rattle.std.proofs.Common.{◌≡◌, ◌<◌, ℕ, ◌+◌, List, [], ◌∷◌, ◌++◌, length, ap, sym, ◌∙◌, refl, subst, Bool, true, false, not, ◌&&◌, inl, inr, Option, Some, None, Result, Ok, Err, is_none, is_some, arith}
use Rattle.std.specs.Prelude.{IfOk, MatchResult, OnErr, nat_lt}
use Rattle.std.specs.Option.{option_map_or, option_or}
use Rattle.std.proofs.lemmas.Bool.{le-ltb, lt-ltb}
use Rattle.std.proofs.lemmas.List.{length-append}
use Rattle.front_lock.specs.Histories.{Distinct, Extends}
use Rattle.front_lock.specs.Passes.{names_of}
use Rattle.hall_goings.specs.Went.{up_to}
use Rattle.hall_locked.specs.Locks.{AppendsFor, IsLocked, LockedView, PostsAt, PostsOne, first_key, log_of}
use Rattle.hall_locked.specs.Owned.{entries_in}
use Rattle.hall_locked.specs.declared.owed.Owed.{Owed}
use Rattle.journal_core.specs.declared.entry.Entry.{Entry}
use Rattle.journal_core.specs.declared.entry.GateKey.{GateKey}
use Rattle.hall_locked.specs.Platforms.{CoreTakes, has_drain}
use Rattle.platform_sessions.specs.Commands.{Appended, IsDrain, IsOwed, Posts, Refused, TookCommand, Unchanged}
use Rattle.platform_sessions.specs.Halls.{View}
use Rattle.platform_sessions.proofs.Stretches.{core_is, journal_is, journal_was, longer_by_one, looked, near, none_more, one_more, went_by}
use Rattle.hall_locked.specs.Cores.{CoreView}
use Rattle.scr_world.specs.Calls.{Commands, GrownIf, world_at}
use Rattle.scr_world.specs.Refusals.{refusal, refuse_if}
use Rattle.scr_world.specs.Replies.{MayLackMemory, Replies, answer, changes, has_effect, reply}
use Rattle.scr_world.specs.Room.{has_room}
use Rattle.scr_world.specs.declared.command.Command.{Command}
use Rattle.scr_world.specs.declared.command.Limits.{Limits}
use Rattle.scr_world.specs.declared.reply.Accepted.{Accepted}
use Rattle.scr_world.specs.declared.reply.CoreFault.{CoreFault}
use Rattle.scr_world.specs.declared.reply.CoreFault.TheVariants.{NoBundle, NoComponent, WrongState, Stopping, SameName, Cycle, BundlesFull, ComponentsFull, ServicesFull, ConfigurationsFull, ListenersFull, NoService, NotOwner, NotUsing, NoListener, NoConfiguration, BadPid, FactoryClash, ActivationFailed, ActivationNoMemory, JournalFull, OutOfMemory}
use Rattle.scr_world.specs.declared.reply.Reply.{Reply}
use Rattle.scr_world.specs.declared.step.Step.{Step}
use Rattle.scr_world.specs.declared.step.Step.TheVariants.{Command as Commanded}
use Rattle.scr_world.specs.declared.world.World.{World}

-- ---- a command that is refused changes nothing

refused_by : (refused : Option CoreFault) (effect room : Bool) (said : Reply) (fault : CoreFault)
    → option_map_or (λ f. Err f) (option_or refused (refuse_if (effect && not room) JournalFull)) (Ok said) ≡ Err fault → (is_none refused && (effect && room)) ≡ false
refused_by (Some f) effect room said fault is = refl
refused_by None false room said fault is = refl
refused_by None true false said fault is = refl
refused_by None true true said fault is = cc

refused_still : (limit : ℕ) (w : World) (command : Command) (fault : CoreFault) → reply limit w command ≡ Err fault → changes limit w command ≡ false
refused_still limit w command fault is = refused_by (refusal w command) (has_effect w command) (has_room limit w 1) (answer w command) fault is

-- ---- nothing is owed where nothing was appended

none_owed : {X : Type 0} (o : Option X) (entries now : ℕ) (awaits : Bool) → is_some o ≡ (nat_lt entries now && awaits) → now ≡ entries → o ≡ None
none_owed None entries now awaits is same = refl
none_owed (Some x) entries now awaits is same =
    let short : nat_lt entries now ≡ false = le-ltb entries now (omega (arith, same)) in
    let never : true ≡ false = is ∙ ap (λ b. b && awaits) short in cc

-- where something was, it is owed exactly where a drain is awaited
some_owed : {X : Type 0} (o : Option X) (entries now : ℕ) (awaits : Bool) → is_some o ≡ (nat_lt entries now && awaits) → entries < now → is_some o ≡ awaits
some_owed o entries now awaits is long = is ∙ ap (λ b. b && awaits) (lt-ltb entries now long)

grown_by_one : (old now : List (Entry Step)) (entry : Entry Step) → now ≡ old ++ entry ∷ [] → length old < length now
grown_by_one old now entry grew = let long : length now ≡ length old + 1 = ap length grew ∙ length-append old (entry ∷ []) in omega (arith, long)

-- what is said of a limit and a journal is said of equal ones
carried : (P : ℕ → List (Entry Step) → Type 0) (l m : Limits) (xs ys : List (Entry Step)) → l ≡ m → xs ≡ ys → P l.journal xs → P m.journal ys
carried P l m xs ys limits same h = subst (λ zs. P m.journal zs) same (subst (λ (k : Limits). P k.journal xs) limits h)

-- what the value answers a command, and what it owes then
abbrev pub Answered : {O : Type 0} → LockedView O → LockedView O → Command → Result (Accepted × Option Owed) CoreFault → Type 0
Answered before after command (Ok a) =
    CoreTakes before.core command (Ok a.0) after.core × (is_some a.1 ≡ (nat_lt (length before.core.journal) (length after.core.journal) && has_drain after.core))
Answered before after command (Err fault) = CoreTakes before.core command (Err fault) after.core

pub answered : {O : Type 0} (before after : LockedView O) (command : Command) (answer : Result (Accepted × Option Owed) CoreFault)
    → MatchResult answer (λ r. CoreTakes before.core command (Ok r.0) after.core) (λ fault. CoreTakes before.core command (Err fault) after.core)
    → IfOk answer (λ r. is_some r.1 ≡ (nat_lt (length before.core.journal) (length after.core.journal) && has_drain after.core))
    → Answered before after command answer
answered before after command (Ok a) takes owed = (takes, owed)
answered before after command (Err fault) takes owed = takes

module _ {O : Type 0} (p q : View) (before after : LockedView O) (kept : List (ℕ × ℕ)) (apart : Distinct (names_of p)) (goes : Extends (names_of p) p.seen (log_of before))
    (same : q ≡ record p { seen = log_of after; kept = kept; entered = p.entered + 1 }) (locked : IsLocked before) (now : IsLocked after) (a : AppendsFor p.number before after) where
  abbrev limit : ℕ
  limit = before.core.limits.journal

  abbrev old : List (Entry Step)
  old = before.core.journal

  module _ (limits : Limits) (its : before.core.limits ≡ limits) (command : Command) where
    is_unchanged : (said : Result Reply CoreFault) → Replies limit (world_at old) command said → changes limit (world_at old) command ≡ false → after.core.journal ≡ old → Unchanged limits p q command (length q.seen) said
    is_unchanged said told still stays =
        let seen : old ≡ entries_in q.seen = sym (journal_is p q before after kept apart goes same now ∙ stays) in
        record {
          went = looked p q before after kept apart goes same (none_more p q before after kept apart goes same a stays);
          front_is = refl;
          still = carried (λ l xs. changes l (world_at xs) command ≡ false) before.core.limits limits old (entries_in q.seen) its seen still;
          told = carried (λ l xs. Replies l (world_at xs) command said) before.core.limits limits old (entries_in q.seen) its seen told;
        }

    is_appended : (said : Reply) (entry : Entry Step) → entry.step ≡ Commanded command → after.core.journal ≡ old ++ entry ∷ [] → Replies limit (world_at old) command (Ok said) → changes limit (world_at old) command ≡ true
        → Appended limits p q command (length q.seen) said
    is_appended said entry step grew told changed =
        let more = one_more p q before after kept apart goes same a entry grew in
        let long = longer_by_one p q before after kept apart goes same a entry grew in
        let was : old ≡ entries_in (up_to (length (log_of before)) q) = sym (journal_was p q before after kept apart goes same locked (entry ∷ []) more) in
        record {
          place = length (log_of before);
          entry = entry;
          drains = [];
          front_is = long;
          behind = near p q before after kept apart goes same;
          within = omega arith;
          step = step;
          went = went_by p q before after kept apart goes same (entry ∷ []) more;
          drained = tt;
          changes_it = carried (λ l xs. changes l (world_at xs) command ≡ true) before.core.limits limits old (entries_in (up_to (length (log_of before)) q)) its was changed;
          told = carried (λ l xs. Replies l (world_at xs) command (Ok said)) before.core.limits limits old (entries_in (up_to (length (log_of before)) q)) its was told;
        }

    -- a command that is taken
    is_taken : (accepted : Accepted) (owed : Option Owed) → is_some owed ≡ (nat_lt (length old) (length after.core.journal) && has_drain after.core) → CoreTakes before.core command (Ok accepted) after.core
        → TookCommand limits p q command (Ok (accepted, owed)) (length q.seen)
    is_taken accepted owed awaits (stay, (told, shut, grown)) = go (changes limit (world_at old) command) refl told grown
      where
        go : (b : Bool) → changes limit (world_at old) command ≡ b → Replies limit (world_at old) command (Ok accepted.reply) → GrownIf b limit old (Commanded command) after.core.journal
            → TookCommand limits p q command (Ok (accepted, owed)) (length q.seen)
        go true is says (entry, step, follows, grew) =
            inl (is_appended accepted.reply entry step grew says is, some_owed owed (length old) (length after.core.journal) (has_drain after.core) awaits (grown_by_one old after.core.journal entry grew) ∙ ap has_drain (sym (core_is p q before after kept apart goes same now limits its stay)))
        go false is says stays = inr (is_unchanged (Ok accepted.reply) says is stays, none_owed owed (length old) (length after.core.journal) (has_drain after.core) awaits (ap length stays))

    by_refusal : (fault first : CoreFault) → Replies limit (world_at old) command (Err fault) → reply limit (world_at old) command ≡ Err first → after.core.journal ≡ old → Unchanged limits p q command (length q.seen) (Err fault)
    by_refusal fault first told said stays = is_unchanged (Err fault) told (refused_still limit (world_at old) command first said) stays

    -- memory was wanting, and the journal is as it was
    starved : MayLackMemory limit (world_at old) command → after.core.journal ≡ old → Refused limits p q command OutOfMemory
    starved may stays =
        let seen : old ≡ entries_in q.seen = sym (journal_is p q before after kept apart goes same now ∙ stays) in (
          looked p q before after kept apart goes same (none_more p q before after kept apart goes same a stays),
          carried (λ l xs. MayLackMemory l (world_at xs) command) before.core.limits limits old (entries_in q.seen) its seen may,
        )

    refused_so : (fault : CoreFault) → Commands limit old command (Err fault) after.core.journal → Refused limits p q command fault
    refused_so (NoBundle b) t = by_refusal (NoBundle b) (NoBundle b) t.0 t.0 t.1
    refused_so (NoComponent n) t = by_refusal (NoComponent n) (NoComponent n) t.0 t.0 t.1
    refused_so (WrongState s) t = by_refusal (WrongState s) (WrongState s) t.0 t.0 t.1
    refused_so (Stopping i) t = by_refusal (Stopping i) (Stopping i) t.0 t.0 t.1
    refused_so (SameName b) t = by_refusal (SameName b) (SameName b) t.0 t.0 t.1
    refused_so (Cycle path) t = by_refusal (Cycle path) (Cycle []) t.0 t.0.0 t.1
    refused_so BundlesFull t = by_refusal BundlesFull BundlesFull t.0 t.0 t.1
    refused_so ComponentsFull t = by_refusal ComponentsFull ComponentsFull t.0 t.0 t.1
    refused_so ServicesFull t = by_refusal ServicesFull ServicesFull t.0 t.0 t.1
    refused_so ConfigurationsFull t = by_refusal ConfigurationsFull ConfigurationsFull t.0 t.0 t.1
    refused_so ListenersFull t = by_refusal ListenersFull ListenersFull t.0 t.0 t.1
    refused_so (NoService s) t = by_refusal (NoService s) (NoService s) t.0 t.0 t.1
    refused_so (NotOwner b) t = by_refusal (NotOwner b) (NotOwner b) t.0 t.0 t.1
    refused_so NotUsing t = by_refusal NotUsing NotUsing t.0 t.0 t.1
    refused_so (NoListener l) t = by_refusal (NoListener l) (NoListener l) t.0 t.0 t.1
    refused_so NoConfiguration t = by_refusal NoConfiguration NoConfiguration t.0 t.0 t.1
    refused_so BadPid t = by_refusal BadPid BadPid t.0 t.0 t.1
    refused_so FactoryClash t = by_refusal FactoryClash FactoryClash t.0 t.0 t.1
    refused_so (ActivationFailed i) t = by_refusal (ActivationFailed i) (ActivationFailed i) t.0 t.0 t.1
    refused_so (ActivationNoMemory i) t = by_refusal (ActivationNoMemory i) (ActivationNoMemory i) t.0 t.0 t.1
    refused_so JournalFull t = by_refusal JournalFull JournalFull t.0 t.0 t.1
    refused_so OutOfMemory t = starved t.0 t.1

    -- what the core answered, for the pass
    pub took : (answer : Result (Accepted × Option Owed) CoreFault) → Answered before after command answer → TookCommand limits p q command answer (length q.seen)
    took (Ok (accepted, owed)) told = is_taken accepted owed told.1 told.0
    took (Err fault) told = refused_so fault told.1

  -- ---- a drain

  posted_at : (o : Option GateKey) → PostsAt before.core o after.core → Posts p q
  posted_at None stays = ([], looked p q before after kept apart goes same (none_more p q before after kept apart goes same a (ap (λ (c : CoreView). c.journal) stays)), tt)
  posted_at (Some key) (limits, (i, found, (entry, step, follows, grew))) =
      let more = one_more p q before after kept apart goes same a entry grew in
      ((length (log_of before), entry) ∷ [], went_by p q before after kept apart goes same (entry ∷ []) more, (subst IsDrain (sym step) tt, tt))

  pub posted : PostsOne before after → Posts p q
  posted posts = posted_at (first_key before.keeper.shelf) posts.0

  pub posted_none : after ≡ before → Posts p q
  posted_none stays = ([], looked p q before after kept apart goes same (ap (λ (l : LockedView O). log_of l) stays), tt)

  -- what is owed then, for the pass
  pub owed_left : {X : Type 0} (limits : Limits) → before.core.limits ≡ limits → after.core.limits ≡ before.core.limits → (answer : Result (Option Owed) X) → IfOk answer (λ left. is_some left ≡ has_drain after.core)
      → IfOk answer (λ left. IsOwed limits q left)
  owed_left limits its stay (Ok left) is = is ∙ ap has_drain (sym (core_is p q before after kept apart goes same now limits its stay))
  owed_left limits its stay (Err error) is = tt

  -- what posting answers, for the pass
  pub drains_of : {X Y : Type 0} (answer : Result X Y) → IfOk answer (λ left. PostsOne before after) → OnErr answer (after ≡ before) → Posts p q
  drains_of (Ok left) posts stays = posted posts
  drains_of (Err error) posts stays = posted_none stays
