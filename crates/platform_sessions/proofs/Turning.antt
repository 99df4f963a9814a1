-- Turns that begin and end, each in a turn at the lock.
use Rattle.std.proofs.Common.{◌≡◌, ℕ, ◌+◌, List, [], ◌∷◌, ◌++◌, length, map, ap, sym, ◌∙◌, refl, subst, false, Bool, Option, Some, None, Result, Ok, Err, is_some, arith}
use Rattle.std.specs.List.{Contains}
use Rattle.std.specs.Prelude.{IfErr, IfOk, OnErr, OnOk}
use Rattle.std.proofs.lemmas.Bool.{both_ways}
use Rattle.std.proofs.lemmas.List.{map-append}
use Rattle.callback_orders.specs.declared.callback.Outcome.{Outcome}
use Rattle.front_lock.specs.Histories.{Distinct, Extends, numbers}
use Rattle.front_lock.specs.Keepings.{kept_by}
use Rattle.front_lock.specs.Passes.{names_of}
use Rattle.hall_goings.specs.Went.{Went}
use Rattle.hall_locked.specs.Locks.{AppendsFor, IsLocked, LockedView, log_of, things_kept, uses_kept}
use Rattle.hall_locked.specs.Owned.{as_kept, as_use, entries_in, turn_thing, without_turn}
use Rattle.hall_locked.specs.Parts.{with_begun}
use Rattle.hall_locked.specs.declared.owed.Owed.{Owed}
use Rattle.journal_core.specs.declared.entry.Entry.{Entry}
use Rattle.kind_trait.specs.Meanings.{Told}
use Rattle.hall_locked.specs.Platforms.{Begins, BeginsTurn, Ends, has_drain, running, world}
use Rattle.hall_locked.proofs.Settlings.{HasLegal}
use Rattle.hall_locked.proofs.Turns.{begins_next, is_begin}
use Rattle.platform_sessions.specs.Commands.{IsOwed}
use Rattle.platform_sessions.specs.Halls.{KeepsPass, Own, View, core_seen, core_up_to}
use Rattle.platform_sessions.specs.Works.{BeginsOne, HandsOut, HasBegun, HasEnded, IsBeginOf, IsEndOf, IsMine, IsRunFor, IsTold, begun_of, things_but}
use Rattle.platform_sessions.proofs.Mine.{begun_mine, kept_begun, mine_under_way}
use Rattle.platform_sessions.proofs.Things.{by_but, by_there, turn_left}
use Rattle.hall_locked.proofs.WorkStays.{running_stays}
use Rattle.platform_sessions.proofs.Stretches.{core_is, core_with, entries_owned, journal_was, longer_by_one, looked, none_more, one_more, went_by}
use Rattle.prop_map.specs.declared.properties.Property.{Property}
use Rattle.hall_locked.specs.Cores.{CoreView}
use Rattle.scr_laws.proofs.Numbering.{next_turn}
use Rattle.scr_world.specs.Dues.{next_begin}
use Rattle.scr_world.specs.declared.command.Limits.{Limits}
use Rattle.scr_world.specs.declared.reply.CoreFault.{CoreFault}
use Rattle.scr_world.specs.declared.step.Step.{Step}
use Rattle.scr_world.specs.declared.step.Step.TheVariants.{Command as Commanded, Begin, End, Drained, Got, Released}
use Rattle.scr_world.specs.declared.world.World.{World}
use Rattle.turn_runner.specs.Outcomes.{IsOutcome, IsRunOf, is_refused, makes_object}
use Rattle.turn_runner.specs.declared.turn.Ran.{Ran}
use Rattle.turn_work.specs.declared.work.TurnWork.{TurnWork}

-- ---- what is said of an answer

pub on_ok : {X Y A B : Type 0} (answer : Result X Y) → (A → B) → OnOk answer A → OnOk answer B
on_ok (Ok x) f h = f h
on_ok (Err y) f h = tt

pub on_err : {X Y A B : Type 0} (answer : Result X Y) → (A → B) → OnErr answer A → OnErr answer B
on_err (Ok x) f h = tt
on_err (Err y) f h = f h

-- ---- the step by which a turn begins

never_begins : {A : Type 0} (w : World) (step : Step) → next_begin w ≡ Some step → is_begin step ≡ false → A
never_begins w step is other = absurd (both_ways (is_begin step) other (begins_next w step is))

begins_it : (w : World) (step : Step) (turn : ℕ) → next_begin w ≡ Some step → turn ≡ w.turns_begun + 1 → IsBeginOf turn step
begins_it w (Begin begun instance configuration consumer callback chosen) turn is next = next_turn w begun instance configuration consumer callback chosen is ∙ sym next
begins_it w (Commanded command) turn is next = never_begins w (Commanded command) is refl
begins_it w (End ended outcome) turn is next = never_begins w (End ended outcome) is refl
begins_it w (Drained instance) turn is next = never_begins w (Drained instance) is refl
begins_it w (Got bundle service) turn is next = never_begins w (Got bundle service) is refl
begins_it w (Released place) turn is next = never_begins w (Released place) is refl

module _ {O : Type 0} (p q : View) (before after : LockedView O) (kept : List (ℕ × ℕ)) (apart : Distinct (names_of p)) (goes : Extends (names_of p) p.seen (log_of before))
    (same : q ≡ record p { seen = log_of after; kept = kept; entered = p.entered + 1 }) (locked : IsLocked before) (now : IsLocked after) (a : AppendsFor p.number before after)
    (limits : Limits) (its : before.core.limits ≡ limits) (stay : after.core.limits ≡ before.core.limits) where
  -- what the pass has seen then is the value's core
  pub sees : core_seen limits q ≡ after.core
  sees = core_is p q before after kept apart goes same now limits its stay

  pub core_was : (entry : Entry Step) → after.core.journal ≡ before.core.journal ++ entry ∷ [] → core_up_to limits q (length (log_of before)) ≡ before.core
  core_was entry grew =
      ap (core_with limits) (journal_was p q before after kept apart goes same locked (entry ∷ []) (one_more p q before after kept apart goes same a entry grew))
      ∙ ap (λ (l : Limits). core_with l before.core.journal) (sym its)

  -- ---- the beginning

  module _ (its_kept : kept ≡ kept_by (names_of p) (things_kept after)) where
    is_mine : (turn : ℕ) → after.turns ≡ before.turns ++ (p.number, turn) ∷ [] → IsMine turn q
    is_mine turn grew =
        subst (λ (v : View). IsMine turn v) (sym same)
        (subst (λ (xs : List (ℕ × ℕ)). Contains xs (p.number, turn_thing turn)) (sym its_kept) (begun_mine p.number (numbers p.joined) turn before.turns after.turns (uses_kept after) grew))

    begun_is : (turn : ℕ) (work : TurnWork) → work.number ≡ turn → Begins before.core work after.core → running after.core turn ≡ Some work → after.turns ≡ before.turns ++ (p.number, turn) ∷ [] → HasBegun limits p q turn work
    begun_is turn work number (limits_stay, next, (step, is, named, (entry, step_is, follows, grew))) runs turned =
        let more = one_more p q before after kept apart goes same a entry grew in
        record {
          place = length (log_of before);
          entry = entry;
          step = subst (λ (s : Step). IsBeginOf turn s) (sym step_is) (begins_it (world before.core) step turn is (sym number ∙ next));
          went = went_by p q before after kept apart goes same (entry ∷ []) more;
          mine = is_mine turn turned;
          work_is = ap (λ (c : CoreView). running c turn) sees ∙ runs;
        }

    stays_idle : (answer : Result (Option ℕ) CoreFault) → after.core ≡ before.core → BeginsTurn before.core answer after.core
        → Went p q [] × BeginsTurn (core_seen limits q) answer (core_seen limits q)
    stays_idle answer stays begins =
        let none = none_more p q before after kept apart goes same a (ap (λ (c : CoreView). c.journal) stays) in (
          looked p q before after kept apart goes same none,
          subst (λ (c : CoreView). BeginsTurn c answer c) (sym sees) (subst (λ (c : CoreView). BeginsTurn c answer after.core) (sym stays) begins),
        )

    pub begins_one : {X : Type 0} (answer : Result (Option (ℕ × Option (TurnWork × Option X))) CoreFault) → BeginsTurn before.core (begun_of answer) after.core → after.turns ≡ with_begun p.number (begun_of answer) before.turns
        → HandsOut after.core answer → OnErr answer (after ≡ before) → BeginsOne limits p q answer
    begins_one (Ok (Some begun)) (work, number, begins, runs) turned out stays = (work, begun_is begun.0 work number begins runs turned, out work runs)
    begins_one (Ok None) begins turned out stays = stays_idle (Ok None) begins.1 begins
    begins_one (Err fault) begins turned out stays = stays_idle (Err fault) (ap (λ (l : LockedView O). l.core) stays) begins

  -- ---- the end

  module _ (refuses : List ℕ → List Property → Told → Bool) (turn : ℕ) (work : TurnWork) (runs : running before.core turn ≡ Some work) where
    pub ended_is : (outcome : Outcome) → IsOutcome (is_refused refuses work) outcome → Ends before.core turn outcome after.core → HasEnded refuses limits p q turn
    ended_is outcome told (limits_stay, (entry, step, follows, grew)) =
        let more = one_more p q before after kept apart goes same a entry grew in
        let long = longer_by_one p q before after kept apart goes same a entry grew in
        record {
          place = length (log_of before);
          entry = entry;
          step = subst (λ (s : Step). IsEndOf turn s) (sym step) refl;
          went = went_by p q before after kept apart goes same (entry ∷ []) more;
          within = omega (arith, long);
          told = subst (λ (s : Step). IsTold refuses limits q (length (log_of before)) s) (sym step)
              (omega (arith, long), (work, ap (λ (c : CoreView). running c turn) (core_was entry grew) ∙ runs, told));
        }

    -- what it came to is of its work still, where nothing changed
    pub back_fits : {X Y R : Type 0} (ran : Ran R) (answer : Result X (Ran R × Y)) → IsOutcome (is_refused refuses work) ran.outcome → is_some ran.made ≡ makes_object work ran.outcome
        → IfErr answer (λ e. e.0 ≡ ran) → OnErr answer (after ≡ before) → IfErr answer (λ e. IsRunFor refuses limits q turn e.0)
    back_fits ran (Ok x) told made back stays = tt
    back_fits {R = R} ran (Err e) told made back stays =
        subst (λ (r : Ran R). IsRunFor refuses limits q turn r) (sym back)
        (work, ap (λ (c : CoreView). running c turn) sees ∙ ap (λ (l : LockedView O). running l.core turn) stays ∙ runs, told, made)

  -- what is owed then
  pub owed_one : {X : Type 0} (answer : Result (Option Owed) X) → IfOk answer (λ owed. is_some owed ≡ has_drain after.core) → IfOk answer (λ owed. IsOwed limits q owed)
  owed_one (Ok owed) is = is ∙ ap has_drain (sym sees)
  owed_one (Err error) is = tt

  -- where nothing changed
  pub looks_one : {X Y : Type 0} (answer : Result X Y) → OnErr answer (after ≡ before) → OnErr answer (Went p q [])
  looks_one answer stays = on_err answer (λ (is : after ≡ before). looked p q before after kept apart goes same (ap (λ (l : LockedView O). log_of l) is)) stays

-- what is kept for a pass, once a turn has ended
pub left_by : {O : Type 0} (ns : List ℕ) (turn : ℕ) (before after : LockedView O) → after.turns ≡ without_turn turn before.turns → after.uses ≡ before.uses → kept_by ns (things_kept after) ≡ things_but (turn_thing turn) (kept_by ns (things_kept before))
left_by ns turn before after left same =
    ap (λ (ts : List (ℕ × ℕ)). kept_by ns (map as_kept ts ++ uses_kept after)) left
    ∙ ap (λ (us : List (ℕ × ℕ)). kept_by ns (map as_kept (without_turn turn before.turns) ++ map as_use us)) same
    ∙ ap (kept_by ns) (sym (turn_left turn before.turns before.uses))
    ∙ by_but (turn_thing turn) ns (things_kept before)

-- ---- a turn of the pass goes on while others have their turns

module _ {O : Type 0} (p : View) (value : LockedView O) (turn : ℕ) (mine : IsMine turn p) (its_kept : kept_by (names_of p) (things_kept value) ≡ p.kept) where
  pub still_begun : Contains value.turns (p.number, turn)
  still_begun =
      kept_begun value.turns value.uses p.number turn
      (by_there (names_of p) (things_kept value) (p.number, turn_thing turn) (subst (λ (xs : List (ℕ × ℕ)). Contains xs (p.number, turn_thing turn)) (sym its_kept) mine))

  module _ (goes : Extends (names_of p) p.seen (log_of value)) (locked : IsLocked value) (legal : HasLegal value.core) (limits : Limits) where
    grown_since : value.core.journal ≡ entries_in p.seen ++ entries_in goes.rest
    grown_since = sym (entries_owned value.owners value.core.journal locked.owners) ∙ ap (λ (l : Own). entries_in l) goes.is ∙ map-append (λ (x : ℕ × Entry Step). x.1) p.seen goes.rest

    pub still_runs : (work : TurnWork) → running (core_seen limits p) turn ≡ Some work → running value.core turn ≡ Some work
    still_runs work runs = running_stays (core_seen limits p) value.core (entries_in goes.rest) legal grown_since turn work runs (mine_under_way value locked p.number turn still_begun)

    pub still_run : {R : Type 0} (refuses : List ℕ → List Property → Told → Bool) (ran : Ran R) → IsRunFor refuses limits p turn ran → IsRunOf (running value.core turn) ran.outcome (is_some ran.made)
    still_run refuses ran (work, runs, told, made) = subst (λ (o : Option TurnWork). IsRunOf o ran.outcome (is_some ran.made)) (sym (still_runs work runs)) made

-- a turn of a pass stays its own where the same is kept for it
pub mine_still : (a b : View) (turn : ℕ) → KeepsPass a b → IsMine turn a → IsMine turn b
mine_still a b turn keeps mine =
    subst (λ n. Contains b.kept (n, turn_thing turn)) (sym keeps.0.0) (subst (λ (xs : List (ℕ × ℕ)). Contains xs (a.number, turn_thing turn)) (sym keeps.1) mine)
