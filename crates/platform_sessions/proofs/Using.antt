-- Gets by token, and their release, each in a turn at the lock.
use Rattle.std.proofs.Common.{◌≡◌, ℕ, ◌+◌, List, [], ◌∷◌, ◌++◌, length, map, arith, ap, sym, ◌∙◌, refl, subst, cond, Bool, true, false, inl, inr, Result, Ok, Err}
use Rattle.std.specs.Prelude.{◌==◌, IfOk, OnErr, OnOk, not}
use Rattle.std.specs.List.{Contains}
use Rattle.std.proofs.lemmas.Bool.{eq-eqb}
use Rattle.std.proofs.lemmas.List.{append-nil, append_assoc, map-append}
use Rattle.component_state.proofs.Apart.{in_first, in_left, in_right, kept_over}
use Rattle.front_lock.specs.Histories.{Distinct, Extends, In, numbers}
use Rattle.front_lock.specs.Keepings.{KeepsOthers, kept_by, kept_under}
use Rattle.front_lock.specs.Passes.{names_of}
use Rattle.front_lock.proofs.Keepings.{keeps_added}
use Rattle.hall_goings.specs.Went.{Went}
use Rattle.hall_locked.specs.Locks.{AppendsFor, IsLocked, LockedView, log_of, things_kept, turns_kept, uses_kept}
use Rattle.hall_locked.specs.Owned.{as_kept, as_use, use_thing, without_use}
use Rattle.hall_locked.specs.Uses.{GetsUse, GivesBack, IsKeptGet}
use Rattle.hall_locked.specs.Platforms.{world}
use Rattle.hall_locked.proofs.Logs.{owned_length}
use Rattle.hall_locked.proofs.Uses.{kept_within, one_getter}
use Rattle.journal_core.specs.declared.entry.Entry.{Entry}
use Rattle.kind_trait.specs.Meanings.{Told}
use Rattle.platform_sessions.specs.Commands.{TakesCommand}
use Rattle.platform_sessions.specs.Halls.{KeepsPass, Own, View, core_up_to}
use Rattle.platform_sessions.specs.Uses.{Gets, HasGot, HasUse, IsGotIn, Releases}
use Rattle.platform_sessions.specs.Works.{Works, things_but}
use Rattle.platform_sessions.proofs.Mine.{kept_got}
use Rattle.platform_sessions.proofs.Stretches.{longer_by_one, looked, near, none_more, one_more, same_kept, seen_is, went_by}
use Rattle.platform_sessions.proofs.Things.{all_places, by_but, by_own, by_there, keeps_beside, left_others, under_it, use_left}
use Rattle.platform_sessions.proofs.Turning.{core_was, sees}
use Rattle.prop_map.specs.declared.properties.Property.{Property}
use Rattle.hall_locked.specs.Cores.{CoreView}
use Rattle.scr_world.specs.Calls.{has_token, world_at}
use Rattle.scr_world.specs.Legal.{MayCome}
use Rattle.scr_world.specs.Refusals.{refusal}
use Rattle.scr_world.specs.Room.{has_room, needed_by}
use Rattle.scr_world.specs.declared.command.Command.{Command}
use Rattle.scr_world.specs.declared.command.Limits.{Limits}
use Rattle.scr_world.specs.declared.marks.Token.{Token}
use Rattle.scr_world.specs.declared.reply.CoreFault.{CoreFault}
use Rattle.scr_world.specs.declared.reply.Reply.{Reply}
use Rattle.scr_world.specs.declared.step.Step.{Step}
use Rattle.scr_world.specs.declared.step.Step.TheVariants.{Got}
use Rattle.scr_world.specs.declared.command.Command.TheVariants.{Get}

-- ---- a get that a pass has stays its own while others have their turns

got_over : (log more now : Own) (owner : ℕ) (note : Token) → now ≡ log ++ more → IsGotIn log owner note → IsGotIn now owner note
got_over log more now owner note is got = record {
  before = got.before;
  entry = got.entry;
  behind = got.behind ++ more;
  log_is = is ∙ ap (λ (l : Own). l ++ more) got.log_is ∙ append_assoc got.before ((owner, got.entry) ∷ got.behind) more;
  place_is = got.place_is;
  step = got.step;
}

pub use_stays : (a b : View) (own : Own) (note : Token) → Went a b own → b.kept ≡ a.kept → HasUse note a → HasUse note b
use_stays a b own note went same has = record {
  owner = has.owner;
  kept = subst (λ (xs : List (ℕ × ℕ)). Contains xs (has.owner, use_thing note.place)) (sym same) has.kept;
  got = got_over a.seen went.more b.seen has.owner note went.seen has.got;
}

-- behind a command that was taken, and behind turns that were run
pub use_taken : (limits : Limits) (a b : View) (command : Command) (r : ℕ × Reply) (note : Token) → TakesCommand limits a b command (Ok r) → KeepsPass a b → HasUse note a → HasUse note b
use_taken limits a b command r note (inl (appended, posted)) keeps has = use_stays a b ((appended.place, appended.entry) ∷ appended.drains) note appended.went keeps.1 has
use_taken limits a b command r note (inr unchanged) keeps has = use_stays a b [] note unchanged.went keeps.1 has

pub use_worked : (refuses : List ℕ → List Property → Told → Bool) (limits : Limits) (a b : View) (turns count : ℕ) (note : Token) → Works refuses limits a b turns (Ok count) → KeepsPass a b → HasUse note a → HasUse note b
use_worked refuses limits a b turns count note works keeps has = use_stays a b works.0.own note works.0.ran.went keeps.1 has

-- ---- what is kept of it

-- a pass has what is kept for it, under one of its names
pub has_it : {O : Type 0} (p : View) (value : LockedView O) (note : Token) (has : HasUse note p) → kept_by (names_of p) (things_kept value) ≡ p.kept → Contains value.uses (has.owner, note.place) × In has.owner (names_of p)
has_it p value note has its =
    let there : Contains (kept_by (names_of p) (things_kept value)) (has.owner, use_thing note.place) = subst (λ (xs : List (ℕ × ℕ)). Contains xs (has.owner, use_thing note.place)) (sym its) has.kept in (
      kept_got value.turns value.uses has.owner note.place (by_there (names_of p) (things_kept value) (has.owner, use_thing note.place) there),
      by_own (names_of p) (things_kept value) (has.owner, use_thing note.place) there,
    )

-- once it is given back
pub use_left_by : {O : Type 0} (ns : List ℕ) (place : ℕ) (before after : LockedView O) → after.turns ≡ before.turns → after.uses ≡ without_use place before.uses → kept_by ns (things_kept after) ≡ things_but (use_thing place) (kept_by ns (things_kept before))
use_left_by ns place before after turned left =
    ap (λ (ts : List (ℕ × ℕ)). kept_by ns (map as_kept ts ++ uses_kept after)) turned
    ∙ ap (λ (us : List (ℕ × ℕ)). kept_by ns (turns_kept before ++ map as_use us)) left
    ∙ ap (kept_by ns) (sym (use_left place before.turns before.uses))
    ∙ by_but (use_thing place) ns (things_kept before)

-- nothing that others have changes as a get comes for one
pub got_others : {O : Type 0} {E : Type 0} (owner : ℕ) (ns : List ℕ) → In owner ns → (answer : Result Token E) (before after : LockedView O) → after.turns ≡ before.turns
    → IfOk answer (λ note. after.uses ≡ before.uses ++ (owner, note.place) ∷ []) → OnErr answer (after ≡ before) → KeepsOthers ns (things_kept before) (things_kept after)
got_others {O} owner ns here (Ok note) before after turned used stays =
    let more : uses_kept before ++ (owner, use_thing note.place) ∷ [] ≡ uses_kept after = sym (ap (map as_use) used ∙ map-append as_use before.uses ((owner, note.place) ∷ [])) in
    keeps_beside ns (turns_kept before) (turns_kept after) (uses_kept before) (uses_kept after) (same_kept ns (turns_kept before) (turns_kept after) (ap (λ (ts : List (ℕ × ℕ)). map as_kept ts) turned))
    (subst (λ (xs : List (ℕ × ℕ)). KeepsOthers ns (uses_kept before) xs) more (keeps_added ns (owner, use_thing note.place) (uses_kept before) here))
got_others {O} owner ns here (Err error) before after turned used stays = same_kept ns (things_kept before) (things_kept after) (ap (λ (l : LockedView O). things_kept l) stays)

-- and as one that a pass has leaves
pub released_others : {O : Type 0} {E : Type 0} (owner : ℕ) (ns : List ℕ) → In owner ns → (place : ℕ) (answer : Result Bool E) (before after : LockedView O) → IsLocked before → Contains before.uses (owner, place) → after.turns ≡ before.turns
    → OnOk answer (after.uses ≡ without_use place before.uses) → OnErr answer (after ≡ before) → KeepsOthers ns (things_kept before) (things_kept after)
released_others {O} owner ns here place (Ok stood) before after locked there turned left stays =
    keeps_beside ns (turns_kept before) (turns_kept after) (uses_kept before) (uses_kept after) (same_kept ns (turns_kept before) (turns_kept after) (ap (λ (ts : List (ℕ × ℕ)). map as_kept ts) turned))
    (λ n no. ap (λ (us : List (ℕ × ℕ)). kept_under n (map as_use us)) left ∙ left_others n place before.uses (alone n no))
  where
    alone : (n : ℕ) → ¬ In n ns → (u : ℕ × ℕ) → Contains before.uses u → u.1 ≡ place → n ≡ u.0 → ⊥
    alone n off u h at same =
        let its : Contains before.uses (u.0, place) = subst (λ k. Contains before.uses (u.0, k)) at h in
        let one : u.0 ≡ owner = one_getter (log_of before) u.0 owner place (locked.uses (u.0, place) its) (locked.uses (owner, place) there) in
        off (subst (λ k. In k ns) (sym (same ∙ one)) here)
released_others {O} owner ns here place (Err error) before after locked there turned left stays = same_kept ns (things_kept before) (things_kept after) (ap (λ (l : LockedView O). things_kept l) stays)

module _ {O : Type 0} (p q : View) (before after : LockedView O) (kept : List (ℕ × ℕ)) (apart : Distinct (names_of p)) (goes : Extends (names_of p) p.seen (log_of before))
    (same : q ≡ record p { seen = log_of after; kept = kept; entered = p.entered + 1 }) (locked : IsLocked before) (now : IsLocked after) (a : AppendsFor p.number before after)
    (limits : Limits) (its : before.core.limits ≡ limits) (stay : after.core.limits ≡ before.core.limits) where
  one : (entry : Entry Step) → after.core.journal ≡ before.core.journal ++ entry ∷ [] → Went p q ((length (log_of before), entry) ∷ [])
  one entry grew = went_by p q before after kept apart goes same (entry ∷ []) (one_more p q before after kept apart goes same a entry grew)

  -- ---- a get

  module _ (bundle service : ℕ) (its_kept : kept ≡ kept_by (names_of p) (things_kept after)) (had : kept_by (names_of p) (things_kept before) ≡ p.kept) (turned : after.turns ≡ before.turns) where
    module _ (note : Token) (gets : GetsUse before.core bundle service (Ok note) after.core) (used : after.uses ≡ before.uses ++ (p.number, note.place) ∷ []) where
      place_now : note.place ≡ length (log_of before)
      place_now = ap (λ (t : Token). t.place) gets.1.0 ∙ sym locked.owners ∙ sym (owned_length before.owners before.core.journal locked.owners)

      abbrev thing : ℕ × ℕ
      thing = (p.number, use_thing note.place)

      kept_now : Contains q.kept (p.number, use_thing note.place)
      kept_now =
          let more : uses_kept before ++ thing ∷ [] ≡ uses_kept after = sym (ap (map as_use) used ∙ map-append as_use before.uses ((p.number, note.place) ∷ [])) in
          let there : Contains (uses_kept after) thing = subst (λ (xs : List (ℕ × ℕ)). Contains xs thing) more (in_right (uses_kept before) (thing ∷ []) thing (in_first thing [])) in
          let under : Contains (kept_under p.number (things_kept after)) thing = under_it p.number (things_kept after) thing refl (in_right (turns_kept after) (uses_kept after) thing there) in
          let by : Contains (kept_by (names_of p) (things_kept after)) thing = in_left (kept_under p.number (things_kept after)) (kept_by (numbers p.joined) (things_kept after)) thing under in
          subst (λ (xs : List (ℕ × ℕ)). Contains xs thing) (sym (ap (λ (v : View). v.kept) same ∙ its_kept)) by

      -- no get that was kept before stands there
      other : (u : ℕ × ℕ) → Contains before.uses u → u.1 ≡ note.place → ⊥
      other u h at =
          let within = kept_within (log_of before) u (locked.uses u h) in
          let here = at ∙ place_now in omega (arith, within, here)

      left_uses : without_use note.place after.uses ≡ before.uses
      left_uses =
          let gone : without_use note.place ((p.number, note.place) ∷ []) ≡ [] = ap (λ b. cond (not b) ((p.number, note.place) ∷ []) []) (eq-eqb note.place note.place refl) in
          ap (without_use note.place) used
          ∙ kept_over (λ (u : ℕ × ℕ). not (u.1 == note.place)) before.uses ((p.number, note.place) ∷ [])
          ∙ ap (λ (us : List (ℕ × ℕ)). without_use note.place before.uses ++ us) gone
          ∙ append-nil (without_use note.place before.uses)
          ∙ all_places note.place before.uses other

      left_things : things_but (use_thing note.place) (things_kept after) ≡ things_kept before
      left_things =
          use_left note.place after.turns after.uses
          ∙ ap (λ (us : List (ℕ × ℕ)). turns_kept after ++ map as_use us) left_uses
          ∙ ap (λ (ts : List (ℕ × ℕ)). map as_kept ts ++ uses_kept before) turned

      -- what stands before it
      before_it : (entry : Entry Step) → after.core.journal ≡ before.core.journal ++ entry ∷ [] → core_up_to limits q note.place ≡ before.core
      before_it entry grew = ap (core_up_to limits q) place_now ∙ core_was p q before after kept apart goes same locked now a limits its stay entry grew

      may_come : MayCome (world before.core) (Got bundle service)
      may_come = subst (λ (s : Step). MayCome (world before.core) s) gets.1.1.1 gets.1.1.2.step

      has_its_room : has_room before.core.limits.journal (world before.core) 2 ≡ true
      has_its_room = ap (λ (s : Step). has_room before.core.limits.journal (world before.core) (needed_by s)) (sym gets.1.1.1) ∙ gets.1.1.2.room

      got_one : HasGot limits p q bundle service note
      got_one =
          let entry = gets.1.1.0 in
          let grew = gets.1.1.3 in
          record {
            entry = entry;
            step = gets.1.1.1;
            went = subst (λ n. Went p q ((n, entry) ∷ [])) (sym place_now) (one entry grew);
            behind = let low = near p q before after kept apart goes same in let at = place_now in omega (arith, low, at);
            last = longer_by_one p q before after kept apart goes same a entry grew ∙ ap (λ n. n + 1) (sym place_now);
            bundle_is = ap (λ (t : Token). t.bundle) gets.1.0;
            service_is = ap (λ (t : Token). t.service) gets.1.0;
            unrefused = ap (λ (c : CoreView). refusal (world c) (Get bundle service)) (before_it entry grew) ∙ may_come;
            room = ap (λ (c : CoreView). has_room limits.journal (world c) 2) (before_it entry grew) ∙ ap (λ (l : Limits). has_room l.journal (world before.core) 2) (sym its) ∙ has_its_room;
            has = record {
              owner = p.number;
              kept = kept_now;
              got = record {
                before = log_of before;
                entry = entry;
                behind = [];
                log_is = seen_is p q before after kept apart goes same ∙ one_more p q before after kept apart goes same a entry grew;
                place_is = place_now;
                step = gets.1.1.1 ∙ sym (got_step (ap (λ (t : Token). t.bundle) gets.1.0) (ap (λ (t : Token). t.service) gets.1.0));
              };
            };
            others = ap (things_but (use_thing note.place)) (ap (λ (v : View). v.kept) same ∙ its_kept)
                ∙ sym (by_but (use_thing note.place) (names_of p) (things_kept after))
                ∙ ap (kept_by (names_of p)) left_things
                ∙ had;
          }
        where
          got_step : note.bundle ≡ bundle → note.service ≡ service → Got note.bundle note.service ≡ Got bundle service
          got_step b s = ap (λ n. Got n note.service) b ∙ ap (λ n. Got bundle n) s

    pub gets_so : (answer : Result Token CoreFault) → GetsUse before.core bundle service answer after.core → IfOk answer (λ note. after.uses ≡ before.uses ++ (p.number, note.place) ∷ []) → OnErr answer (after ≡ before)
        → Gets limits p q bundle service answer
    gets_so (Ok note) gets used stays = got_one note gets used
    gets_so (Err fault) refused used stays = (
      looked p q before after kept apart goes same (ap (λ (l : LockedView O). log_of l) stays),
      subst (λ (c : CoreView). GetsUse c bundle service (Err fault) c) (sym (sees p q before after kept apart goes same locked now a limits its stay))
          (subst (λ (c : CoreView). GetsUse c bundle service (Err fault) after.core) (sym (ap (λ (l : LockedView O). l.core) stays)) refused),
    )

  -- ---- a release

  module _ {E : Type 0} (note : Token) (has : HasUse note p) (had : kept_by (names_of p) (things_kept before) ≡ p.kept) where
    pub releases_so : (answer : Result Bool E) → IfOk answer (λ stood. GivesBack before.core note stood after.core) → OnErr answer (after ≡ before) → OnErr answer (q.kept ≡ p.kept) → Releases limits p q note answer
    releases_so (Ok true) (limits_stay, (stands, (entry, is, may, grew))) stays keeps = record {
      place = length (log_of before);
      entry = entry;
      step = is;
      went = one entry grew;
      last = longer_by_one p q before after kept apart goes same a entry grew;
      stood = ap (λ (c : CoreView). has_token (world c) note) (core_was p q before after kept apart goes same locked now a limits its stay entry grew) ∙ stands;
    }
    releases_so (Ok false) (limits_stay, (gone, still)) stays keeps =
        let none = none_more p q before after kept apart goes same a still in
        record {
          went = looked p q before after kept apart goes same none;
          gone = ap (λ (c : CoreView). has_token (world c) note) (sees p q before after kept apart goes same locked now a limits its stay) ∙ ap (λ (j : List (Entry Step)). has_token (world_at j) note) still ∙ gone;
          owner = has.owner;
          unreleased = subst (λ (l : Own). IsKeptGet l (has.owner, note.place)) (sym (seen_is p q before after kept apart goes same ∙ none)) (locked.uses (has.owner, note.place) (has_it p before note has had).0);
        }
    releases_so (Err error) gives stays keeps =
        let went = looked p q before after kept apart goes same (ap (λ (l : LockedView O). log_of l) stays) in (went, use_stays p q [] note went keeps has)
