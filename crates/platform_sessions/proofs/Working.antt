-- Turns that run, one after the other.
use Rattle.std.proofs.Common.{◌≡◌, ◌≤◌, ℕ, ◌+◌, List, [], ◌∷◌, ◌++◌, length, ap, sym, ◌∙◌, refl, subst, Bool, false, ◌<◌, inl, inr, Option, Some, Result, Ok, Err, arith}
use Rattle.std.proofs.Math.Seq.{take-length}
use Rattle.hall_goings.specs.Went.{Went, up_to}
use Rattle.hall_goings.proofs.Chains.{front_stays, longer, went_nowhere, went_on}
use Rattle.hall_locked.specs.Owned.{entries_in, turn_thing}
use Rattle.hall_locked.specs.declared.owed.Owed.{Owed}
use Rattle.kind_trait.specs.Meanings.{Told}
use Rattle.hall_locked.specs.Platforms.{has_drain, running}
use Rattle.platform_sessions.specs.Commands.{AreDrains, IsDrain, IsOwed, IsPosted, PostsOwed}
use Rattle.platform_sessions.specs.Halls.{KeepsPass, KeepsSeat, Own, View}
use Rattle.platform_sessions.specs.Works.{AllEnd, AllPosted, AllTold, AreTurnSteps, BeginsOne, EndsIn, EndsOne, HasBegun, HasEnd, HasEnded, IsBeginOf, IsEndOf, IsPostedBehind, IsPostedFor, IsOneMore, IsTold, IsTurnStep, RanSoMany, RunsDue, Works, begins_in, things_but}
use Rattle.platform_sessions.proofs.Goings.{posted_owed, posts_owed}
use Rattle.prop_map.specs.declared.properties.Property.{Property}
use Rattle.hall_locked.specs.Cores.{CoreView}
use Rattle.scr_world.specs.Stepping.{begins_by}
use Rattle.scr_world.specs.declared.command.Limits.{Limits}
use Rattle.scr_world.specs.declared.reply.CoreFault.{CoreFault}
use Rattle.scr_world.specs.declared.step.Step.{Step}
use Rattle.scr_world.specs.declared.step.Step.TheVariants.{Command as Commanded, Begin, End, Drained, Got, Released}
use Rattle.turn_work.specs.declared.work.TurnWork.{TurnWork}

abbrev core_of : Limits → Own → CoreView
core_of limits log = record { limits = limits; journal = entries_in log }

-- ---- steps

turn_steps_more : (xs ys : Own) → AreTurnSteps xs → AreTurnSteps ys → AreTurnSteps (xs ++ ys)
turn_steps_more [] ys first second = second
turn_steps_more (x ∷ xs) ys first second = (first.0, turn_steps_more xs ys first.1 second)

begins_more : (xs ys : Own) → begins_in (xs ++ ys) ≡ begins_in xs + begins_in ys
begins_more [] ys = omega arith
begins_more (x ∷ xs) ys = let rest = begins_more xs ys in omega (arith, rest)

has_end_more : (turn : ℕ) (xs ys : Own) → HasEnd turn xs → HasEnd turn (xs ++ ys)
has_end_more turn [] ys has = absurd has
has_end_more turn (x ∷ xs) ys (inl here) = inl here
has_end_more turn (x ∷ xs) ys (inr later) = inr (has_end_more turn xs ys later)

ends_in_more : (step : Step) (xs ys : Own) → EndsIn step xs → EndsIn step (xs ++ ys)
ends_in_more (Commanded command) xs ys ends = tt
ends_in_more (Begin turn instance configuration consumer callback chosen) xs ys ends = has_end_more turn xs ys ends
ends_in_more (End turn outcome) xs ys ends = tt
ends_in_more (Drained instance) xs ys ends = tt
ends_in_more (Got bundle service) xs ys ends = tt
ends_in_more (Released place) xs ys ends = tt

all_end_more : (xs ys : Own) → AllEnd xs → AllEnd ys → AllEnd (xs ++ ys)
all_end_more [] ys first second = second
all_end_more (x ∷ xs) ys first second = (ends_in_more x.1.step xs ys first.0, all_end_more xs ys first.1 second)

-- what is said of one step of a turn
record IsOne (refuses : List ℕ → List Property → Told → Bool) (limits : Limits) (p : View) (place : ℕ) (step : Step) (begins : ℕ) (behind : Own) : Type 0 where
  pub turns : IsTurnStep step
  pub count : begins_by step ≡ begins
  pub ends : EndsIn step behind
  pub told : IsTold refuses limits p place step
  pub posted : IsPostedFor limits p place step

module _ (refuses : List ℕ → List Property → Told → Bool) (limits : Limits) (p : View) (place : ℕ) where
  begin_is : (turn : ℕ) (step : Step) (behind : Own) → IsBeginOf turn step → HasEnd turn behind → IsOne refuses limits p place step 1 behind
  begin_is turn (Begin begun instance configuration consumer callback chosen) behind is has = record { turns = tt; count = refl; ends = subst (λ t. HasEnd t behind) (sym is) has; told = tt; posted = tt }
  begin_is turn (Commanded command) behind is has = absurd is
  begin_is turn (End ended outcome) behind is has = absurd is
  begin_is turn (Drained instance) behind is has = absurd is
  begin_is turn (Got bundle service) behind is has = absurd is
  begin_is turn (Released place) behind is has = absurd is

  end_is : (turn : ℕ) (step : Step) (behind : Own) → IsEndOf turn step → IsTold refuses limits p place step → IsPostedBehind limits p place → IsOne refuses limits p place step 0 behind
  end_is turn (End ended outcome) behind is told posted = record { turns = tt; count = refl; ends = tt; told = told; posted = posted }
  end_is turn (Begin begun instance configuration consumer callback chosen) behind is told posted = absurd is
  end_is turn (Commanded command) behind is told posted = absurd is
  end_is turn (Drained instance) behind is told posted = absurd is
  end_is turn (Got bundle service) behind is told posted = absurd is
  end_is turn (Released place) behind is told posted = absurd is

  drain_is : (step : Step) (behind : Own) → IsDrain step → IsOne refuses limits p place step 0 behind
  drain_is (Drained instance) behind is = record { turns = tt; count = refl; ends = tt; told = tt; posted = tt }
  drain_is (Commanded command) behind is = absurd is
  drain_is (Begin turn instance configuration consumer callback chosen) behind is = absurd is
  drain_is (End turn outcome) behind is = absurd is
  drain_is (Got bundle service) behind is = absurd is
  drain_is (Released place) behind is = absurd is

module _ (refuses : List ℕ → List Property → Told → Bool) (limits : Limits) where
  drains_turns : (p : View) (xs : Own) → AreDrains xs → AreTurnSteps xs
  drains_turns p [] drains = tt
  drains_turns p (x ∷ xs) drains = ((drain_is refuses limits p x.0 x.1.step xs drains.0).turns, drains_turns p xs drains.1)

  drains_told : (p : View) (xs : Own) → AreDrains xs → AllTold refuses limits p xs
  drains_told p [] drains = tt
  drains_told p (x ∷ xs) drains = ((drain_is refuses limits p x.0 x.1.step xs drains.0).told, drains_told p xs drains.1)

  drains_posted : (p : View) (xs : Own) → AreDrains xs → AllPosted limits p xs
  drains_posted p [] drains = tt
  drains_posted p (x ∷ xs) drains = ((drain_is refuses limits p x.0 x.1.step xs drains.0).posted, drains_posted p xs drains.1)

  drains_begin : (p : View) (xs : Own) → AreDrains xs → begins_in xs ≡ 0
  drains_begin p [] drains = refl
  drains_begin p (x ∷ xs) drains = let one = (drain_is refuses limits p x.0 x.1.step xs drains.0).count in let rest = drains_begin p xs drains.1 in omega (arith, one, rest)

  drains_end : (p : View) (xs : Own) → AreDrains xs → AllEnd xs
  drains_end p [] drains = tt
  drains_end p (x ∷ xs) drains = ((drain_is refuses limits p x.0 x.1.step xs drains.0).ends, drains_end p xs drains.1)

  -- ---- what was told stays told as the pass goes on

  told_then : (a b : View) (own : Own) → Went a b own → (place : ℕ) (step : Step) → IsTold refuses limits a place step → IsTold refuses limits b place step
  told_then a b own went place (End turn outcome) (within, (work, runs, is)) =
      let more : length a.seen ≤ length b.seen = longer a b own went in
      let same : up_to place b ≡ up_to place a = front_stays a b own place went within in
      (omega (arith, within, more), (work, ap (λ (xs : Own). running (core_of limits xs) turn) same ∙ runs, is))
  told_then a b own went place (Commanded command) told = tt
  told_then a b own went place (Begin turn instance configuration consumer callback chosen) told = tt
  told_then a b own went place (Drained instance) told = tt
  told_then a b own went place (Got bundle service) told = tt
  told_then a b own went place (Released at) told = tt

  all_told_then : (a b : View) (own xs : Own) → Went a b own → AllTold refuses limits a xs → AllTold refuses limits b xs
  all_told_then a b own [] went told = tt
  all_told_then a b own (x ∷ xs) went told = (told_then a b own went x.0 x.1.step told.0, all_told_then a b own xs went told.1)

  all_told_more : (p : View) (xs ys : Own) → AllTold refuses limits p xs → AllTold refuses limits p ys → AllTold refuses limits p (xs ++ ys)
  all_told_more p [] ys first second = second
  all_told_more p (x ∷ xs) ys first second = (first.0, all_told_more p xs ys first.1 second)

  -- ---- and what was posted stays posted

  posted_then : (a b : View) (own : Own) → Went a b own → (place : ℕ) → IsPostedBehind limits a place → IsPostedBehind limits b place
  posted_then a b own went place is =
      let more : length a.seen ≤ length b.seen = longer a b own went in
      let low = is.within in
      record {
        front = is.front;
        behind = is.behind;
        within = omega (arith, low, more);
        posted = ap (λ (xs : Own). has_drain (core_of limits xs)) (front_stays a b own is.front went is.within) ∙ is.posted;
      }

  posted_for_then : (a b : View) (own : Own) → Went a b own → (place : ℕ) (step : Step) → IsPostedFor limits a place step → IsPostedFor limits b place step
  posted_for_then a b own went place (End turn outcome) posted = posted_then a b own went place posted
  posted_for_then a b own went place (Commanded command) posted = tt
  posted_for_then a b own went place (Begin turn instance configuration consumer callback chosen) posted = tt
  posted_for_then a b own went place (Drained instance) posted = tt
  posted_for_then a b own went place (Got bundle service) posted = tt
  posted_for_then a b own went place (Released at) posted = tt

  all_posted_then : (a b : View) (own xs : Own) → Went a b own → AllPosted limits a xs → AllPosted limits b xs
  all_posted_then a b own [] went posted = tt
  all_posted_then a b own (x ∷ xs) went posted = (posted_for_then a b own went x.0 x.1.step posted.0, all_posted_then a b own xs went posted.1)

  all_posted_more : (p : View) (xs ys : Own) → AllPosted limits p xs → AllPosted limits p ys → AllPosted limits p (xs ++ ys)
  all_posted_more p [] ys first second = second
  all_posted_more p (x ∷ xs) ys first second = (first.0, all_posted_more p xs ys first.1 second)

  -- where nothing awaits its drain in all that the pass has seen
  posted_now : (p : View) (place : ℕ) → place < length p.seen → IsPosted limits p → IsPostedBehind limits p place
  posted_now p place less posted = record {
    front = length p.seen;
    behind = less;
    within = omega arith;
    posted = ap (λ (xs : Own). has_drain (core_of limits xs)) (take-length p.seen) ∙ posted;
  }

  -- ---- so many turns

  pub ran_none : (a b : View) → Went a b [] → RanSoMany refuses limits a b 0
  ran_none a b went = record { own = []; ran = record { went = went; turns = tt; told = tt; posted = tt }; begun = refl; ended = tt }

  pub ran_nowhere : (a : View) → RanSoMany refuses limits a a 0
  ran_nowhere a = ran_none a a (went_nowhere a)

  pub ran_on : (a b c : View) (m n k : ℕ) → k ≡ m + n → RanSoMany refuses limits a b m → RanSoMany refuses limits b c n → RanSoMany refuses limits a c k
  ran_on a b c m n k sum first second = record {
    own = first.own ++ second.own;
    ran = record {
      went = went_on a b c first.own second.own first.ran.went second.ran.went;
      turns = turn_steps_more first.own second.own first.ran.turns second.ran.turns;
      told = all_told_more c first.own second.own (all_told_then b c second.own first.own second.ran.went first.ran.told) second.ran.told;
      posted = all_posted_more c first.own second.own (all_posted_then b c second.own first.own second.ran.went first.ran.posted) second.ran.posted;
    };
    begun = (let all = begins_more first.own second.own in let one = first.begun in let two = second.begun in omega (arith, all, one, two, sum));
    ended = all_end_more first.own second.own first.ended second.ended;
  }

  -- behind which nothing came of its own
  pub ran_then : (a b c : View) (n : ℕ) → RanSoMany refuses limits a b n → Went b c [] → RanSoMany refuses limits a c n
  ran_then a b c n first went = ran_on a b c n 0 n (omega arith) first (ran_none b c went)

  -- a turn that has ended, where nothing came of its own before
  pub ended_on : (a b c : View) (turn : ℕ) → Went a b [] → HasEnded refuses limits b c turn → HasEnded refuses limits a c turn
  ended_on a b c turn went ended = record {
    place = ended.place;
    entry = ended.entry;
    step = ended.step;
    went = went_on a b c [] ((ended.place, ended.entry) ∷ []) went ended.went;
    within = ended.within;
    told = ended.told;
  }

  -- a turn that has ended, once what is owed is posted
  pub ends_owed : (a b c : View) (turn : ℕ) (owed : Option Owed) → HasEnded refuses limits a b turn → IsOwed limits b owed → PostsOwed limits owed b c → EndsOne refuses limits a c turn
  ends_owed a b c turn owed ended owes posts =
      let all = posts_owed limits owed b c posts in
      let more : length b.seen ≤ length c.seen = longer b c all.0 all.1 in
      let less = ended.within in
      record {
        place = ended.place;
        entry = ended.entry;
        step = ended.step;
        drains = all.0;
        went = went_on a b c ((ended.place, ended.entry) ∷ []) all.0 ended.went all.1;
        drained = all.2;
        told = told_then b c all.0 all.1 ended.place ended.entry.step ended.told;
        posted = posted_now c ended.place (omega (arith, less, more)) (posted_owed limits owed b c owes posts);
      }

  -- what is kept for the pass then
  pub left_owed : (a b c : View) (turn : ℕ) → b.kept ≡ things_but (turn_thing turn) a.kept → KeepsPass b c → c.kept ≡ things_but (turn_thing turn) a.kept
  left_owed a b c turn left keeps = keeps.1 ∙ left

  pub keeps_turn : (a b c : View) (turn : ℕ) → KeepsSeat a b → IsOneMore (Ok (Some turn)) a.kept b.kept → KeepsSeat b c → c.kept ≡ things_but (turn_thing turn) b.kept → KeepsPass a c
  keeps_turn a b c turn first more second left = ((second.0 ∙ first.0, second.1 ∙ first.1), left ∙ more)

  -- a turn that begins and ends, and the drains behind it
  pub ran_one : (a b c : View) (turn : ℕ) (work : TurnWork) → HasBegun limits a b turn work → EndsOne refuses limits b c turn → RanSoMany refuses limits a c 1
  ran_one a b c turn work begun ended =
      let behind : Own = (ended.place, ended.entry) ∷ ended.drains in
      let first = begin_is refuses limits c begun.place turn begun.entry.step behind begun.step (inl ended.step) in
      let last = end_is refuses limits c ended.place turn ended.entry.step ended.drains ended.step ended.told ended.posted in
      record {
        own = (begun.place, begun.entry) ∷ behind;
        ran = record {
          went = went_on a b c ((begun.place, begun.entry) ∷ []) behind begun.went ended.went;
          turns = (first.turns, (last.turns, drains_turns c ended.drains ended.drained));
          told = (first.told, (last.told, drains_told c ended.drains ended.drained));
          posted = (first.posted, (last.posted, drains_posted c ended.drains ended.drained));
        };
        begun = (let one = first.count in let two = last.count in let rest = drains_begin c ended.drains ended.drained in omega (arith, one, two, rest));
        ended = (first.ends, (last.ends, drains_end c ended.drains ended.drained));
      }

  pub ran_begun : {X : Type 0} (a b c : View) (answer : Result (Option (ℕ × Option (TurnWork × Option X))) CoreFault) (turn : ℕ) (task : Option (TurnWork × Option X)) → answer ≡ Ok (Some (turn, task)) → BeginsOne limits a b answer
      → EndsOne refuses limits b c turn → RanSoMany refuses limits a c 1
  ran_begun {X} a b c answer turn task is begins ended =
      let begun = subst (λ (r : Result (Option (ℕ × Option (TurnWork × Option X))) CoreFault). BeginsOne limits a b r) is begins in
      ran_one a b c turn begun.0 begun.1 ended

  -- ---- what running so many turns answers

  pub one_more_ran : (a b c : View) (n : ℕ) → RanSoMany refuses limits a b n → RanSoMany refuses limits b c 1 → RanSoMany refuses limits a c (n + 1)
  one_more_ran a b c n first second = ran_on a b c n 1 (n + 1) refl first second

  pub worked_idle : (a b c : View) (n turns : ℕ) → RanSoMany refuses limits a b n → n < turns → RunsDue refuses limits b c (Ok false) → Works refuses limits a c turns (Ok n)
  worked_idle a b c n turns ran less (went, none) = (ran_then a b c n ran went, omega (arith, less), λ fewer. none)

  pub worked_refused : (a b c : View) (n turns : ℕ) (fault : CoreFault) → RanSoMany refuses limits a b n → n < turns → RunsDue refuses limits b c (Err fault) → Works refuses limits a c turns (Err fault)
  worked_refused a b c n turns fault ran less (went, refused) = ((n, less, ran_then a b c n ran went), refused)

  pub worked_all : (a b : View) (turns : ℕ) → RanSoMany refuses limits a b turns → Works refuses limits a b turns (Ok turns)
  worked_all a b turns ran = (ran, omega arith, λ fewer. absurd (omega (arith, fewer)))
