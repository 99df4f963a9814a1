-- What a settling leaves: the journal stays legal, and where no turn was under way none is.
use Rattle.std.proofs.Common.{◌≡◌, ℕ, zero, suc, List, ap, sym, ◌∙◌, refl, subst, Bool, true, false, ◌||◌, Option, Some, None, Ok, inl, inr}
use Rattle.std.specs.Prelude.{is_some, ◌==◌}
use Rattle.std.specs.List.{list_any}
use Rattle.std.proofs.lemmas.Bool.{and_from, and_parts, both_ways, cases_eq, eq-eqb, ne_eqb, not-true, not_from_false}
use Rattle.callback_orders.specs.declared.callback.Outcome.{Outcome}
use Rattle.callback_orders.specs.Sequences.{is_outstanding}
use Rattle.journal_core.specs.declared.entry.Entry.{Entry}
use Rattle.kind_trait.specs.Meanings.{Told}
use Rattle.prop_map.specs.declared.properties.Property.{Property}
use Rattle.turn_work.specs.declared.work.TurnWork.{TurnWork}
use Rattle.turn_runner.specs.Turns.{Turn, Turns}
use Rattle.scr_world.specs.declared.command.Limits.{Limits}
use Rattle.scr_world.specs.declared.step.Step.{Step}
use Rattle.scr_world.specs.declared.step.Step.TheVariants.{End, Drained as DrainedStep}
use Rattle.scr_world.specs.declared.instance.Instance.{Instance}
use Rattle.scr_world.specs.Calls.{world_at}
use Rattle.scr_requests.specs.Cores.{CoreView}
use Rattle.scr_world.specs.Dues.{due_in}
use Rattle.scr_world.specs.Instances.{has_turn}
use Rattle.scr_world.specs.Legal.{IsLegal}
use Rattle.scr_promises.proofs.RightLaws.{quiet_is_right}
use Rattle.scr_world.specs.Quiet.{IsQuiet, IsRight}
use Rattle.scr_world.specs.Steps.{history_of}
use Rattle.scr_world.specs.declared.world.World.{World}
use Rattle.component_state.proofs.Apart.{any_from}
use Rattle.scr_world.specs.Worlds.{all_instances}
use Rattle.platform_hall.specs.Platforms.{Begins, Drained, Ends, Posts, SettlesAs, has_drain, none_under_way, world}
use Rattle.platform_hall.proofs.Lists.{any_none}
use Rattle.platform_hall.proofs.Starts.{IsBegun, runs_as, takes_begun, takes_legal}
use Rattle.platform_hall.proofs.Steps.{grown_after, grown_legal}
use Rattle.platform_hall.proofs.Stops.{IsAlike, alike_itself, alike_then, drained_alike, stops_it, stops_others}
use Rattle.platform_hall.proofs.Turns.{turns_legal}

-- the journal of a platform is legal
abbrev pub HasLegal : CoreView → Type 0
HasLegal p = IsLegal p.limits.journal (history_of p.journal)

-- the limits stay
with_limits : (before after : CoreView) → after.limits ≡ before.limits → IsLegal before.limits.journal (history_of after.journal) → HasLegal after
with_limits before after same legal = subst (λ (l : Limits). IsLegal l.journal (history_of after.journal)) (sym same) legal

pub begins_legal : (before after : CoreView) (work : TurnWork) → HasLegal before → Begins before work after → HasLegal after
begins_legal before after work legal begins = with_limits before after begins.0 (takes_legal before.limits.journal before.journal after.journal work legal begins.2)

pub begins_as : (before after : CoreView) (work : TurnWork) → HasLegal before → Begins before work after → IsBegun (world before) work (world after)
begins_as before after work legal begins = takes_begun before.limits.journal before.journal after.journal work legal begins.1 begins.2

pub ends_legal : (before after : CoreView) (turn : ℕ) (outcome : Outcome) → HasLegal before → Ends before turn outcome after → HasLegal after
ends_legal before after turn outcome legal ends = with_limits before after ends.0 (grown_legal before.limits.journal before.journal after.journal (End turn outcome) legal ends.1)

drained_legal : (limit count : ℕ) (old new : List (Entry Step)) → IsLegal limit (history_of old) → Drained limit count old new → IsLegal limit (history_of new)
drained_legal limit zero old new legal same = subst (λ (j : List (Entry Step)). IsLegal limit (history_of j)) (sym same) legal
drained_legal limit (suc count) old new legal (between, key, next, rest, (i, found, grown)) = grown_legal limit between new (DrainedStep i.number) (drained_legal limit count old between legal rest) grown

pub posts_legal : (before after : CoreView) → HasLegal before → Posts before after → HasLegal after
posts_legal before after legal (same, count, posted) = with_limits before after same (drained_legal before.limits.journal count before.journal after.journal legal posted)

drained_all : (limit count : ℕ) (old new : List (Entry Step)) → Drained limit count old new → IsAlike (world_at old) (world_at new)
drained_all limit zero old new same = subst (λ (j : List (Entry Step)). IsAlike (world_at old) (world_at j)) (sym same) (alike_itself (world_at old))
drained_all limit (suc count) old new (between, key, next, rest, (i, found, grown)) =
    alike_then (world_at old) (world_at between) (world_at new) (drained_all limit count old between rest)
    (drained_alike (world_at between) (world_at new) i.number (grown_after limit between new (DrainedStep i.number) grown))

-- drains leave turns and objects alone
pub posts_alike : (before after : CoreView) → Posts before after → IsAlike (world before) (world after)
posts_alike before after (same, count, posted) = drained_all before.limits.journal count before.journal after.journal posted

-- ---- no turn under way

abbrev NoTurns : World → Type 0
NoTurns w = (n : ℕ) → list_any (has_turn n) (all_instances w) ≡ false

none_to : (p : CoreView) → none_under_way p ≡ true → NoTurns (world p)
none_to p none n = any_none (has_turn n) (all_instances (world p)) (λ i h its.
    both_ways (list_any (λ (j : Instance). is_outstanding j.callbacks) (all_instances (world p))) (not-true _ none)
    (any_from (λ (j : Instance). is_outstanding j.callbacks) (all_instances (world p)) i h (and_parts (i.turn == n) (is_outstanding i.callbacks) its).1))

none_from : (p : CoreView) → NoTurns (world p) → none_under_way p ≡ true
none_from p none = not_from_false (list_any (λ (j : Instance). is_outstanding j.callbacks) (all_instances (world p)))
    (any_none (λ (j : Instance). is_outstanding j.callbacks) (all_instances (world p)) (λ i h out.
    both_ways (list_any (has_turn i.turn) (all_instances (world p))) (none i.turn)
    (any_from (has_turn i.turn) (all_instances (world p)) i h (and_from (i.turn == i.turn) (is_outstanding i.callbacks) (eq-eqb i.turn i.turn refl) out))))

posts_none : (before after : CoreView) → NoTurns (world before) → Posts before after → NoTurns (world after)
posts_none before after none posts n = (posts_alike before after posts).under_way n ∙ none n

-- a turn that begins and ends leaves none
ends_none : (before begun ended : CoreView) (work : TurnWork) (outcome : Outcome) → HasLegal before → NoTurns (world before) → Begins before work begun → Ends begun work.number outcome ended → NoTurns (world ended)
ends_none before begun ended work outcome legal none begins ends n =
    let is_begun = begins_as before begun work legal begins in
    let later = begins_legal before begun work legal begins in
    let are = turns_legal begun.limits.journal (history_of begun.journal) later in
    let grew = grown_after begun.limits.journal begun.journal ended.journal (End work.number outcome) ends.1 in
    let runs = runs_as (world begun) work.number work is_begun.running in
    elim (cases_eq work.number n) [
      | inl same ↦ ap (λ m. list_any (has_turn m) (all_instances (world ended))) (sym same) ∙ stops_it (world begun) (world ended) are work.number outcome grew work runs
      | inr differ ↦
          stops_others (world begun) (world ended) are work.number outcome grew work runs n differ
          ∙ is_begun.under_way n
          ∙ ap (λ b. b || (work.number == n)) (none n)
          ∙ ne_eqb work.number n differ
    ]

module _ (refuses : List ℕ → List Property → Told → Bool) where
  turn_keeps : (before after : CoreView) → HasLegal before × NoTurns (world before) → Turn has_drain Begins Ends Posts refuses before after → HasLegal after × NoTurns (world after)
  turn_keeps before after (legal, none) (work, (begun, ended, begins, ends, posts), clear) =
      let later = ends_legal begun ended work.number _ (begins_legal before begun work legal begins) ends in
      (posts_legal ended after later posts, posts_none ended after (ends_none before begun ended work _ legal none begins ends) posts)

  turns_keep : (count : ℕ) (before after : CoreView) → HasLegal before × NoTurns (world before) → Turns has_drain Begins Ends Posts refuses count before after → HasLegal after × NoTurns (world after)
  turns_keep zero before after kept same = subst (λ (p : CoreView). HasLegal p × NoTurns (world p)) same kept
  turns_keep (suc count) before after kept (between, rest, turn) = turn_keeps between after (turns_keep count before between kept rest) turn

  settled_keeps : (turns count : ℕ) (before after : CoreView) → HasLegal before → none_under_way before ≡ true → SettlesAs refuses turns before (Ok count) after → HasLegal after × NoTurns (world after)
  settled_keeps turns count before after legal none (low, (start, posts, clear, ran), due, drain) =
      turns_keep count start after (posts_legal before start legal posts, posts_none before start (none_to before none) posts) ran

  pub settled_ends : (turns count : ℕ) (before after : CoreView) → HasLegal before → none_under_way before ≡ true → SettlesAs refuses turns before (Ok count) after → none_under_way after ≡ true
  settled_ends turns count before after legal none settles = none_from after (settled_keeps turns count before after legal none settles).1

  pub settled_quiet : (turns count : ℕ) (before after : CoreView) → HasLegal before → none_under_way before ≡ true → SettlesAs refuses turns before (Ok count) after → IsQuiet (world after)
  settled_quiet turns count before after legal none settles = record {
    nothing_due = none_due (due_in (world after)) settles.2;
    ended = not-true (list_any (λ (i : Instance). is_outstanding i.callbacks) (all_instances (world after))) (settled_ends turns count before after legal none settles);
    drained = settles.3;
  }
    where
      none_due : {X : Type 0} (o : Option X) → is_some o ≡ false → o ≡ None
      none_due None is = refl
      none_due (Some x) is = cc

  -- what is quiet is right
  pub settled_right : (turns count : ℕ) (before after : CoreView) → HasLegal before → none_under_way before ≡ true → SettlesAs refuses turns before (Ok count) after → IsRight (world after)
  settled_right turns count before after legal none settles =
      quiet_is_right after.limits.journal (history_of after.journal) (settled_keeps turns count before after legal none settles).0 (settled_quiet turns count before after legal none settles)
