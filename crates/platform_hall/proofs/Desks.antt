-- What a desk keeps beside the core stays as its journal says, at each of its calls.
use Rattle.std.proofs.Common.{◌≡◌, ◌<◌, ◌≤◌, ℕ, ◌+◌, List, [], ◌∷◌, ◌++◌, ap, sym, ◌∙◌, refl, subst, cond, Bool, true, false, ◌&&◌, ◌||◌, Some, None, inl, inr, arith}
use Rattle.std.specs.Prelude.{not, ◌==◌, option_and_then, option_map, if◌then◌else◌}
use Rattle.std.specs.List.{list_any, sum_by}
use Rattle.std.proofs.lemmas.Bool.{cases_eq, eqb-true, eq-eqb, ne_eqb}
use Rattle.std.proofs.lemmas.List.Sums.{sum_by-append}
use Rattle.callback_orders.specs.declared.callback.Outcome.{Outcome}
use Rattle.callback_orders.specs.Grammar.{is_destroy}
use Rattle.journal_core.specs.declared.entry.Entry.{Entry}
use Rattle.turn_work.specs.declared.work.TurnWork.{TurnWork}
use Rattle.platform_hall.specs.declared.held.Held.{Held}
use Rattle.platform_hall.specs.Desks.{holders_of, is_holder}
use Rattle.turn_runner.specs.Outcomes.{has_object_after, is_destroy_of, makes_object, needs_object}
use Rattle.scr_world.specs.declared.command.Limits.{Limits}
use Rattle.scr_world.specs.declared.step.Step.{Step}
use Rattle.scr_world.specs.declared.step.Step.TheVariants.{End}
use Rattle.scr_world.specs.declared.instance.Instance.{Instance}
use Rattle.scr_requests.specs.Cores.{CoreView}
use Rattle.scr_world.specs.Instances.{has_turn}
use Rattle.scr_world.specs.Calls.{world_at}
use Rattle.scr_world.specs.Legal.{is_under_way}
use Rattle.scr_world.specs.Lists.{world_of}
use Rattle.scr_world.specs.Steps.{history_of}
use Rattle.scr_world.specs.Instances.{last_callback}
use Rattle.scr_world.specs.TurnSteps.{work_for}
use Rattle.scr_world.specs.Worlds.{all_instances}
use Rattle.platform_hall.specs.Desks.{IsDesk, tokens_of}
use Rattle.platform_hall.specs.Platforms.{Begins, Ends, has_object, running, world}
use Rattle.platform_hall.proofs.Alone.{alone_after, makes_anew, none_alone}
use Rattle.platform_hall.proofs.Lists.{none_found}
use Rattle.platform_hall.proofs.Settlings.{HasLegal, begins_as}
use Rattle.platform_hall.proofs.Starts.{made_for, runs_as, runs_fits, runs_under_way}
use Rattle.platform_hall.proofs.Steps.{grown_after}
use Rattle.platform_hall.proofs.Stops.{IsAlike, object_after, stops_it, stops_objects, stops_others}
use Rattle.platform_hall.proofs.Turns.{turns_legal}
use Rattle.prop_map.specs.Words.{one_if}

-- two platforms with the same limits and the same journal
pub same_view : (p q : CoreView) → p.limits ≡ q.limits → p.journal ≡ q.journal → p ≡ q
same_view p q limits journal = ap (λ (l : Limits). record { limits = l; journal = p.journal }) limits ∙ ap (λ (j : List (Entry Step)). record { limits = q.limits; journal = j }) journal

-- the tokens with one more
tokens_more : (turns : List ℕ) (new n : ℕ) → tokens_of (turns ++ new ∷ []) n ≡ tokens_of turns n + one_if (new == n)
tokens_more turns new n = sum_by-append (λ t. cond (t == n) 1 0) turns (new ∷ []) ∙ ap (λ k. tokens_of turns n + k) (let one : sum_by (λ t. cond (t == n) 1 0) (new ∷ []) ≡ one_if (new == n) = omega arith in one)

one_of_two : (a b : Bool) → (b ≡ true → a ≡ false) → one_if a + one_if b ≡ one_if (a || b)
one_of_two true true apart = let both : true ≡ false = apart refl in cc
one_of_two true false apart = refl
one_of_two false true apart = refl
one_of_two false false apart = refl

-- nothing is kept beside an empty journal
and_false : (b : Bool) → ((b && false) || false) ≡ false
and_false true = refl
and_false false = refl

none_begun : (n : ℕ) → is_under_way (world_at []) n ≡ false
unfolding world_of
none_begun n = and_false (0 == n)

none_made : (n : ℕ) → list_any (made_for n) (world_at []).instances ≡ false
unfolding world_of
none_made n = refl

module _ {O : Type 0} where
  pub empty_desk : (p : CoreView) (turns : List ℕ) (held : List (Held O)) → p.journal ≡ [] → turns ≡ [] → held ≡ [] → IsDesk p turns held
  empty_desk p turns held journal nothing nobody = record {
    tokens = λ n. ap (λ ts. tokens_of ts n) nothing ∙ sym (ap one_if (ap (λ j. is_under_way (world_at j) n) journal ∙ none_begun n));
    objects = λ n. ap (λ (hs : List (Held O)). is_holder hs n) nobody ∙ sym (ap (λ j. list_any (made_for n) (world_at j).instances) journal ∙ none_made n);
    alone = λ n. none_alone held n nobody;
  }

  pub desk_alike : (before after : CoreView) (turns : List ℕ) (held : List (Held O)) → IsAlike (world before) (world after) → IsDesk before turns held → IsDesk after turns held
  desk_alike before after turns held alike desk = record {
    tokens = λ n. desk.tokens n ∙ ap one_if (sym (alike.under_way n));
    objects = λ n. desk.objects n ∙ sym (alike.objects n);
    alone = desk.alone;
  }

  pub desk_begun : (before after : CoreView) (turns : List ℕ) (held : List (Held O)) (work : TurnWork) → HasLegal before → Begins before work after → IsDesk before turns held → IsDesk after (turns ++ work.number ∷ []) held
  desk_begun before after turns held work legal begins desk =
      let is = begins_as before after work legal begins in
      record {
        tokens = λ n.
            tokens_more turns work.number n
            ∙ ap (λ k. k + one_if (work.number == n)) (desk.tokens n)
            ∙ one_of_two (is_under_way (world before) n) (work.number == n) (λ same. ap (λ m. list_any (has_turn m) (all_instances (world before))) (sym (eqb-true work.number n same)) ∙ is.fresh)
            ∙ ap one_if (sym (is.under_way n));
        objects = λ n. desk.objects n ∙ sym (is.objects n);
        alone = desk.alone;
      }

  -- the same tokens and objects over the same core
  pub desk_same : (before after : CoreView) (turns rest : List ℕ) (held kept : List (Held O)) → after ≡ before → ((n : ℕ) → tokens_of rest n ≡ tokens_of turns n) → kept ≡ held → IsDesk before turns held → IsDesk after rest kept
  desk_same before after turns rest held kept same tokens holds desk = record {
    tokens = λ n. tokens n ∙ desk.tokens n ∙ ap (λ (p : CoreView). one_if (is_under_way (world p) n)) (sym same);
    objects = λ n. ap (λ (hs : List (Held O)). is_holder hs n) holds ∙ desk.objects n ∙ ap (λ (p : CoreView). has_object p n) (sym same);
    alone = λ n. subst (λ (hs : List (Held O)). holders_of hs n ≤ 1) (sym holds) (desk.alone n);
  }

-- ---- a turn that is under way

pub running_fits : (p : CoreView) (turn : ℕ) (work : TurnWork) → HasLegal p → running p turn ≡ Some work → has_object p work.instance ≡ needs_object work
running_fits p turn work legal is =
    runs_fits (world p) (turns_legal p.limits.journal (history_of p.journal) legal) turn work (runs_as (world p) turn work is)

pub running_number : (p : CoreView) (turn : ℕ) (work : TurnWork) → running p turn ≡ Some work → work.number ≡ turn
running_number p turn work is = (runs_as (world p) turn work is).number

-- a token of it is there
pub has_token : {O : Type 0} (p : CoreView) (turns : List ℕ) (held : List (Held O)) (turn : ℕ) (work : TurnWork) → HasLegal p → running p turn ≡ Some work → IsDesk p turns held → 0 < tokens_of turns turn
has_token p turns held turn work legal is desk =
    let there = runs_under_way (world p) (turns_legal p.limits.journal (history_of p.journal) legal) turn work (runs_as (world p) turn work is) in
    let one : tokens_of turns turn ≡ 1 = desk.tokens turn ∙ ap one_if there in omega arith

pub running_under_way : (p : CoreView) (turn : ℕ) (work : TurnWork) → HasLegal p → running p turn ≡ Some work → is_under_way (world p) turn ≡ true
running_under_way p turn work legal is =
    runs_under_way (world p) (turns_legal p.limits.journal (history_of p.journal) legal) turn work (runs_as (world p) turn work is)

-- ---- a turn that has ended

module _ (before after : CoreView) (turn : ℕ) (outcome : Outcome) (work : TurnWork) (legal : HasLegal before) (is : running before turn ≡ Some work) (ends : Ends before turn outcome after) where
  ended_it : is_under_way (world after) turn ≡ false
  ended_it =
      stops_it (world before) (world after) (turns_legal before.limits.journal (history_of before.journal) legal) turn outcome
      (grown_after before.limits.journal before.journal after.journal (End turn outcome) ends.1) work (runs_as (world before) turn work is)

  pub ended_others : (n : ℕ) → (turn ≡ n → ⊥) → is_under_way (world after) n ≡ is_under_way (world before) n
  ended_others =
      stops_others (world before) (world after) (turns_legal before.limits.journal (history_of before.journal) legal) turn outcome
      (grown_after before.limits.journal before.journal after.journal (End turn outcome) ends.1) work (runs_as (world before) turn work is)

  ended_objects : (n : ℕ) → has_object after n ≡ object_after work outcome (has_object before) n
  ended_objects =
      stops_objects (world before) (world after) (turns_legal before.limits.journal (history_of before.journal) legal) turn outcome
      (grown_after before.limits.journal before.journal after.journal (End turn outcome) ends.1) work (runs_as (world before) turn work is)

  pub ended_runs_no_more : running after turn ≡ None
  ended_runs_no_more = ap (option_and_then (λ (i : Instance). option_map (work_for (world after) turn i) (last_callback i.callbacks))) (none_found (has_turn turn) (all_instances (world after)) ended_it)

  pub ended_desk : {O : Type 0} (turns rest : List ℕ) (held kept : List (Held O)) (made destroyed : Bool)
      → ((n : ℕ) → tokens_of turns n ≡ tokens_of rest n + one_if (turn == n))
      → ((n : ℕ) → is_holder kept n ≡ ((is_holder held n || (made && (work.instance == n))) && not (destroyed && (work.instance == n))))
      → ((n : ℕ) → holders_of kept n ≤ holders_of held n + one_if (made && (work.instance == n)))
      → made ≡ makes_object work outcome → destroyed ≡ is_destroy work.callback → IsDesk before turns held → IsDesk after rest kept
  ended_desk turns rest held kept made destroyed others keeps few makes destroys desk = record {
    tokens = λ n. elim (cases_eq turn n) [
      | inl same ↦ (
          let one : tokens_of turns n ≡ 1 = desk.tokens n ∙ ap one_if (ap (is_under_way (world before)) (sym same) ∙ running_under_way before turn work legal is) in
          let here : one_if (turn == n) ≡ 1 = ap one_if (eq-eqb turn n same) in
          let all = others n in
          let none : one_if (is_under_way (world after) n) ≡ 0 = ap one_if (ap (is_under_way (world after)) (sym same) ∙ ended_it) in
          let less : tokens_of rest n ≡ 0 = omega arith in
          less ∙ sym none)
      | inr differ ↦ (
          let none : one_if (turn == n) ≡ 0 = ap one_if (ne_eqb turn n differ) in
          let all = others n in
          let same : tokens_of rest n ≡ tokens_of turns n = omega arith in
          same ∙ desk.tokens n ∙ ap one_if (sym (ended_others n differ)))
    ];
    objects = λ n.
        keeps n
        ∙ ap (λ b. (b || (made && (work.instance == n))) && not (destroyed && (work.instance == n))) (desk.objects n)
        ∙ ap (λ m. (has_object before n || (m && (work.instance == n))) && not (destroyed && (work.instance == n))) makes
        ∙ ap (λ d. (has_object before n || (makes_object work outcome && (work.instance == n))) && not (d && (work.instance == n))) destroys
        ∙ sym (ended_objects n);
    alone = λ n. alone_after held kept made work.instance n (few n) (desk.alone n) (λ anew.
        desk.objects work.instance ∙ running_fits before turn work legal is ∙ makes_anew work outcome (sym makes ∙ anew));
  }

  -- as a desk says it, of instances that aren't destroyed
  pub ended_has : (made : Bool) (n : ℕ) → made ≡ makes_object work outcome → is_destroy_of (Some work) n ≡ false → has_object after n ≡ has_object_after (Some work) made (has_object before) n
  ended_has made n makes stays =
      ended_objects n
      ∙ ap (λ m. (has_object before n || (m && (work.instance == n))) && not (is_destroy work.callback && (work.instance == n))) (sym makes)
      ∙ as_told (has_object before n) made (work.instance == n) (is_destroy work.callback) stays
    where
      as_told : (b made here destroyed : Bool) → (here && destroyed) ≡ false → ((b || (made && here)) && not (destroyed && here)) ≡ (if made then b || here else b)
      as_told true true true true is = cc
      as_told false true true true is = cc
      as_told true false true true is = cc
      as_told false false true true is = cc
      as_told true true true false is = refl
      as_told false true true false is = refl
      as_told true false true false is = refl
      as_told false false true false is = refl
      as_told true true false true is = refl
      as_told false true false true is = refl
      as_told true false false true is = refl
      as_told false false false true is = refl
      as_told true true false false is = refl
      as_told false true false false is = refl
      as_told true false false false is = refl
      as_told false false false false is = refl

-- one token more, where it was taken out
pub back_again : (turns rest : List ℕ) (turn : ℕ) → ((n : ℕ) → tokens_of turns n ≡ tokens_of rest n + one_if (turn == n)) → (n : ℕ) → tokens_of (rest ++ turn ∷ []) n ≡ tokens_of turns n
back_again turns rest turn others n = tokens_more rest turn n ∙ sym (others n)
