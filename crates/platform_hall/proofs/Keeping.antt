-- What is kept of turns fits them, at each of a desk's calls.
use Rattle.std.proofs.Common.{◌≡◌, ◌⊎◌, ◌||◌, ℕ, List, [], ◌∷◌, ◌++◌, Bool, true, false, ap, sym, ◌∙◌, subst, refl, inl, inr, Option, Some, None}
use Rattle.std.specs.Prelude.{is_some, not, option_map, ◌==◌}
use Rattle.std.specs.Arc.{arc_value}
use Rattle.std.specs.List.{Contains}
use Rattle.std.proofs.lemmas.Bool.{both_ways, eq-eqb, eqb-true, not-true}
use Rattle.callback_orders.specs.declared.callback.Outcome.{Outcome}
use Rattle.component_state.proofs.Apart.{in_cases, in_either, in_none, kept_was}
use Rattle.scr_laws.proofs.Listed.{found_was}
use Rattle.scr_requests.specs.Cores.{CoreView}
use Rattle.scr_world.specs.Legal.{is_under_way}
use Rattle.turn_work.specs.declared.work.TurnWork.{TurnWork}
use Rattle.turn_runner.specs.declared.came.Came.{Came}
use Rattle.turn_runner.specs.declared.turn.Ran.{Ran}
use Rattle.turn_runner.specs.Outcomes.{makes_object}
use Rattle.platform_hall.specs.Desks.{AreFit, IsLike, kept_but, kept_of}
use Rattle.platform_hall.specs.Platforms.{Begins, Ends, running, world}
use Rattle.platform_hall.proofs.Desks.{ended_others, running_under_way}
use Rattle.platform_hall.proofs.Growing.{Grows, begins_grows, ends_grows}
use Rattle.platform_hall.proofs.Settlings.{HasLegal, begins_as, begins_legal, ends_legal}
use Rattle.platform_hall.proofs.Stops.{IsAlike}
use Rattle.platform_hall.proofs.WorkStays.{running_stays}

is_mapped : {A B : Type 0} (f : A → B) (o : Option A) → is_some o ≡ is_some (option_map f o)
is_mapped f None = refl
is_mapped f (Some x) = refl

module _ {O : Type 0} where
  -- what is kept was kept before, or it is the one that is kept more
  pub kept_or_new : (old new : List (Came O)) (one : Came O) → new ≡ old ++ one ∷ [] → (came : Came O) → Contains new came → Contains old came ⊎ (one ≡ came)
  kept_or_new old new one grew came there =
      elim (in_either old (one ∷ []) came (subst (λ (xs : List (Came O)). Contains xs came) grew there)) [
        | inl before ↦ inl before
        | inr last ↦ elim (in_cases one [] came last) [ inl same ↦ inr same | inr none ↦ absurd (in_none came none) ]
      ]

  -- what is kept of others was kept before
  pub kept_before : (old new : List (Came O)) (turn : ℕ) → new ≡ kept_but turn old → (came : Came O) → Contains new came → Contains old came × (not (came.work.number == turn) ≡ true)
  kept_before old new turn less came there = kept_was (λ (k : Came O). not (k.work.number == turn)) old came (subst (λ (xs : List (Came O)). Contains xs came) less there)

  -- ---- that it fits

  pub fit_none : (p : CoreView) (kept : List (Came O)) → kept ≡ [] → AreFit p kept
  fit_none p kept none = λ came there. absurd (in_none came (subst (λ (xs : List (Came O)). Contains xs came) none there))

  pub fit_same : (before after : CoreView) (kept : List (Came O)) → after ≡ before → AreFit before kept → AreFit after kept
  fit_same before after kept same fit = subst (λ (p : CoreView). AreFit p kept) (sym same) fit

  pub fit_more : (p : CoreView) (kept more : List (Came O)) (one : Came O) → more ≡ kept ++ one ∷ [] → running p one.work.number ≡ Some one.work → is_some one.ran.made ≡ makes_object one.work one.ran.outcome → AreFit p kept → AreFit p more
  fit_more p kept more one grew runs fits fit = λ came there.
      elim (kept_or_new kept more one grew came there) [
        | inl before ↦ fit came before
        | inr same ↦ subst (λ (c : Came O). (running p c.work.number ≡ Some c.work) × (is_some c.ran.made ≡ makes_object c.work c.ran.outcome)) same (runs, fits)
      ]

  -- as the journal grows, and the turns go on
  fit_on : (before after : CoreView) (kept : List (Came O)) → HasLegal before → HasLegal after → Grows before.journal after.journal
      → ((came : Came O) → Contains kept came → is_under_way (world after) came.work.number ≡ is_under_way (world before) came.work.number) → AreFit before kept → AreFit after kept
  fit_on before after kept legal later (more, grew) alike fit = λ came there.
      let was = fit came there in
      (running_stays before after more later grew came.work.number came.work was.0 (alike came there ∙ running_under_way before came.work.number came.work legal was.0), was.1)

  pub fit_alike : (before after : CoreView) (kept : List (Came O)) → HasLegal before → HasLegal after → Grows before.journal after.journal → IsAlike (world before) (world after) → AreFit before kept → AreFit after kept
  fit_alike before after kept legal later grows alike fit = fit_on before after kept legal later grows (λ came there. alike.under_way came.work.number) fit

  pub fit_begun : (before after : CoreView) (work : TurnWork) (kept : List (Came O)) → HasLegal before → Begins before work after → AreFit before kept → AreFit after kept
  fit_begun before after work kept legal begins fit =
      fit_on before after kept legal (begins_legal before after work legal begins) (begins_grows before after work begins)
      (λ came there.
      let way = running_under_way before came.work.number came.work legal (fit came there).0 in
      (begins_as before after work legal begins).under_way came.work.number ∙ ap (λ b. b || (work.number == came.work.number)) way ∙ sym way)
      fit

  -- of a turn that has ended nothing is kept any more
  pub fit_ended : (before after : CoreView) (turn : ℕ) (outcome : Outcome) (work : TurnWork) (kept rest : List (Came O)) → HasLegal before → running before turn ≡ Some work → Ends before turn outcome after → rest ≡ kept_but turn kept → AreFit before kept → AreFit after rest
  fit_ended before after turn outcome work kept rest legal is ends less fit =
      fit_on before after rest legal (ends_legal before after turn outcome legal ends) (ends_grows before after turn outcome ends)
      (λ came there. ended_others before after turn outcome work legal is ends came.work.number
      (λ here. both_ways (came.work.number == turn) (not-true _ (kept_before kept rest turn less came there).1) (eq-eqb came.work.number turn (sym here))))
      (λ came there. fit came (kept_before kept rest turn less came there).0)

  -- ---- what is found

  pub found_work : (p : CoreView) (kept : List (Came O)) (turn : ℕ) (came : Came O) (work : TurnWork) → AreFit p kept → running p turn ≡ Some work → kept_of kept turn ≡ Some came → came.work ≡ work
  found_work p kept turn came work fit is found =
      let there = found_was (λ (k : Came O). k.work.number == turn) kept came found in
      let here = eqb-true came.work.number turn there.1 in
      let both : Some came.work ≡ Some work = sym (fit came there.0).0 ∙ ap (running p) here ∙ is in
      cc

  -- what is found to be put back made an object exactly where the turn does
  pub found_makes : (p : CoreView) (kept : List (Came O)) (turn : ℕ) (came : Came O) (ran : Ran O) (work : TurnWork) → AreFit p kept → running p turn ≡ Some work → kept_of kept turn ≡ Some came → IsLike ran came.ran → is_some ran.made ≡ makes_object work ran.outcome
  found_makes p kept turn came ran work fit is found like =
      let there = found_was (λ (k : Came O). k.work.number == turn) kept came found in
      is_mapped arc_value ran.made ∙ ap is_some like.1 ∙ sym (is_mapped arc_value came.ran.made)
      ∙ (fit came there.0).1
      ∙ ap (λ (w : TurnWork). makes_object w came.ran.outcome) (found_work p kept turn came work fit is found)
      ∙ ap (makes_object work) (sym like.0)

-- something is found
pub is_found : {X : Type 0} (o : Option X) (b : Bool) → b ≡ is_some o → b ≡ true → (x : X) × (o ≡ Some x)
is_found None b same is = absurd (let both : true ≡ false = sym is ∙ same in cc)
is_found (Some x) b same is = (x, refl)

pub is_not_found : {X : Type 0} (o : Option X) (b : Bool) → b ≡ is_some o → b ≡ false → o ≡ None
is_not_found None b same is = refl
is_not_found (Some x) b same is = absurd (let both : false ≡ true = sym is ∙ same in cc)
