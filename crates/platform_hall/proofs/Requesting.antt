-- What a request is answered, by whom it reaches.
use Rattle.std.proofs.Common.{◌≡◌, ℕ, List, [], ap, sym, ◌∙◌, refl, subst, Some, None}
use Rattle.std.specs.Prelude.{Option, length}
use Rattle.call_moves.specs.declared.nested_call.NestedCall.{NestedCall}
use Rattle.call_moves.specs.Evaluations.{Meaning}
use Rattle.call_runner.specs.declared.run.End.{End}
use Rattle.call_runner.specs.Runs.{ComesToEnd, ended_of}
use Rattle.http_wire.specs.declared.messages.Request.{Request}
use Rattle.http_wire.specs.declared.messages.Answered.{Answered}
use Rattle.scr_calls.specs.Answers.{AnswersAt, AnswersFor, AnswersRequest, answer_by, answered, servlet_text}
use Rattle.scr_calls.specs.Evaluates.{reaching, world_up_to}
use Rattle.scr_calls.specs.Servlets.{Ending, Objectless, Reached, Standing, choice, reached}
use Rattle.scr_calls.specs.declared.call.HallAnswer.{HallAnswer}
use Rattle.scr_requests.specs.Cores.{CoreView}
use Rattle.scr_readers.specs.declared.live.Live.{Live}
use Rattle.scr_requests.specs.Cores.{IsActiveAt}
use Rattle.scr_requests.specs.Requests.{IsReach, IsReachBy}
use Rattle.scr_requests.specs.declared.reaching.Reach.{Reach}
use Rattle.scr_requests.specs.declared.reaching.Reach.TheVariants.{Nowhere as ToNowhere, Objectless as ToObjectless, Ending as ToEnding, Standing as ToStanding}
use Rattle.scr_world.specs.Legal.{IsLegal}
use Rattle.scr_world.specs.Lists.{world_of}
use Rattle.scr_world.specs.Steps.{History, history_of}
use Rattle.scr_world.specs.declared.world.World.{World}
use Rattle.platform_hall.specs.Platforms.{world}
use Rattle.platform_hall.specs.Requests.{AnswersHere, HasReachObject}
use Rattle.platform_hall.proofs.Answering.{rises}
use Rattle.platform_hall.proofs.Objects.{active_has_object, whole}
use Rattle.platform_hall.proofs.Settlings.{HasLegal}

-- ---- what is known of whom a request reaches

nowhere_is : (w : World) (chosen : Option ℕ) → IsReachBy w chosen ToNowhere → chosen ≡ None
nowhere_is w None is = refl
nowhere_is w (Some service) is = absurd is

objectless_is : (w : World) (chosen : Option ℕ) (service : ℕ) → IsReachBy w chosen (ToObjectless service) → (chosen ≡ Some service) × (reached w service ≡ Objectless)
objectless_is w None service is = absurd cc
objectless_is w (Some s) service is = (ap (λ n. Some n) (sym is.0), ap (reached w) is.0 ∙ is.1)

ending_is : (w : World) (chosen : Option ℕ) (service : ℕ) → IsReachBy w chosen (ToEnding service) → (chosen ≡ Some service) × (reached w service ≡ Ending)
ending_is w None service is = absurd cc
ending_is w (Some s) service is = (ap (λ n. Some n) (sym is.0), ap (reached w) is.0 ∙ is.1)

pub standing_is : (w : World) (chosen : Option ℕ) (service : ℕ) (live : Live) → IsReachBy w chosen (ToStanding service live) → (chosen ≡ Some service) × (reached w service ≡ Standing live)
standing_is w None service live is = absurd cc
standing_is w (Some s) service live is = (ap (λ n. Some n) (sym is.0), ap (reached w) is.0 ∙ is.1)

-- ---- what it is answered then

module _ (next : Meaning) (p : CoreView) (r : Request) where
  abbrev front : ℕ
  front = length p.journal

  abbrev here : World
  here = world_up_to p.journal front

  -- nobody is reached
  abbrev nobody_at : ℕ → ℕ → ℕ → HallAnswer
  nobody_at place service status = record { front = place; service = service; nested = []; answer = answered r status 0 [] }

  abbrev by_nobody : ℕ → ℕ → HallAnswer
  by_nobody = nobody_at front

  pub so_told : (service status place : ℕ) (a : HallAnswer) → a ≡ nobody_at place service status → place ≡ front → AnswersHere next p r (by_nobody service status) → AnswersHere next p r a
  so_told service status place a is same answers =
      subst (λ x. AnswersHere next p r x) (sym is) (subst (λ n. AnswersHere next p r (nobody_at n service status)) (sym same) answers)

  -- an answer in the world of the whole journal is one at its length
  at_length : (a : HallAnswer) → a.front ≡ front → AnswersFor (world_up_to p.journal) next r (world p) (choice (world p) r.path) a → AnswersRequest (world_up_to p.journal) next r a
  at_length a same is =
      let To : World → Type 0 = λ w. AnswersFor (world_up_to p.journal) next r w (choice w r.path) a in
      subst (λ n. To (world_up_to p.journal n)) (sym same) (subst To (sym (whole p.journal)) is)

  for_chosen : (a : HallAnswer) (chosen : Option ℕ) → choice (world p) r.path ≡ chosen → AnswersFor (world_up_to p.journal) next r (world p) chosen a → AnswersFor (world_up_to p.journal) next r (world p) (choice (world p) r.path) a
  for_chosen a chosen same is = subst (λ c. AnswersFor (world_up_to p.journal) next r (world p) c a) (sym same) is

  at_reached : (service : ℕ) (a : HallAnswer) (to : Reached) → reached (world p) service ≡ to → AnswersAt (world_up_to p.journal) next r service to a.nested a.answer
      → AnswersAt (world_up_to p.journal) next r service (reached (world p) service) a.nested a.answer
  at_reached service a to same is = subst (λ x. AnswersAt (world_up_to p.journal) next r service x a.nested a.answer) (sym same) is

  pub nowhere_now : IsReachBy (world p) (choice (world p) r.path) ToNowhere → AnswersHere next p r (by_nobody 0 404)
  nowhere_now is =
      (refl, at_length (by_nobody 0 404) refl (for_chosen (by_nobody 0 404) None (nowhere_is (world p) (choice (world p) r.path) is) (refl, refl, refl)), rises front [] tt)

  pub objectless_now : (service : ℕ) → IsReachBy (world p) (choice (world p) r.path) (ToObjectless service) → AnswersHere next p r (by_nobody service 500)
  objectless_now service is =
      let known = objectless_is (world p) (choice (world p) r.path) service is in
      (refl, at_length (by_nobody service 500) refl (for_chosen (by_nobody service 500) (Some service) known.0 (refl, at_reached service (by_nobody service 500) Objectless known.1 (refl, refl))), rises front [] tt)

  pub ending_now : (service : ℕ) → IsReachBy (world p) (choice (world p) r.path) (ToEnding service) → AnswersHere next p r (by_nobody service 503)
  ending_now service is =
      let known = ending_is (world p) (choice (world p) r.path) service is in
      (refl, at_length (by_nobody service 503) refl (for_chosen (by_nobody service 503) (Some service) known.0 (refl, at_reached service (by_nobody service 503) Ending known.1 (refl, refl))), rises front [] tt)

  -- an instance is reached, and its call comes to its end
  pub standing_now : (service : ℕ) (live : Live) (nested : List NestedCall) (end : End) (answer : Answered) → IsReachBy (world p) (choice (world p) r.path) (ToStanding service live)
      → ComesToEnd (reaching (world_up_to p.journal)) next front (record { instance = live.instance; site = live.site; request = servlet_text r }) nested end
      → answer ≡ answer_by r service (ended_of end)
      → AnswersHere next p r (record { front = front; service = service; nested = nested; answer = answer })
  standing_now service live nested end answer is comes told =
      let a : HallAnswer = record { front = front; service = service; nested = nested; answer = answer } in
      let known = standing_is (world p) (choice (world p) r.path) service live is in
      (refl, at_length a refl (for_chosen a (Some service) known.0 (refl, at_reached service a (Standing live) known.1 (ended_of end, comes.0, told))), rises front nested comes.1)

-- an instance that a request reaches has its object
pub reach_object : (p : CoreView) → HasLegal p
    → ((limit : ℕ) (past : History) → IsLegal limit past → (path : List ℕ) (service : ℕ) (live : Live) → IsReach (world_of past) path (ToStanding service live) → IsActiveAt (world_of past) live.instance)
    → (path : List ℕ) (to : Reach) → IsReach (world p) path to → HasReachObject p to
reach_object p legal active path ToNowhere is = tt
reach_object p legal active path (ToObjectless service) is = tt
reach_object p legal active path (ToEnding service) is = tt
reach_object p legal active path (ToStanding service live) is = active_has_object p legal live.instance (active p.limits.journal (history_of p.journal) legal path service live is)
